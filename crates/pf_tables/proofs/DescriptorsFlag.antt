-- A description gets O_NONBLOCK or loses it, in the meaning of the state that it leaves.

use Rattle.std.proofs.Common.{◌≡◌, ℕ, Bool, [], set, Option, Some, Result, Ok, refl, sym, ap, ◌∙◌}
use Rattle.pf_tables.proofs.TablesShown.{shown_change, find_at}
use Rattle.pf_tables.proofs.Refusals.{same_some}
use Rattle.pf_tables.proofs.Common.{option_map, Files, Limits, at, put_at, change_at, itself, State, Outcome, of_ready}
use Rattle.pf_tables.proofs.Common.{done, Errno, Num, find, UserPages, Window, Namespace, ProcessRows, DescriptionRows}
use Rattle.pf_tables.proofs.Common.{PipeRows, Key, Named, Description, description_of, descriptions_of, state_of, Kept}
use Rattle.pf_tables.proofs.Common.{Makes}
use Rattle.pf_machine.specs.Descriptors.{with_nonblocking, set_nonblock}
use Rattle.pf_fds.specs.Descriptions.{revalued}
use Rattle.pf_tables.proofs.TablesTied.{redescribed, place_and_end, names_row}
use Rattle.pf_tables.proofs.DescriptorsNamed.{Has, key_row, named_is}
use Rattle.pf_tables.proofs.TablesSettled.{makes}

-- the same end with the flag, or without
abbrev pub flag : Bool → Description → Description
flag on d = record d { nonblocking = on }

module _ {charges : UserPages} {limits : Limits} {ps : ProcessRows} {ds : DescriptionRows} {pipes : PipeRows}
    {files : Files} {files_made : ℕ} (kept : Kept charges ps ds pipes) {n : Namespace}
    (view : record { limits = limits; state = state_of ps ds pipes files files_made } ≡ n) {pid fd : ℕ} {k : Key}
    (w : Has ps pid fd k) (d : Description)
    (handed : option_map (λ (e : Named Description). e.value) (find ds k.slot k.serial) ≡ Some d) (on : Bool) where
  row : (e : Named Description) × (at ds k.serial ≡ Some (k.slot, e))
  row = key_row kept.tied pid fd w

  same : row.0.value ≡ d
  same =
      same_some (sym (ap (option_map (λ (e : Named Description). e.value)) (find_at ds k.slot k.serial row.0 row.1))
      ∙ handed)

  abbrev after : DescriptionRows
  after = change_at (revalued (flag on d)) ds k.serial

  abbrev row' : ℕ × Named Description
  row' = (k.slot, record row.0 { value = flag on row.0.value })

  after_is : after ≡ put_at ds k.serial row'
  after_is =
      ap (λ (o : Option (ℕ × Named Description)). set ds k.serial (option_map (revalued (flag on d)) o)) row.1
      ∙ ap (λ (x : Description). put_at ds k.serial (k.slot, record row.0 { value = flag on x })) (sym same)

  pub flagged-kept : Kept charges ps after pipes
  flagged-kept = record {
    tied = rw after_is
        (redescribed kept.tied k.serial (k.slot, row.0) row.1 (Some row') [] []
        (place_and_end pipes k.slot row'.1 (kept.tied.is_end k.serial (k.slot, row.0) row.1))
        tt (λ m ne. refl) (names_row k row.0 row.1 kept.tied) tt (λ m. refl) (λ m. refl));
    charged = kept.charged;
  }

  abbrev call : State Window ℕ → Result (Outcome Window ℕ) Errno
  call t = of_ready t pid (λ q. set_nonblock itself t q fd on)

  pub flagged : Makes n (record { limits = limits; state = state_of ps after pipes files files_made }) (call n.state)
      (Num 0)
  flagged =
      let s : State Window ℕ = state_of ps ds pipes files files_made in
      makes flagged-kept.tied files files_made view refl call (Num 0)
      (named_is ps pid fd _ w
      ∙ ap (λ xs. Ok (done (record s { descriptions = xs }) 0))
      (sym (ap descriptions_of after_is
      ∙ shown_change description_of (with_nonblocking on) ds k.serial (k.slot, row.0) row' row.1 refl)))
