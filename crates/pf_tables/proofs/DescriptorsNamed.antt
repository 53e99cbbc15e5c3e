-- The description that a descriptor names, as the tables find it and as the machine does.

use Rattle.std.proofs.Common.{◌≡◌, ℕ, suc, ◌-◌, Some, IsSome, is_some, Result, Ok, Err, sym, ap, ◌∙◌}
use Rattle.pf_tables.proofs.Refusals.{both_came, is_there, same_ok, stops_in_turn, goes_in_turn}
use Rattle.pf_tables.proofs.Common.{◌>>=◌, or_refuse, at, Errno, EBADF, find, ProcessRows, DescriptionRows, PipeRows}
use Rattle.pf_tables.proofs.Common.{Key, Named, Process, process_of, processes_of, ready_in, key_in, Tied, at-map}
use Rattle.pf_machine.proofs.MapLaws.{or_refuse-as, bind-as}
use Rattle.pf_machine.specs.Maps.{if_ok}
use Rattle.pf_machine.specs.State as machine
use Rattle.pf_machine.specs.Descriptors.{named}
use Rattle.pf_tables.specs.Rows.{Description}
use Rattle.pf_tables.proofs.ProcessTableReady.{ready_shown, readies, place_is}
use Rattle.pf_tables.proofs.TablesTied.{finds}
use Rattle.pf_tables.proofs.TablesShown.{find_at}

-- who has the key that the tables found
pub record Has (ps : ProcessRows) (pid fd : ℕ) (k : Key) : Type 0 where
  pub p : Process
  pub caller : ready_in ps pid ≡ Ok p
  pub names : at p.descriptors fd ≡ Some k
  pub is : key_in ps pid fd ≡ Ok k

pub has : (ps : ProcessRows) (pid fd : ℕ) {k : Key} → key_in ps pid fd ≡ Ok k → Has ps pid fd k
has ps pid fd is =
    let w = both_came (ready_in ps pid) (λ (p : Process). or_refuse EBADF (at p.descriptors fd)) is in
    record { p = w.0; caller = w.1; names = is_there EBADF (at w.0.descriptors fd) w.2; is = is }

-- the same where it is known who calls
abbrev pub has_by : (ps : ProcessRows) (pid fd : ℕ) {p : Process} {k : Key} → ready_in ps pid ≡ Ok p
    → key_in ps pid fd ≡ Ok k → Has ps pid fd k
has_by ps pid fd {p = p} caller is =
    let w = has ps pid fd is in
    record {
      p = p;
      caller = caller;
      names = ap (λ (q : Process). at q.descriptors fd) (same_ok (sym caller ∙ w.caller)) ∙ w.names;
      is = is;
    }

module _ {ps : ProcessRows} {ds : DescriptionRows} {pipes : PipeRows} (t : Tied ps ds pipes) (pid fd : ℕ) where
  -- its description stands
  pub key_row : {k : Key} → Has ps pid fd k → (d : Named Description) × (at ds k.serial ≡ Some (k.slot, d))
  key_row {k} w = finds ds k (t.finds (pid - 1) (suc fd) w.p k (place_is ps pid w.p w.caller) w.names)

  pub key_stands : {k : Key} → Has ps pid fd k → IsSome (find ds k.slot k.serial)
  key_stands {k} w = let row = key_row w in ap is_some (find_at ds k.slot k.serial row.0 row.1)

module _ (ps : ProcessRows) (pid fd : ℕ) where
  abbrev serial : Key → ℕ
  serial k = k.serial

  abbrev caller : Result (machine.Process ℕ) Errno
  caller = machine.ready_in (processes_of ps) pid

  -- the machine finds what the tables find
  key_shown : (caller >>= (λ p. named p fd)) ≡ if_ok serial (key_in ps pid fd)
  key_shown =
      ap (λ r. r >>= (λ p. named p fd)) (ready_shown ps pid)
      ∙ bind-as process_of serial (ready_in ps pid) (λ p. or_refuse EBADF (at p.descriptors fd)) (λ p. named p fd)
      (λ p. ap (or_refuse EBADF) (at-map serial p.descriptors fd) ∙ or_refuse-as serial EBADF (at p.descriptors fd))

  -- and a call goes on with it, or is refused
  module _ {A : Type 0} (go : machine.Process ℕ → ℕ → Result A Errno) where
    pub named_is : {k : Key} (w : Has ps pid fd k)
        → (caller >>= (λ p. named p fd >>= go p)) ≡ go (process_of w.p) k.serial
    named_is {k} w =
        goes_in_turn (λ p. named p fd) go caller (process_of w.p) k.serial (readies ps pid w.p w.caller)
        (key_shown ∙ ap (if_ok serial) w.is)

    pub names_nothing : {e : Errno} → key_in ps pid fd ≡ Err e → (caller >>= (λ p. named p fd >>= go p)) ≡ Err e
    names_nothing {e} h = stops_in_turn (λ p. named p fd) go caller e (key_shown ∙ ap (if_ok serial) h)
