-- FIFOs: the keys by which their pipes are found.

use Rattle.std.proofs.Common.{◌≡◌, ℕ, ◌≤◌, Bool, List, [], ◌∷◌, ◌++◌, length, Option, Some, None, refl, sym, ap, subst}
use Rattle.std.proofs.Common.{◌∙◌, arith, nat_eq, if◌then◌else◌, true, false}
use Rattle.std.proofs.lemmas.Bool.{eq-eqb, eqb-true}
use Rattle.std.proofs.lemmas.List.{map-set, map_push, length-map, length_push}
use Rattle.std.proofs.lemmas.Option.{some_pair_parts}
use Rattle.pf_tables.proofs.Common.{option_map, lookup, at, put_at, clear_at, unopened, ProcessRows, DescriptionRows}
use Rattle.pf_tables.proofs.Common.{PipeRows, Key, Pipe, Opens, opens_at, opens_of, NoMore, AreFifos, LetsGo}
use Rattle.pf_machine.specs.Opens.{is_of_file}
use Rattle.pf_machine.proofs.NumberedLaws.{at_within, at-put_other, at-push_new, at-push_old}
use Rattle.pf_tables.specs.Rows.{AreKeys, file_at, files_of}
use Rattle.pf_tables.specs.Tables.{Forgets}
use Rattle.pf_tables.proofs.TablesTied.{by_set, by_push, once}
use Rattle.pf_tables.proofs.PipesOpen.{Puts, reading, writing, two_ended}
use Rattle.pf_tables.proofs.Refusals.{same_some}
use Rattle.pf_tables.proofs.TablesShown.{shown, shown_same}

-- whose file it is
pub of_file : (file : ℕ) (o : Option ℕ) → is_of_file file o ≡ true → o ≡ Some file
of_file file None h = absurd (cc)
of_file file (Some n) h = ap Some (eqb-true n file h)

pub is_of : (file : ℕ) (o : Option ℕ) → o ≡ Some file → is_of_file file o ≡ true
is_of file o e = ap (is_of_file file) e ∙ eq-eqb file file refl

-- Nothing is open
pub no_fifos : (es : List (ℕ × Key)) (pipes : PipeRows) (drawn : ℕ) → es ≡ [] → pipes ≡ []
    → AreFifos es drawn (opens_of pipes)
no_fifos es pipes drawn none no_pipe =
    rw (none, no_pipe)
    (record {
      keys = record { finds = λ file k h. absurd (cc); there = λ n place file h. absurd (cc) };
      few = λ n o h. absurd (cc);
    })

-- As many descriptions were drawn, and each pipe is as open as before
pub fifos-same : (es : List (ℕ × Key)) {drawn more : ℕ} {opens after : List (Option (ℕ × Opens))} → drawn ≤ more
    → after ≡ opens → AreFifos es drawn opens → AreFifos es more after
fifos-same es {drawn} {more} le same a =
    subst (AreFifos es more) (sym same)
    (record {
      keys = a.keys;
      few = λ n o h. let few = a.few n o h in (omega (arith, few.0, le), omega (arith, few.1, le));
    })

-- a pipe's opens stay
pub fifos-put : (es : List (ℕ × Key)) {drawn : ℕ} (pipes : PipeRows) (k : Key) (r w : Pipe)
    → at pipes k.serial ≡ Some (k.slot, r) → w.opens ≡ r.opens → AreFifos es drawn (opens_of pipes)
    → AreFifos es drawn (opens_of (put_at pipes k.serial (k.slot, w)))
fifos-put es pipes k r w stands same =
    fifos-same es (omega arith)
    (shown_same opens_at pipes k.serial (k.slot, r) (k.slot, w) stands (ap (λ (o : Opens). (k.slot, o)) same))

-- some descriptions change, and none is drawn
pub fifos-changed : (es : List (ℕ × Key)) {opens : List (Option (ℕ × Opens))} (ds ds' : DescriptionRows)
    → length ds' ≡ length ds → AreFifos es (length ds) opens → AreFifos es (length ds') opens
fifos-changed es ds ds' same a = fifos-same es (omega (arith, same)) refl a

-- The key of one FIFO is another one now, or gone; where `file` is none, all keys are as they were
module _ (es fs : List (ℕ × Key)) (file : Option ℕ) (new : Option Key)
    (updates : (f : ℕ) → lookup (nat_eq f) fs ≡ (if is_of_file f file then new else lookup (nat_eq f) es)) where
  by_test : (f : ℕ) (b : Bool) → is_of_file f file ≡ b
      → lookup (nat_eq f) fs ≡ (if b then new else lookup (nat_eq f) es)
  by_test f b e = updates f ∙ ap (λ b. if b then new else lookup (nat_eq f) es) e

  mine : (f : ℕ) → file ≡ Some f → lookup (nat_eq f) fs ≡ new
  mine f e = by_test f true (is_of f file e)

  -- it is that one, or keeps its key
  by_file : (f : ℕ) {P : Type 0} → (file ≡ Some f → P)
      → (lookup (nat_eq f) fs ≡ lookup (nat_eq f) es → (file ≡ Some f → ⊥) → P) → P
  by_file f {P} same other = by_case (is_of_file f file) refl
    where
      by_case : (b : Bool) → is_of_file f file ≡ b → P
      by_case true e = same (of_file f file e)
      by_case false e = other (by_test f false e) (λ g. let of = is_of f file g in absurd (cc))

  module _ (files : List (Option (ℕ × Option ℕ))) (place : ℕ) (a : AreKeys es files) where
    -- its pipe comes
    keys-pushed : new ≡ Some (record { slot = place; serial = length files })
        → ((f : ℕ) → file ≡ Some f → lookup (nat_eq f) es ≡ None) → AreKeys fs (files ++ Some (place, file) ∷ [])
    keys-pushed new_is closed = record {
      finds = λ f k h. by_file f
          (λ e. let it = same_some (sym new_is ∙ sym (mine f e) ∙ h) in
          ap (at (files ++ Some (place, file) ∷ [])) (ap (λ (j : Key). j.serial) (sym it))
          ∙ at-push_new files (Some (place, file)) ∙ (λ i. Some ((it i).slot, e i)))
          (λ same _. let w = a.finds f k (sym same ∙ h) in
          at-push_old files (Some (place, file)) k.serial (at_within files k.serial (k.slot, Some f) w) ∙ w);
      there = λ n p f. by_push (λ j y. y ≡ Some (p, Some f)
          → lookup (nat_eq f) fs ≡ Some (record { slot = p; serial = j })) files (Some (place, file))
          (λ h. let it = some_pair_parts place p file (Some f) h in
          mine f it.1 ∙ new_is ∙ ap (λ q. Some (record { slot = q; serial = length files })) it.0)
          (λ j _ h. by_file f (λ e. let none = sym (closed f e) ∙ a.there j p f h in absurd (cc))
          (λ same _. same ∙ a.there j p f h)) n;
    }

    -- or goes
    keys-cleared : (n : ℕ) → at files n ≡ Some (place, file) → new ≡ None → AreKeys fs (clear_at files n)
    keys-cleared n stands gone = record {
      finds = λ f k h. by_file f (λ e. let none = sym gone ∙ sym (mine f e) ∙ h in absurd (cc))
          (λ same other. let w = a.finds f k (sym same ∙ h) in
          at-put_other files n k.serial None
          (λ e. other (some_pair_parts place k.slot file (Some f) (sym stands ∙ ap (at files) (sym e) ∙ w)).1) ∙ w);
      there = λ j p f. by_set (λ j y. y ≡ Some (p, Some f)
          → lookup (nat_eq f) fs ≡ Some (record { slot = p; serial = j })) files n None
          (at_within files n (place, file) stands) (λ h. absurd (cc))
          (λ j ne h. by_file f
          (λ e. let one = a.there n place f (stands ∙ ap (λ x. Some (place, x)) e) in
          absurd (ne (ap (λ (k : Key). k.serial) (same_some (sym (a.there j p f h) ∙ one)))))
          (λ same _. same ∙ a.there j p f h)) j;
    }

-- one more pipe, of a FIFO that had none or of no FIFO
pub fifos-pushed : (es fs : List (ℕ × Key)) {drawn more : ℕ} (opens : List (Option (ℕ × Opens))) (place : ℕ) (o : Opens)
    → drawn ≤ more → NoMore more (place, o)
    → ((f : ℕ) → lookup (nat_eq f) fs ≡ (if is_of_file f o.file
    then Some (record { slot = place; serial = length opens }) else lookup (nat_eq f) es))
    → ((f : ℕ) → o.file ≡ Some f → lookup (nat_eq f) es ≡ None) → AreFifos es drawn opens
    → AreFifos fs more (opens ++ Some (place, o) ∷ [])
fifos-pushed es fs {drawn} {more} opens place o le few updates closed a = record {
  keys =
      subst (AreKeys fs) (sym (map_push (option_map file_at) opens (Some (place, o))))
      (keys-pushed es fs o.file (Some (record { slot = place; serial = length opens })) updates (files_of opens) place
      a.keys (ap (λ m. Some (record { slot = place; serial = m })) (sym (length-map opens (option_map file_at))))
      closed);
  few = λ k x. by_push (λ _ y. y ≡ Some x → NoMore more x) opens (Some (place, o))
      (λ h. subst (NoMore more) (same_some h) few) (λ j _ h. (fifos-same es le refl a).few j x h) k;
}

-- a pipe that pipe(2) made
pub more_opens : (es : List (ℕ × Key)) (ds : DescriptionRows) (pipes : PipeRows) {ps ps' : ProcessRows}
    {ds' : DescriptionRows} {pipes' : PipeRows} {pid slots owner : ℕ} {free : ℕ × ℕ} {nonblocking : Bool}
    → Puts ps ds pipes pid free nonblocking slots owner ps' ds' pipes' → AreFifos es (length ds) (opens_of pipes)
    → AreFifos es (length ds') (opens_of pipes')
more_opens es ds pipes {ds' = ds'} {slots = slots} {owner = owner} {nonblocking = nonblocking} m a =
    let one = length_push ds (Some (m.j.slot, once (reading m.r nonblocking))) in
    let two =
    length_push (ds ++ Some (m.j.slot, once (reading m.r nonblocking)) ∷ [])
    (Some (m.k.slot, once (writing m.r nonblocking))) in
    subst (AreFifos es (length ds')) (sym (ap opens_of m.piped_to
    ∙ map_push (option_map opens_at) pipes (Some (m.r.slot, two_ended slots owner))))
    (fifos-pushed es es (opens_of pipes) m.r.slot (unopened None) (omega (arith, one, two, ap length m.named_to))
    (omega arith, omega arith) (λ f. refl) (λ f e. absurd (cc)) a)

-- A pipe goes, which is of a FIFO, whose key goes too, or of none
pub fifos-gone : (es fs : List (ℕ × Key)) {drawn more : ℕ} {opens after : List (Option (ℕ × Opens))} (p : Pipe)
    → more ≡ drawn → LetsGo opens_at opens after (Some p) → Forgets p.opens.file es fs → AreFifos es drawn opens
    → AreFifos fs more after
fifos-gone es fs {drawn} {more} {opens} {after} p same g forgets a =
    rw (same, g.3)
    (record {
      keys =
          subst (AreKeys fs) (sym (map-set (option_map file_at) opens g.0 None))
          (keys-cleared es fs p.opens.file None (updates p.opens.file forgets) (files_of opens) g.1 a.keys g.0
          (shown file_at opens g.0 (g.1, p.opens) g.2) refl);
      few = λ k x. by_set (λ _ y. y ≡ Some x → NoMore drawn x) opens g.0 None
          (at_within opens g.0 (g.1, p.opens) g.2) (λ h. absurd (cc)) (λ j _ h. a.few j x h) k;
    })
  where
    updates : (file : Option ℕ) → Forgets file es fs → (f : ℕ)
        → lookup (nat_eq f) fs ≡ (if is_of_file f file then None else lookup (nat_eq f) es)
    updates None h f = ap (lookup (nat_eq f)) h
    updates (Some file) h f = h f
