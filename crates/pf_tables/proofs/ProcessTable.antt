-- The processes stay as many places, and an open that waits keeps a descriptor to come; and those that wait in a call
-- are marked.

use Rattle.std.proofs.Common.{◌≡◌, ◌≢◌, false, is_some, ℕ, zero, suc, ◌-◌, ◌<◌, ◌≤◌, List, [], ◌∷◌, length, set}
use Rattle.std.proofs.Common.{length-set, subst, Option, Some, None, Ok, IsOk, refl, sym, ap, ◌∙◌, arith}
use Rattle.pf_machine.specs.State.{vacant}
use Rattle.pf_tables.proofs.Common.{at, put_at, clear_at, first_free, ◌>>=◌, ◌>>◌, refuse_if, or_refuse, MAX_PROCESSES}
use Rattle.pf_tables.proofs.Common.{ESRCH, EBUSY, Open, Cross, Key, Process, ProcessRows, ready_in, at_within, IsSpare}
use Rattle.pf_tables.proofs.Common.{awake}
use Rattle.pf_fds.specs.declared.marks.Marks.{Marks}
use Rattle.pf_fds.specs.Marks.{is_marked}
use Rattle.pf_parked.specs.declared.call.Call.TheVariants.{Read, Write}
use Rattle.pf_tables.specs.Rows.{Call, IsWatched, MayWait, process_at, waits, with_call}
use Rattle.pf_tables.proofs.TablesTied.{by_set}
use Rattle.pf_tables.proofs.ProcessTableEmpty.{vacant_at, length-vacant}

first_free-clear : {X : Type 0} (xs : List (Option X)) (k : ℕ) → first_free (clear_at xs k) ≤ first_free xs
first_free-clear [] k = omega arith
first_free-clear (None ∷ xs) zero = omega arith
first_free-clear (None ∷ xs) (suc k) = omega arith
first_free-clear (Some x ∷ xs) zero = omega arith
first_free-clear (Some x ∷ xs) (suc k) = omega (arith, first_free-clear xs k)

-- Who keeps a descriptor to come

-- one that waits in no call
pub quiet : (p : Process) (ks : List (Option Key)) (call : Option (Call Key)) → call ≡ None
    → IsSpare (record p { descriptors = ks; parked = call })
quiet p ks call none description kept waits = absurd (cc)

-- one with a descriptor less
pub cleared : (p : Process) → IsSpare p → (fd : ℕ) (ks : List (Option Key)) → ks ≡ clear_at p.descriptors fd
    → IsSpare (record p { descriptors = ks })
cleared p spare fd ks is description kept waits =
    omega (arith, ap first_free is, first_free-clear p.descriptors fd, spare description kept waits)

-- one that was ready, with other descriptors or with a call
module _ {ps rows : ProcessRows} (is : ps ≡ rows) (pid : ℕ) (ready : IsOk (ready_in rows pid)) (p : Process)
    (there : at ps (pid - 1) ≡ Some p) where
  found : process_at rows pid ≡ Some p
  found = by_pid pid ready there
    where
      by_pid : (n : ℕ) → IsOk (ready_in rows n) → at ps (n - 1) ≡ Some p → process_at rows n ≡ Some p
      by_pid zero h e = absurd (cc)
      by_pid (suc k) h e =
          let same : suc k - 1 ≡ k = omega arith in ap (λ xs. at xs k) (sym is) ∙ ap (at ps) (sym same) ∙ e

  idle : p.parked ≡ None
  idle = by_call p.parked (subst (λ o. IsOk (or_refuse ESRCH o >>= awake)) found ready)
    where
      by_call : (c : Option (Call Key)) → IsOk (refuse_if (is_some c) EBUSY >> Ok p) → c ≡ None
      by_call None h = refl
      by_call (Some call) h = absurd (cc)

  pub given : (ks : List (Option Key)) → IsSpare (record p { descriptors = ks })
  given ks = quiet p ks p.parked idle

  pub parked : (call : Call Key) → MayWait call (process_at rows pid) → IsSpare (with_call (Some call) p)
  parked call may = by_call call (subst (MayWait call) found may)
    where
      by_call : (c : Call Key) → MayWait c (Some p) → IsSpare (with_call (Some c) p)
      by_call (Open d n) free description kept e = free
      by_call (Read fd n) free description kept e = absurd (cc)
      by_call (Write fd write) free description kept e = absurd (cc)
      by_call (Cross crossing source sink n) free description kept e = absurd (cc)

-- Just those are marked whose processes wait in a call
module _ (m : Marks) (ps : ProcessRows) (s : IsWatched m ps) where
  -- another process in a place, or none
  watched : (m' : Marks) (i : ℕ) (x : Option Process) → i < MAX_PROCESSES → ((p : Process) → x ≡ Some p → IsSpare p)
      → is_marked m' i ≡ waits x
      → ((k : ℕ) → k < MAX_PROCESSES → k ≢ i → is_marked m' k ≡ is_marked m k) → IsWatched m' (set ps i x)
  watched m' i x l spare here others =
      let within : i < length ps = omega (arith, s.seated.places) in record {
        seated = record {
          places = length-set ps i x ∙ s.seated.places;
          spare = by_set (λ _ y. (r : Process) → y ≡ Some r → IsSpare r) ps i x within spare (λ j _. s.seated.spare j);
        };
        marked =
            by_set (λ k y. k < MAX_PROCESSES → is_marked m' k ≡ waits y) ps i x within (λ _. here)
            (λ k other l. others k l other ∙ s.marked k l);
      }

  -- one in the place of another
  pub replaced : (m' : Marks) (i : ℕ) (p q : Process) → at ps i ≡ Some p → IsSpare q
      → is_marked m' i ≡ is_some q.parked
      → ((k : ℕ) → k < MAX_PROCESSES → k ≢ i → is_marked m' k ≡ is_marked m k) → IsWatched m' (put_at ps i q)
  replaced m' i p q there spare =
      watched m' i (Some q) (omega (arith, at_within ps i p there, s.seated.places))
      (λ r e. let it : q ≡ r = cc in subst IsSpare it spare)

  -- which waits as that did
  pub still_watched : (i : ℕ) (p q : Process) → at ps i ≡ Some p → IsSpare q → q.parked ≡ p.parked
      → IsWatched m (put_at ps i q)
  still_watched i p q there spare same =
      replaced m i p q there spare
      (s.marked i (omega (arith, at_within ps i p there, s.seated.places)) ∙ ap waits there ∙ sym (ap is_some same))
      (λ k within other. refl)

  -- who comes waits in no call
  pub put_watched : (i : ℕ) (p : Process) → i < MAX_PROCESSES → at ps i ≡ None → p.parked ≡ None
      → IsWatched m (put_at ps i p)
  put_watched i p l free idle =
      watched m i (Some p) l (λ q e. let it : p ≡ q = cc in subst IsSpare it (quiet p p.descriptors p.parked idle))
      (s.marked i l ∙ ap waits free ∙ sym (ap is_some idle)) (λ k within other. refl)

  -- who goes waits no more
  pub gone_watched : (m' : Marks) (i : ℕ) → i < MAX_PROCESSES → is_marked m' i ≡ false
      → ((k : ℕ) → k < MAX_PROCESSES → k ≢ i → is_marked m' k ≡ is_marked m k) → IsWatched m' (clear_at ps i)
  gone_watched m' i l = watched m' i None l (λ p e. absurd (cc))

pub bare_watched : (m : Marks) (ps : ProcessRows) → ((k : ℕ) → k < MAX_PROCESSES → is_marked m k ≡ false)
    → ps ≡ vacant MAX_PROCESSES → IsWatched m ps
bare_watched m ps none bare = record {
  seated = record {
    places = ap length bare ∙ length-vacant Process MAX_PROCESSES;
    spare = λ i p there. let gap = nobody i in absurd (cc);
  };
  marked = λ i l. none i l ∙ sym (ap waits (nobody i));
}
  where
    nobody : (i : ℕ) → at ps i ≡ None
    nobody i = ap (λ xs. at xs i) bare ∙ vacant_at MAX_PROCESSES i
