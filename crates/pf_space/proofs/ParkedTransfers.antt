-- A call that waits, and one that is tried again: what the machine says of it, from what the tables did.

use Rattle.std.proofs.Common.{◌≡◌, ◌≢◌, ◌⊎◌, inl, inr, ℕ, ◌+◌, ◌-◌, Bool, true, false, ◌&&◌, ◌||◌, List, length, Option}
use Rattle.std.proofs.Common.{Some, None, is_some, Result, Ok, Err, refl, sym, ap, subst, ◌∙◌, arith, nat_eq, nat_lt}
use Rattle.std.proofs.Common.{if◌then◌else◌}
use Rattle.std.proofs.lemmas.Bool.{ne_eqb}
use Rattle.pf_tables.proofs.Refusals.{both_came, not_refused, is_there, same_ok, is_none, bind-bind}
use Rattle.pf_space.proofs.Common.{option_map, Reading, Writing, Bringing, Call, Moving, at, change_at, Segment, ◌>>=◌}
use Rattle.pf_space.proofs.Common.{or_refuse, itself, State, Process, ready, sweep, Tried, Finished, Waits}
use Rattle.pf_space.proofs.Common.{transfer_told, Errno, ESRCH, Fault, Progress, Moved, WouldBlock, EndOfFile, NoReader}
use Rattle.pf_space.proofs.Common.{Reply, Live, Window, Namespace, meaning, Owns, Told, tried_call, is_nonblocking_at}
use Rattle.pf_space.proofs.Common.{waits_in, settled}
use Rattle.pf_machine.specs.Calls.{Transfer, made_by}
use Rattle.pf_machine.specs.Counts.{named_in, names_of, names}
use Rattle.pf_machine.proofs.HoldsLaws.{Holds, carries, passes, of_given}
use Rattle.pf_machine.specs.Numbered.{sum_of, weight, one_if, keep}
use Rattle.pf_machine.proofs.NumberedLaws.{at_within, sum_of-set}
use Rattle.pf_machine.specs.Progress.{moved}
use Rattle.pf_machine.specs.Refusals.{◌>>◌, refuse_if}
use Rattle.pf_machine.specs.State.{End, process, reading_end, writing_end, change_process, waiting}
use Rattle.pf_machine.specs.Sweep.{live_descriptions, live_pipes}
use Rattle.pf_machine.specs.Transfers.{tried, two_ends, try_read, try_write, try_cross}
use Rattle.pf_machine.specs.Attempts.{Attempt, attempt, first, is_nonblocking, nonblocking, transfer}
use Rattle.pf_base.specs.declared.TheConstants.{MAX_WRITE}
use Rattle.pf_base.specs.declared.errno.Errno.TheVariants.{EBUSY, EINVAL}
use Rattle.pf_base.specs.declared.fault.Fault.TheVariants as faults
use Rattle.pf_base.specs.declared.progress.Crossing.{Crossing}
use Rattle.pf_base.specs.declared.step.Reply.TheVariants as replies
use Rattle.pf_parked.specs.UnfinishedWrite.{UnfinishedWrite}
use Rattle.pf_tables.specs.Told.{Came, Refused, IsShort, attempted, flag_of, transferred}
use Rattle.pf_tables.proofs.TablesShown.{place_in}
use Rattle.pf_space.proofs.Books.{flag-meaning}

-- Another call of a process, which is no open: nothing that was swept comes back

module _ {X : Type 0} (s : State X ℕ) (pid : ℕ) (p : Process ℕ) (stands : at s.processes (pid - 1) ≡ Some p)
    (bare : made_by p.parked ≡ None) (c : Option (Call ℕ)) (moving : made_by c ≡ None) where
  same_names : (n : ℕ) → names itself (change_process (waiting c) s pid).processes n ≡ names itself s.processes n
  same_names n =
      let h : Process ℕ → ℕ = λ p. named_in itself n (names_of p) in
      let y : Option (Process ℕ) = option_map (waiting c) (at s.processes (pid - 1)) in
      let new : weight h y ≡ weight h (Some p) =
      ap (λ o. weight h (option_map (waiting c) o)) stands
      ∙ ap (λ o. weight (λ m. one_if (nat_eq m n)) o + sum_of (λ m. one_if (nat_eq m n)) p.descriptors)
      (moving ∙ sym bare) in
      let changed = sum_of-set h s.processes (pid - 1) y (at_within s.processes (pid - 1) p stands) in
      omega (arith, changed, new, ap (weight h) stands)

  pub sweep-waiting : sweep itself (change_process (waiting c) s pid) ≡ change_process (waiting c) (sweep itself s) pid
  sweep-waiting =
      let live : live_descriptions itself (change_process (waiting c) s pid).processes s.descriptions
      ≡ live_descriptions itself s.processes s.descriptions =
      λ i. keep (λ n. nat_lt 0 (same_names n i)) s.descriptions in
      λ i. record s {
        processes = change_at (waiting c) s.processes (pid - 1);
        descriptions = live i;
        pipes = live_pipes itself (live i) s.pipes;
      }

-- What was tried

-- a transfer changes no process
abbrev Stays : State Segment ℕ → Tried → Type 0
Stays s r = r.state.processes ≡ s.processes

tried-stays : (s : State Segment ℕ) (p : Process ℕ) (t : Transfer) → Holds (Stays s) (tried s p t)
tried-stays s p (Reading fd n) =
    carries (Stays s) (reading_end itself s p fd) (λ e. Ok (try_read s e n)) (λ e. refl)
tried-stays s p (Writing fd x written) =
    let goes : End Segment ℕ → Result Tried Errno = λ e. Ok (try_write s e x written) in
    carries (Stays s) (writing_end itself s p fd) (λ e. refuse_if (nat_lt MAX_WRITE (length x)) EINVAL >> goes e)
    (λ e. passes (Stays s) (refuse_if (nat_lt MAX_WRITE (length x)) EINVAL) (goes e) refl)
tried-stays s p (Bringing c source sink n) =
    carries (Stays s) (two_ends s p source sink) (λ e. Ok (try_cross c s e n)) (λ e. refl)

-- who is ready stands in its place, and waits in no call
pub record IsReady (s : State Segment ℕ) (pid : ℕ) (p : Process ℕ) : Type 0 where
  pub stands : at s.processes (pid - 1) ≡ Some p
  pub awake : p.parked ≡ None

pub is_ready : (s : State Segment ℕ) (pid : ℕ) (p : Process ℕ) → ready s pid ≡ Ok p → IsReady s pid p
is_ready s pid p h =
    let test : Process ℕ → Result (Process ℕ) Errno = λ q. refuse_if (is_some q.parked) EBUSY >> Ok q in
    let w = both_came (or_refuse ESRCH (process s pid)) test h in
    let came = not_refused (is_some w.0.parked) EBUSY (Ok w.0) w.2 in
    let same : w.0 ≡ p = same_ok came.1 in
    record {
      stands = place_in s pid (is_there ESRCH (process s pid) w.1) ∙ ap Some same;
      awake = ap (λ (q : Process ℕ). q.parked) (sym same) ∙ is_none w.0.parked came.0;
    }

-- a call goes on from what its transfer came to
pub called : (s : State Segment ℕ) (pid : ℕ) (nonblock : Bool) (t : Transfer) {q : Result Tried Errno}
    → attempted s pid t ≡ q
    → tried_call s pid nonblock t ≡ (q >>= (λ r. transfer_told t r r.progress >>= first pid nonblock))
called s pid nonblock t h =
    let told : Tried → Result (Attempt Segment ℕ) Errno = λ r. transfer_told t r r.progress in
    (λ i. ready s pid >>= (λ p. sym (bind-bind (tried s p t) told (first pid nonblock)) i))
    ∙ bind-bind (ready s pid) (λ p. tried s p t) (λ r. told r >>= first pid nonblock)
    ∙ ap (λ q. q >>= (λ r. told r >>= first pid nonblock)) h

-- What was done over a door
module _ {D : Type 0} (live : D → Live) {x y : D} where
  module _ {old mid : Namespace} {pid : ℕ} {t : Transfer} {progress : Progress} {Is : Tried → Type 0}
      (came : Came live x y old mid pid t progress Is) where
    abbrev s : State Segment ℕ
    s = meaning (live x) old.state

    -- a process that is ready tried it
    w : (p : Process ℕ) × (ready s pid ≡ Ok p) × (tried s p t ≡ Ok came.tried)
    w = both_came (ready s pid) (λ p. tried s p t) came.is

    here : IsReady s pid w.0
    here = is_ready s pid w.0 w.1

    -- It parks
    module _ {new : Namespace} (c : Call ℕ) (moving : made_by (Some c) ≡ None)
        (waits : transfer_told t came.tried came.tried.progress ≡ Ok (Waits came.tried.state c))
        (waits_now : new ≡ waits_in (Some c) mid pid) where
      now_waits : sweep itself (change_process (waiting (Some c)) came.tried.state pid)
          ≡ change_process (waiting (Some c)) (sweep itself came.tried.state) pid
      now_waits =
          let stays : Stays s came.tried = of_given (Stays s) (tried s w.0 t) came.tried w.2 (tried-stays s w.0 t) in
          sweep-waiting came.tried.state pid w.0 (ap (λ ps. at ps (pid - 1)) stays ∙ here.stands)
          (ap made_by here.awake) (Some c) moving

      pub parks : Told (live x) (live y) old new (Ok replies.Parked) (tried_call s pid false t)
      parks = record {
        owns =
            subst (Owns (live y)) (sym waits_now) (record { joined = came.owns.joined; reserve = came.owns.reserve });
        limits = ap (λ (n : Namespace). n.limits) waits_now ∙ came.limits;
        says =
            ap settled (called s pid false t came.is ∙ ap (λ a. a >>= first pid false) waits)
            ∙ ap (λ (z : State Segment ℕ). Ok (record { state = z; reply = replies.Parked }))
            (now_waits ∙ ap (λ (z : State Segment ℕ). change_process (waiting (Some c)) z pid) (sym came.state))
            ∙ ap (λ (n : Namespace). Ok (record { state = meaning (live y) n.state; reply = replies.Parked }))
            (sym waits_now);
      }

    -- one that moved nothing, and that nobody asked not to wait: of the namespace as it was then, and so as it is
    pub waits_first : {new before : Namespace} → old ≡ before → progress ≡ WouldBlock
        → transfer_told t came.tried WouldBlock ≡ Ok (Waits came.tried.state (Moving t))
        → new ≡ waits_in (Some (Moving t)) mid pid → (asked : State Window ℕ → Bool) → asked mid.state ≡ false
        → Told (live x) (live y) before new (Ok replies.Parked)
        (tried_call (meaning (live x) before.state) pid (asked before.state) t)
    waits_first {new} view is waits now asked nobody =
        subst (λ (o : Namespace). Told (live x) (live y) o new (Ok replies.Parked)
        (tried_call (meaning (live x) o.state) pid (asked o.state) t)) view
        (subst (λ b. Told (live x) (live y) old new (Ok replies.Parked) (tried_call s pid b t))
        (sym nobody ∙ ap (λ (n : Namespace). asked n.state) (came.untouched (ap moved is)).0)
        (parks (Moving t) refl (ap (transfer_told t came.tried) (came.progress_is ∙ is) ∙ waits) now))

    -- It is finished
    pub finishes : (reply : Reply)
        → transfer_told t came.tried came.tried.progress ≡ Ok (Finished came.tried.state reply)
        → Told (live x) (live y) old mid (Ok reply) (tried_call s pid false t)
    finishes reply finished = record {
      owns = came.owns;
      limits = came.limits;
      says =
          ap settled (called s pid false t came.is ∙ ap (λ a. a >>= first pid false) finished)
          ∙ ap (λ (z : State Segment ℕ). Ok (record { state = z; reply = reply })) (sym came.state);
    }

  -- or refused
  pub refuses : {old new before : Namespace} (pid : ℕ) (t : Transfer) {e : Errno} → Refused live x y old new pid t e
      → old ≡ before → Owns (live x) before → (b : Bool)
      → Told (live x) (live y) before new (Err (faults.Errno e)) (tried_call (meaning (live x) before.state) pid b t)
  refuses {old} {new} {before} pid t {e} refused view owns b =
      subst (λ (o : Namespace). Told (live x) (live y) o new (Err (faults.Errno e))
      (tried_call (meaning (live x) o.state) pid b t)) view
      (let still = refused.1 in record {
        owns = subst (Owns (live y)) (sym still.0) (subst (λ z. Owns (live z) old) (sym still.1)
            (subst (Owns (live x)) (sym view) owns));
        limits = ap (λ (n : Namespace). n.limits) still.0;
        says =
            (called (meaning (live x) old.state) pid b t refused.0, λ i. meaning (live (still.1 i)) (still.0 i).state);
      })

-- It doesn't wait

-- the descriptions say so: the tables', and those of what they mean
flagged : (f : Live) (s : State Window ℕ) (pid fd : ℕ) (p : Process ℕ) → ready s pid ≡ Ok p
    → is_nonblocking_at s pid fd ≡ is_nonblocking (meaning f s) p fd
flagged f s pid fd p h = ap (flag_of s fd) h ∙ sym (flag-meaning f s p fd)

-- so a first call that is tried, where it is known whether it may wait, is the machine's
tried_first : (s : State Segment ℕ) (pid : ℕ) (flag b : Bool) (t : Transfer)
    → ((p : Process ℕ) → ready s pid ≡ Ok p → b ≡ (flag || nonblocking s p t))
    → tried_call s pid b t ≡ transferred s pid flag t
tried_first s pid flag b t is = by_caller (ready s pid) refl
  where
    by_caller : (q : Result (Process ℕ) Errno) → ready s pid ≡ q
        → (q >>= (λ p. attempt s pid p (Moving t) >>= first pid b)) ≡ (q >>= (λ p. transfer s pid p flag t))
    by_caller (Ok p) h = ap (λ c. attempt s pid p (Moving t) >>= first pid c) (is p h)
    by_caller (Err e) h = refl

pub read_flag : (f : Live) (s : State Window ℕ) (pid fd n : ℕ)
    → tried_call (meaning f s) pid (is_nonblocking_at s pid fd) (Reading fd n)
    ≡ transferred (meaning f s) pid false (Reading fd n)
read_flag f s pid fd n =
    tried_first (meaning f s) pid false (is_nonblocking_at s pid fd) (Reading fd n) (λ p h. flagged f s pid fd p h)

pub write_as : (f : Live) (s : State Window ℕ) (pid fd : ℕ) (x : List ℕ) (b : Bool) → is_nonblocking_at s pid fd ≡ b
    → tried_call (meaning f s) pid b (Writing fd x 0) ≡ transferred (meaning f s) pid false (Writing fd x 0)
write_as f s pid fd x b is =
    tried_first (meaning f s) pid false b (Writing fd x 0) (λ p h. sym is ∙ flagged f s pid fd p h)

-- a tee, or a splice
pub crossed_first : (f g : Live) (old new : Namespace) (result : Result Reply Fault) (pid : ℕ) (flag : Bool)
    (c : Crossing) (source sink n : ℕ)
    → Told f g old new result (tried_call (meaning f old.state) pid
    (flag || (is_nonblocking_at old.state pid source || is_nonblocking_at old.state pid sink))
    (Bringing c source sink n))
    → Told f g old new result (transferred (meaning f old.state) pid flag (Bringing c source sink n))
crossed_first f g old new result pid flag c source sink n =
    subst (Told f g old new result)
    (tried_first (meaning f old.state) pid flag _ (Bringing c source sink n)
    (λ p h i. flag || (flagged f old.state pid source p h i || flagged f old.state pid sink p h i)))

-- nobody asked for it
pub not_asked : (b : Bool) {x : Bool} → x ≡ false → (b && x) ≡ false
not_asked true h = h
not_asked false h = refl

pub nothing_asked : {b : Bool} (x : Bool) → b ≡ false → (b && x) ≡ false
nothing_asked x h = ap (λ b. b && x) h

-- A write goes on where bytes are left, and where none went in now
pub goes_on : (r : Tried) (fd : ℕ) (x : List ℕ) (written n : ℕ) (rest : UnfinishedWrite) → written + n ≢ length x
    → rest ≡ record { bytes = x; written = written + n } → r.progress ≡ Moved n
    → transfer_told (Writing fd x written) r r.progress
    ≡ Ok (Waits r.state (Moving (Writing fd rest.bytes rest.written)))
goes_on r fd x written n rest left is moved =
    ap (transfer_told (Writing fd x written) r) moved
    ∙ ap (λ b. if b then Ok (Finished r.state (replies.Num (length x))) else Ok
    (Waits r.state (Moving (Writing fd x (written + n))))) (ne_eqb (written + n) (length x) left)
    ∙ ap (λ (w : UnfinishedWrite). Ok (Waits r.state (Moving (Writing fd w.bytes w.written)))) (sym is)

pub stays_waiting : (r : Tried) (fd : ℕ) (write rest : UnfinishedWrite) → rest ≡ write
    → {q : Progress} → r.progress ≡ q → (q ≡ WouldBlock) ⊎ (q ≡ EndOfFile)
    → transfer_told (Writing fd write.bytes write.written) r r.progress
    ≡ Ok (Waits r.state (Moving (Writing fd rest.bytes rest.written)))
stays_waiting r fd write rest is progress blocked =
    let told : Progress → Result (Attempt Segment ℕ) Errno =
    transfer_told (Writing fd write.bytes write.written) r in
    (elim blocked [ inl none ↦ ap told (progress ∙ none) | inr none ↦ ap told (progress ∙ none) ])
    ∙ ap (λ (w : UnfinishedWrite). Ok (Waits r.state (Moving (Writing fd w.bytes w.written)))) (sym is)

-- a first write that stopped short of its end, where some bytes or none went in, waits with the rest
pub waits_short : (r : Tried) (fd : ℕ) (x : List ℕ) (q : Progress) → r.progress ≡ q → IsShort q (length x)
    → (rest : UnfinishedWrite) → rest ≡ record { bytes = x; written = moved q }
    → transfer_told (Writing fd x 0) r r.progress ≡ Ok (Waits r.state (Moving (Writing fd rest.bytes rest.written)))
waits_short r fd x (Moved n) e short rest is =
    let first : n ≡ 0 + n = omega arith in
    goes_on r fd x 0 n rest (λ all. absurd (omega (arith, all, short)))
    (is ∙ ap (λ (m : ℕ). record { bytes = x; written = m }) first) e
waits_short r fd x WouldBlock e short rest is =
    stays_waiting r fd (record { bytes = x; written = 0 }) rest is e (inl refl)
waits_short r fd x EndOfFile e none rest is = absurd none
waits_short r fd x NoReader e none rest is = absurd none
