-- A transfer that waits is tried again: its process is woken, and the transfer tried as a call of its own, which waits
-- where it has to. In the end: who isn't woken is refused, and an open that waits is tried where it is.

use Rattle.std.proofs.lemmas.Option.{option_and_then_some}
use Rattle.std.proofs.Common.{◌≡◌, ℕ, zero, suc, ◌+◌, ◌-◌, Bool, true, false, ◌&&◌, List, length, set, Option, Some}
use Rattle.std.proofs.Common.{None, is_some, Result, Ok, Err, refl, sym, ap, subst, ◌∙◌, arith, nat_eq, nat_lt}
use Rattle.std.proofs.Common.{if◌then◌else◌}
use Rattle.std.proofs.lemmas.List.{set-set}
use Rattle.pf_space.proofs.Common.{option_map, Reading, Writing, Bringing, Call, Moving, Limits, call, at, change_at}
use Rattle.pf_space.proofs.Common.{Segment, ◌>>=◌, or_refuse, itself, State, Process, Outcome, ready, sweep, Tried}
use Rattle.pf_space.proofs.Common.{Finished, Waits, transfer_told, Errno, ESRCH, Fault, Progress, Moved, WouldBlock}
use Rattle.pf_space.proofs.Common.{EndOfFile, NoReader, Reply, Live, Namespace, meaning, Owns, Told, tried_call}
use Rattle.pf_space.proofs.Common.{waits_in, settled, ended}
use Rattle.pf_machine.specs.Calls.{Transfer, made_by}
use Rattle.pf_machine.specs.Machine.{are_many, call_of, hands_many, hands_out, may_want_memory}
use Rattle.pf_machine.proofs.NumberedLaws.{at_within, at-put_same}
use Rattle.pf_machine.specs.Refusals.{◌>>◌, refuse_if}
use Rattle.pf_machine.specs.State.{process, reading_end, writing_end, change_process, settle, waiting, told}
use Rattle.pf_machine.specs.Transfers.{tried, two_ends, try_read, try_write, try_cross}
use Rattle.pf_machine.specs.Attempts.{Attempt, attempt, first, again, resume}
use Rattle.pf_base.specs.declared.TheConstants.{MAX_WRITE}
use Rattle.pf_base.specs.declared.errno.Errno.TheVariants.{EBUSY, EINVAL, EPIPE}
use Rattle.pf_base.specs.declared.fault.Fault.TheVariants as faults
use Rattle.pf_base.specs.declared.step.Reply.TheVariants as replies
use Rattle.pf_base.specs.declared.step.Step.TheVariants as steps
use Rattle.pf_tables.specs.Rows as rows
use Rattle.pf_tables.specs.Tables.{Wakes, Woken, awoken, is_open, over, waits_in_open, woken}
use Rattle.pf_tables.specs.Told.{HandsMany, Says, attempted}
use Rattle.pf_machine.specs.Maps.{if_ok}
use Rattle.pf_machine.proofs.NaturalCalls.{resume-call}
use Rattle.pf_machine.proofs.MapLaws.{bind-as, bind-same, then-as}
use Rattle.pf_machine.proofs.ExitLaws.{change-change}
use Rattle.pf_tables.proofs.MeaningLaws.{settled-meaning}
use Rattle.pf_tables.proofs.Refusals.{same_ok}
use Rattle.pf_tables.proofs.TablesShown.{set_same, place_in}
use Rattle.pf_tables.specs.Opened.{Reopens}
use Rattle.pf_space.proofs.Books.{booked}
use Rattle.pf_space.proofs.ParkedTransfers.{sweep-waiting}

-- A transfer of a process that was woken

module _ (pid : ℕ) where
  abbrev pub awake : {X : Type 0} → State X ℕ → State X ℕ
  awake s = change_process (waiting None) s pid

  abbrev lift : Tried → Tried
  lift r = record r { state = awake r.state }

  abbrev lift_told : Attempt Segment ℕ → Attempt Segment ℕ
  lift_told (Finished s reply) = Finished (awake s) reply
  lift_told (Waits s c) = Waits (awake s) c

  tried-lifted : (s : State Segment ℕ) (p : Process ℕ) (t : Transfer)
      → tried (awake s) (waiting None p) t ≡ if_ok lift (tried s p t)
  tried-lifted s p (Reading fd n) =
      bind-same lift (reading_end itself s p fd) (λ e. Ok (try_read s e n)) (λ e. Ok (try_read (awake s) e n))
      (λ e. refl)
  tried-lifted s p (Writing fd x written) =
      let test = refuse_if (nat_lt MAX_WRITE (length x)) EINVAL in
      bind-same lift (writing_end itself s p fd) (λ e. test >> Ok (try_write s e x written))
      (λ e. test >> Ok (try_write (awake s) e x written))
      (λ e. then-as lift test (Ok (try_write s e x written)) (Ok (try_write (awake s) e x written)) refl)
  tried-lifted s p (Bringing c source sink n) =
      bind-same lift (two_ends s p source sink) (λ e. Ok (try_cross c s e n)) (λ e. Ok (try_cross c (awake s) e n))
      (λ e. refl)

  by_test : (b : Bool) (x y : Result (Attempt Segment ℕ) Errno)
      → (if b then if_ok lift_told x else if_ok lift_told y) ≡ if_ok lift_told (if b then x else y)
  by_test true x y = refl
  by_test false x y = refl

  told-lifted : (t : Transfer) (r : Tried) (q : Progress)
      → transfer_told t (lift r) q ≡ if_ok lift_told (transfer_told t r q)
  told-lifted (Reading fd n) r (Moved m) = refl
  told-lifted (Reading fd n) r EndOfFile = refl
  told-lifted (Reading fd n) r NoReader = refl
  told-lifted (Reading fd n) r WouldBlock = refl
  told-lifted (Writing fd x written) r (Moved m) =
      by_test (nat_eq (written + m) (length x)) (Ok (Finished r.state (replies.Num (length x))))
      (Ok (Waits r.state (Moving (Writing fd x (written + m)))))
  told-lifted (Writing fd x written) r NoReader =
      by_test (nat_eq written 0) (Err EPIPE) (Ok (Finished r.state (replies.Num written)))
  told-lifted (Writing fd x written) r WouldBlock = refl
  told-lifted (Writing fd x written) r EndOfFile = refl
  told-lifted (Bringing c source sink n) r (Moved m) = refl
  told-lifted (Bringing c source sink n) r EndOfFile = refl
  told-lifted (Bringing c source sink n) r NoReader = refl
  told-lifted (Bringing c source sink n) r WouldBlock = refl

  attempt-lifted : (s : State Segment ℕ) (p : Process ℕ) (t : Transfer)
      → (tried (awake s) (waiting None p) t >>= (λ r. transfer_told t r r.progress))
      ≡ if_ok lift_told (tried s p t >>= (λ r. transfer_told t r r.progress))
  attempt-lifted s p t =
      ap (λ q. q >>= (λ r. transfer_told t r r.progress)) (tried-lifted s p t)
      ∙ bind-as lift lift_told (tried s p t) (λ r. transfer_told t r r.progress) (λ r. transfer_told t r r.progress)
      (λ r. told-lifted t r r.progress)

  -- to wait again is to go on waiting
  parked-again : (s : State Segment ℕ) (c : Call ℕ)
      → change_process (waiting (Some c)) (awake s) pid ≡ change_process (waiting (Some c)) s pid
  parked-again s c =
      ap (λ ps. record s { processes = ps })
      (change-change (waiting (Some c)) (waiting None) (waiting (Some c)) s.processes (pid - 1) (λ p. refl))

-- who waits in a transfer
pub record WaitsIn (s : State Segment ℕ) (pid : ℕ) (t : Transfer) : Type 0 where
  pub p : Process ℕ
  pub lives : process s pid ≡ Some p
  pub waits : p.parked ≡ Some (Moving t)
  pub stands : at s.processes (pid - 1) ≡ Some p

waiter : (s : State Segment ℕ) (pid : ℕ) (t : Transfer) → call_of s pid ≡ Some (Moving t) → WaitsIn s pid t
waiter s pid t h =
    option_and_then_some (λ (p : Process ℕ). p.parked) (process s pid) (Moving t) h
    (λ p g e. record { p = p; lives = g; waits = e; stands = place_in s pid g })

module _ (s : State Segment ℕ) (pid : ℕ) (t : Transfer) (w : WaitsIn s pid t) where
  -- it is woken
  awake_is : awoken s pid ≡ awake pid s
  awake_is =
      ap (λ (o : Option (Process ℕ)). record s { processes = set s.processes (pid - 1) o })
      (ap (option_map woken) w.stands ∙ ap (λ o. Some (over o w.p)) w.waits
      ∙ ap (option_map (waiting None)) (sym w.stands))

  ready_is : ready (awake pid s) pid ≡ Ok (waiting None w.p)
  ready_is = by_pid pid w.lives
    where
      by_pid : (m : ℕ) → process s m ≡ Some w.p → ready (awake m s) m ≡ Ok (waiting None w.p)
      by_pid zero g = absurd (cc)
      by_pid (suc i) g =
          let same : suc i - 1 ≡ i = omega arith in
          let here : at (change_at (waiting None) s.processes (suc i - 1)) i ≡ Some (waiting None w.p) =
          ap (λ m. at (change_at (waiting None) s.processes m) i) same
          ∙ at-put_same s.processes i (option_map (waiting None) (at s.processes i)) (at_within s.processes i w.p g)
          ∙ ap (option_map (waiting None)) g in
          ap (λ o. or_refuse ESRCH o >>= (λ p. refuse_if (is_some p.parked) EBUSY >> Ok p)) here

  abbrev came : Result (Attempt Segment ℕ) Errno
  came = tried s w.p t >>= (λ r. transfer_told t r r.progress)

  machine_is : (c : Limits) → call c s (steps.Resume pid) ≡ Ok (again s pid came)
  machine_is c =
      ap (λ o. or_refuse ESRCH o >>= (λ p. resume s pid p)) w.lives
      ∙ ap (λ o. or_refuse EINVAL o >>= (λ x. Ok (again s pid (attempt s pid w.p x)))) w.waits

  tried_is : tried_call (awake pid s) pid false t ≡ (if_ok (lift_told pid) came >>= first pid false)
  tried_is =
      ap (λ q. q >>= (λ p. (tried (awake pid s) p t >>= (λ r. transfer_told t r r.progress)) >>= first pid false))
      ready_is ∙ ap (λ q. q >>= first pid false) (attempt-lifted pid s w.p t)

  still_awake : s ≡ sweep itself s → sweep itself (awake pid s) ≡ awake pid s
  still_awake still = sweep-waiting s pid w.p w.stands (ap made_by w.waits) None refl ∙ ap (awake pid) (sym still)

  -- a reply
  replied : (o : Outcome Segment ℕ) → settled (if_ok (lift_told pid) came >>= first pid false) ≡ Ok o
      → settled (Ok (again s pid came)) ≡ Ok o
  replied o h = by_attempt came h
    where
      by_attempt : (a : Result (Attempt Segment ℕ) Errno) → settled (if_ok (lift_told pid) a >>= first pid false) ≡ Ok o
          → settled (Ok (again s pid a)) ≡ Ok o
      by_attempt (Ok (Finished z reply)) h = h
      by_attempt (Ok (Waits z c)) h =
          ap (λ (y : State Segment ℕ). Ok (record { state = sweep itself y; reply = replies.Parked }))
          (sym (parked-again pid z c)) ∙ h
      by_attempt (Err e) h = absurd (cc)

  -- a refusal is one
  refused : (e : Errno) → s ≡ sweep itself s → (if_ok (lift_told pid) came >>= first pid false) ≡ Err e
      → settled (Ok (again s pid came)) ≡ Ok (record { state = awake pid s; reply = replies.Err e })
  refused e still h = by_attempt came h
    where
      by_attempt : (a : Result (Attempt Segment ℕ) Errno) → (if_ok (lift_told pid) a >>= first pid false) ≡ Err e
          → settled (Ok (again s pid a)) ≡ Ok (record { state = awake pid s; reply = replies.Err e })
      by_attempt (Ok (Finished z reply)) h = absurd (cc)
      by_attempt (Ok (Waits z c)) h = absurd (cc)
      by_attempt (Err x) h =
          let same : x ≡ e = cc in λ i. Ok (record { state = still_awake still i; reply = replies.Err (same i) })

-- What the tables say of a process that is to be woken, once it is known which call they gave out
module _ {old new : Namespace} (pid : ℕ) {o : Option (rows.Call rows.Key)} (wakes : Wakes old new pid (Ok o)) where
  pub woken_for : {call : rows.Call rows.Key} → o ≡ Some call → Woken old new pid call
  woken_for is = subst (λ (x : Option (rows.Call rows.Key)). Wakes old new pid (Ok x)) is wakes

  -- none: it waits in an open
  pub waits_on : o ≡ None → (new ≡ old) × (waits_in_open new.state pid ≡ Ok true)
  waits_on is = subst (λ (x : Option (rows.Call rows.Key)). Wakes old new pid (Ok x)) is wakes

-- A call is taken from its process, and tried as a first one would be. tables: the namespace as its own code has it
module _ (f : Live) {tables old mid : Namespace} (view : tables ≡ old) (pid : ℕ) (t : Transfer)
    (waits : call_of tables.state pid ≡ Some (Moving t))
    (mid_is : mid ≡ record tables { state = awoken tables.state pid }) where
  abbrev s : State Segment ℕ
  s = meaning f tables.state

  w : WaitsIn s pid t
  w = waiter s pid t waits

  mid_state : meaning f mid.state ≡ awake pid s
  mid_state = ap (λ (n : Namespace). meaning f n.state) mid_is ∙ awake_is s pid t w

  -- whatever the transfer is told, the resumed one is
  pub resumed : {g : Live} {new : Namespace} → tables.state ≡ sweep itself tables.state → {result : Result Reply Fault}
      → Told f g mid new result (tried_call (meaning f mid.state) pid false t)
      → (result ≡ Err faults.NoMemory → ⊥) → {reply : Result Reply Fault} → reply ≡ ended result
      → Told f g old new reply (call old.limits (meaning f old.state) (steps.Resume pid))
  resumed {g} {new} kept {result} told ample {reply} is =
      subst (λ (n : Namespace). Told f g n new reply (call n.limits (meaning f n.state) (steps.Resume pid))) view
      (record {
        owns = told.owns;
        limits = told.limits ∙ ap (λ (n : Namespace). n.limits) mid_is;
        says =
            subst (λ r. Says f g tables new r (call tables.limits s (steps.Resume pid))) (sym is)
            (by_result result told.says ample);
      })
    where
      still : s ≡ sweep itself s
      still = settled-meaning f tables.state kept

      machine : tried_call (meaning f mid.state) pid false t
          ≡ (if_ok (lift_told pid) (came s pid t w) >>= first pid false)
      machine = ap (λ z. tried_call z pid false t) mid_state ∙ tried_is s pid t w

      by_result : (r : Result Reply Fault) → Says f g mid new r (tried_call (meaning f mid.state) pid false t)
          → (r ≡ Err faults.NoMemory → ⊥)
          → Says f g tables new (ended r) (call tables.limits s (steps.Resume pid))
      by_result (Ok reply) says ample =
          ap settled (machine_is s pid t w tables.limits) ∙ replied s pid t w _ (ap settled (sym machine) ∙ says)
      by_result (Err (faults.Errno e)) says ample =
          ap settled (machine_is s pid t w tables.limits) ∙ refused s pid t w e still (sym machine ∙ says.0)
          ∙ ap (λ (z : State Segment ℕ). Ok (record { state = z; reply = replies.Err e })) (sym mid_state ∙ sym says.1)
      by_result (Err faults.NoMemory) says ample = absurd (ample refl)

  -- a read that wants memory does so for the reply to its Resume
  pub wants : hands_out {N = ℕ} (Some (Moving t)) ≡ true
      → ((r : Tried) (k : ℕ) → transfer_told t r (Moved k) ≡ Ok (Finished r.state (replies.Bytes r.bytes)))
      → HandsMany (attempted (meaning f mid.state) pid t)
      → may_want_memory old.limits (meaning f old.state) (steps.Resume pid) ≡ true
  wants out tells h =
      subst (λ (n : Namespace). may_want_memory n.limits (meaning f n.state) (steps.Resume pid) ≡ true) view
      (by_tried (tried s w.p t) refl (sym (tried-lifted pid s w.p t) ∙ found))
    where
      found : tried (awake pid s) (waiting None w.p) t ≡ Ok h.tried
      found =
          sym (ap (λ q. q >>= (λ p. tried (awake pid s) p t)) (ready_is s pid t w))
          ∙ ap (λ z. attempted z pid t) (sym mid_state) ∙ h.is

      by_tried : (q : Result Tried Errno) → tried s w.p t ≡ q → if_ok (lift pid) q ≡ Ok h.tried
          → may_want_memory tables.limits s (steps.Resume pid) ≡ true
      by_tried (Ok r) is same =
          let here : lift pid r ≡ h.tried = same_ok same in
          let comes : came s pid t w ≡ Ok (Finished r.state (replies.Bytes r.bytes)) =
          ap (λ q. q >>= (λ x. transfer_told t x x.progress)) is
          ∙ ap (transfer_told t r) (ap (λ (x : Tried). x.progress) here ∙ h.progress) ∙ tells r h.number in
          let made : call tables.limits s (steps.Resume pid)
          ≡ Ok (again s pid (Ok (Finished r.state (replies.Bytes r.bytes)))) =
          machine_is s pid t w tables.limits
          ∙ ap (λ (a : Result (Attempt Segment ℕ) Errno). Ok (again s pid a)) comes in
          let many =
          ap (λ (q : Result (Outcome Segment ℕ) Errno). hands_many (settle s q).reply) made
          ∙ ap (λ (x : Tried). are_many x.bytes) here ∙ h.many in
          let reads : hands_out (call_of s pid) ≡ true = ap hands_out waits ∙ out in
          λ i. (reads i && many i) && (is_some (w.lives i) && true)
      by_tried (Err e) is same = absurd (cc)

  -- a process that waits again as before has not changed
  pub restored : waits_in (Some (Moving t)) mid pid ≡ old
  restored =
      let ps = tables.state.processes in
      let call : Option (Call ℕ) = Some (Moving t) in
      let here : ◌≡◌ {A =
      Option (Process ℕ)} (option_map (waiting call) (at (change_at woken ps (pid - 1)) (pid - 1))) (Some w.p) =
      ap (option_map (waiting call)) (at-put_same ps (pid - 1) (option_map woken (at ps (pid - 1)))
      (at_within ps (pid - 1) w.p w.stands) ∙ ap (option_map woken) w.stands ∙ ap (λ o. Some (over o w.p)) w.waits)
      ∙ ap (λ o. Some (record w.p { parked = o })) (sym w.waits) in
      ap (λ (n : Namespace). waits_in call n pid) mid_is
      ∙ ap (λ (xs : List (Option (Process ℕ))). record tables { state = record tables.state { processes = xs } })
      (ap (set (change_at woken ps (pid - 1)) (pid - 1)) here
      ∙ set-set ps (pid - 1) (option_map woken (at ps (pid - 1))) (Some w.p)
      ∙ set_same ps (pid - 1) (Some w.p) (sym w.stands)) ∙ view

-- what is told of the namespace as its own code has it
pub told_seen : {f g : Live} {tables old new : Namespace} → tables ≡ old → (pid : ℕ) → {result : Result Reply Fault}
    → Told f g tables new result (call tables.limits (meaning f tables.state) (steps.Resume pid))
    → Told f g old new result (call old.limits (meaning f old.state) (steps.Resume pid))
told_seen {f} {g} {new = new} view pid {result} told =
    subst (λ (n : Namespace). Told f g n new result (call n.limits (meaning f n.state) (steps.Resume pid))) view told

-- who is not woken is refused as the machine refuses it
module _ (f : Live) {tables mid old : Namespace} (view : tables ≡ old) (pid : ℕ) {e : Errno}
    (refused : Wakes tables mid pid (Err e)) where
  abbrev asked : Option (Process ℕ) → Result Bool Errno
  asked o = or_refuse ESRCH o >>= (λ p. or_refuse EINVAL p.parked >>= (λ c. Ok (is_open c)))

  is_refused : (s : State Segment ℕ) (o : Option (Process ℕ)) → asked o ≡ Err e
      → (or_refuse ESRCH o >>= (λ p. resume s pid p)) ≡ Err e
  is_refused s None h = let same : ESRCH ≡ e = cc in ap Err same
  is_refused s (Some p) h = by_call p.parked h
    where
      by_call : (q : Option (Call ℕ)) → (or_refuse EINVAL q >>= (λ c. Ok (is_open c))) ≡ Err e
          → (or_refuse EINVAL q >>= (λ x. Ok (again s pid (attempt s pid p x)))) ≡ Err e
      by_call None h = let same : EINVAL ≡ e = cc in ap Err same
      by_call (Some c) h = absurd (cc)

  pub not_woken : Owns f old → Told f f old mid (Err (faults.Errno e))
      (call old.limits (meaning f old.state) (steps.Resume pid))
  not_woken owns =
      let same : mid ≡ old = refused.0 ∙ view in
      record {
        owns = subst (Owns f) (sym same) owns;
        limits = ap (λ (n : Namespace). n.limits) same;
        says = (
          subst (λ (n : Namespace). call n.limits (meaning f n.state) (steps.Resume pid) ≡ Err e) same
              (is_refused (meaning f mid.state) (process mid.state pid) refused.1),
          ap (λ (n : Namespace). meaning f n.state) same,
        );
      }

-- and an open that waits is tried again
pub reopened : (f : Live) {tables mid old new : Namespace} → tables ≡ old → (pid : ℕ)
    → {o : Option (rows.Call rows.Key)} → Wakes tables mid pid (Ok o) → o ≡ None → Owns f old → {reply : Reply}
    → Reopens mid new pid reply
    → Told f f old new (Ok reply) (call old.limits (meaning f old.state) (steps.Resume pid))
reopened f {mid = mid} view pid wakes is owns again =
    booked ((waits_on pid wakes is).0 ∙ view) owns refl (steps.Resume pid) _ again.makes tt
    (λ shows. resume-call shows itself mid.limits mid.state pid again.n again.before again.waits)
