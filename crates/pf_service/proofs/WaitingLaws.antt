-- Who waits, and one more try of a call that waits.

use Rattle.std.proofs.Common.{◌≡◌, ◌≢◌, ℕ, true, false, Ok, Err, List, ◌∷◌, ◌++◌, map, refl, ap, sym, ◌∙◌, subst, []}
use Rattle.std.proofs.Common.{arith}
use Rattle.std.specs.Prelude.{All, Result}
use Rattle.std.proofs.lemmas.List.{append_assoc, map-append, append-nil}
use Rattle.std.proofs.lemmas.List.Elements.{All-head, All-tail, All-push}
use Rattle.pf_base.specs.Limits.{Limits}
use Rattle.pf_base.specs.declared.errno.Errno.{Errno}
use Rattle.pf_base.specs.declared.step.Step.{Step}
use Rattle.pf_base.specs.declared.step.Step.TheVariants.{Spawn, Read, Write, Tee, Splice, Open, Resume}
use Rattle.pf_base.specs.declared.step.Reply.{Reply}
use Rattle.pf_base.specs.declared.step.Reply.TheVariants.{Parked}
use Rattle.pf_machine.specs.Queue.{Segment}
use Rattle.pf_machine.specs.State.{State, Outcome, settle}
use Rattle.pf_machine.specs.Machine.{call, step_of, pid_of, is_parked}
use Rattle.pf_machine.proofs.HoldsLaws.{Holds, carries, passes}
use Rattle.pf_service.specs.declared.event.Event.{Event}
use Rattle.pf_service.specs.declared.living.Living.{Living as OneLiving}
use Rattle.pf_service.specs.declared.receipt.Receipt.{Receipt}
use Rattle.pf_service.specs.declared.seated.Tenant.{Tenant}
use Rattle.pf_service.specs.declared.seated.Tenant.TheVariants.{Living, Retired}
use Rattle.pf_service.specs.Seats.{OneSeat, Gains, event_at}
use Rattle.pf_service.specs.Tenants.{IsEvent}
use Rattle.pf_service.specs.Told.{Told}
use Rattle.pf_service.specs.Waited.{maker, waiter, resume_of, Tries, IsAnswered, IsWaited, IsTried, receipt_of}

-- Who may be told Parked

-- what isn't told Parked
abbrev Ends : Outcome Segment ℕ → Type 0
Ends o = is_parked o.reply ≡ false

-- where a call comes to that, its reply isn't Parked
ends : (s : State Segment ℕ) (r : Result (Outcome Segment ℕ) Errno) → Holds Ends r → (settle s r).reply ≡ Parked → ⊥
ends s (Ok o) over e = let yes : is_parked o.reply ≡ true = ap is_parked e in absurd (cc)
ends s (Err x) over e = absurd (cc)

-- who waits is who made the step: a call of another kind isn't told Parked, whatever it comes to
waits_as : (c : Limits) (s : State Segment ℕ) (x : Step) → (step_of c s x).reply ≡ Parked
    → waiter x ≡ maker (pid_of x)
waits_as c s (Read pid fd n) e = refl
waits_as c s (Write pid fd payload) e = refl
waits_as c s (Tee pid source sink n nonblock) e = refl
waits_as c s (Splice pid source sink n nonblock) e = refl
waits_as c s (Open pid path flags) e = refl
waits_as c s (Resume pid) e = refl
waits_as c s (Spawn uid gid umask groups) e = refl
waits_as c s x e = absurd (ends s (call c s x) (search (carries, passes)) e)

-- of what happened to a namespace
pub waits_at : {A C H : Type 0} (old new : Tenant (OneLiving A C H)) (step : Step) (place : ℕ) (reply : Reply)
    → IsEvent old new step place reply → reply ≡ Parked → waiter step ≡ maker (pid_of step)
waits_at (Living l) (Living m) step place reply e parked =
    waits_as l.logged.limits l.logged.state step (sym (ap (λ (o : Outcome Segment ℕ). o.reply) e.2.told) ∙ parked)
waits_at (Living l) (Retired u) step place reply e parked = absurd e
waits_at (Retired t) m step place reply e parked = absurd e

-- Tries

abbrev pub IsParked : Event → Type 0
IsParked e = e.reply ≡ Parked

-- the last event so far, and before it those that were answered Parked
pub record Going (Says : Step → ℕ → Reply → Type 0) (step : Step) (old new : OneSeat) (before after : List Receipt) (es : List Event) (last : Event) : Type 0 where
  pub waited : IsWaited Says step old new before after (es ++ last ∷ [])
  pub parked : All IsParked es

pub answered : (es : List Event) (last : Event) → last.reply ≢ Parked → IsAnswered (es ++ last ∷ [])
answered [] last ne = ne
answered (e ∷ []) last ne = ne
answered (e ∷ (f ∷ es)) last ne = answered (f ∷ es) last ne

module _ (Says : Step → ℕ → Reply → Type 0) (step : Step) where
  push_again : (xs : List Event) (e : Event) → Tries Says (resume_of step) xs → All IsParked xs
      → e.step ≡ resume_of step → Says (resume_of step) e.place e.reply → Tries Says (resume_of step) (xs ++ e ∷ [])
  push_again [] e tries parked is says = (is, says, λ ne. absurd (ne refl), tt)
  push_again (x ∷ xs) e tries parked is says =
      (tries.0, tries.1, λ _. All-head IsParked x xs parked, push_again xs e tries.3 (All-tail IsParked x xs parked) is says)

  pub push : (es : List Event) (last e : Event) → Tries Says step (es ++ last ∷ []) → All IsParked (es ++ last ∷ [])
      → e.step ≡ resume_of step → Says (resume_of step) e.place e.reply → Tries Says step ((es ++ last ∷ []) ++ e ∷ [])
  push [] last e tries parked is says =
      (tries.0, tries.1, λ _. All-head IsParked last [] parked, push_again [] e tries.3 (All-tail IsParked last [] parked) is says)
  push (x ∷ es) last e tries parked is says =
      (tries.0, tries.1, λ _. All-head IsParked x (es ++ last ∷ []) parked, push_again (es ++ last ∷ []) e tries.3 (All-tail IsParked x (es ++ last ∷ []) parked) is says)

  -- the first event
  pub begun : (old new : OneSeat) (before after : List Receipt) (place : ℕ) (reply : Reply)
      → IsTried Says step old new before after place reply → Going Says step old new before after [] (event_at place step reply)
  begun old new before after place reply t = record {
    waited = record { gains = t.gains; receipts = t.receipts; tries = (refl, t.says, λ ne. absurd (ne refl), tt) };
    parked = λ k d l. absurd (omega arith);
  }

  -- one more, after a reply Parked
  pub gone_on : (old mid new : OneSeat) (before between after : List Receipt) (es : List Event) (last : Event) (place : ℕ) (reply : Reply)
      → Going Says step old mid before between es last → last.reply ≡ Parked → IsTried Says (resume_of step) mid new between after place reply
      → Going Says step old new before after (es ++ last ∷ []) (event_at place (resume_of step) reply)
  gone_on old mid new before between after es last place reply go parked t =
      let e = event_at place (resume_of step) reply in
      let w = go.waited in
      let all : All IsParked (es ++ last ∷ []) = All-push IsParked es last go.parked parked in
      record {
        waited = record {
          gains = record {
            ns = t.gains.ns ∙ w.gains.ns;
            number = t.gains.number ∙ w.gains.number;
            events = t.gains.events ∙ ap (λ (xs : List Event). xs ++ e ∷ []) w.gains.events ∙ append_assoc old.events (es ++ last ∷ []) (e ∷ []);
          };
          receipts =
              t.receipts
              ∙ ap (λ (n : ℕ). between ++ receipt_of n e ∷ []) w.gains.ns
              ∙ ap (λ (rs : List Receipt). rs ++ receipt_of old.ns e ∷ []) w.receipts
              ∙ append_assoc before (map (receipt_of old.ns) (es ++ last ∷ [])) (receipt_of old.ns e ∷ [])
              ∙ ap (λ (rs : List Receipt). before ++ rs) (sym (map-append (receipt_of old.ns) (es ++ last ∷ []) (e ∷ [])));
          tries = push es last e w.tries all refl t.says;
        };
        parked = all;
      }

  -- an event that was refused leaves what was there
  pub left : (old mid new : OneSeat) (before between after : List Receipt) (es : List Event)
      → IsWaited Says step old mid before between es → Gains mid new [] → after ≡ between → IsWaited Says step old new before after es
  left old mid new before between after es w gains same = record {
    gains = record { ns = gains.ns ∙ w.gains.ns; number = gains.number ∙ w.gains.number; events = gains.events ∙ append-nil mid.events ∙ w.gains.events };
    receipts = same ∙ w.receipts;
    tries = w.tries;
  }

  -- none was made yet
  pub nothing : (old new : OneSeat) (before after : List Receipt) → Gains old new [] → after ≡ before → IsWaited Says step old new before after []
  nothing old new before after gains same = record { gains = gains; receipts = same ∙ sym (append-nil before); tries = tt }

-- what is said of one try of a process, at the namespace of the seat that it began with
pub tried_at : (Passes : ℕ → ℕ → Type 0) (ns ns' pid pid' : ℕ) (old new : OneSeat) (before after : List Receipt) (place : ℕ) (reply : Reply) → ns ≡ ns' → pid ≡ pid'
    → IsTried (λ s p r. Told s p r × Passes ns p) (Resume pid) old new before after place reply
    → IsTried (λ s p r. Told s p r × Passes ns' p) (Resume pid') old new before after place reply
tried_at Passes ns ns' pid pid' old new before after place reply at who t =
    subst (λ (n : ℕ). IsTried (λ s p r. Told s p r × Passes n p) (Resume pid') old new before after place reply) at
    (subst (λ (n : ℕ). IsTried (λ s p r. Told s p r × Passes ns p) (Resume n) old new before after place reply) who t)
