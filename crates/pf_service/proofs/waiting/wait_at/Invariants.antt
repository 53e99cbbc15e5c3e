-- There are events so far, of which the last is Parked exactly where the process waits, and those before it are. Where
-- it waits, it is the one that made the step. Further ones that are waited for from here go with them.
use Rattle.std.proofs.Common.{◌≡◌, ◌↔◌, ◌++◌, ◌∷◌, [], List}
use Rattle.std.specs.Prelude.{IsTrue}
use Rattle.pf_base.specs.declared.step.Reply.TheVariants.{Parked}
use Rattle.pf_service.specs.declared.event.Event.{Event}
use Rattle.pf_machine.specs.Machine.{pid_of}
use Rattle.pf_service.specs.Said.{IsSaid}
use Rattle.pf_service.specs.Waited.{maker, waiter}
use Rattle.pf_service.proofs.LockLaws.{GoesOn}
use Rattle.pf_service.proofs.WaitingLaws.{Going}
use Rattle.pf_service.proofs.waiting.wait_at.Given as goal

abbrev pub invariant-loop : goal.invariant-loop
invariant-loop g l = ((goal.iterator-loop g).can_next l.iterator' × (goal.iterator-loop g).is_finite l.iterator')
    × ((es : List Event) × (last : Event)
    × Going (IsSaid (λ n p. g.G.Gate.passed l.fn.gate n p) (λ n. g.G.Gate.framed l.fn.gate n)
    (λ s. g.W.Waiters.lay l.fn.waiters g.row.A.Denot g.row.C.Denot g.row.H.Denot s)
    (λ s. g.W.Waiters.woken l.fn.waiters g.row.A.Denot g.row.C.Denot g.row.H.Denot s) l.fn.seat.ns)
    l.fn.step l.fn.seat l.seat l.fn.receipts.items l.receipts.items es last
    × (IsTrue l.waits ↔ (last.reply ≡ Parked))
    × (IsTrue l.waits → waiter l.fn.step ≡ maker (pid_of l.fn.step))
    × GoesOn (λ s t. g.W.Waiters.went_on l.fn.waiters g.row.A.Denot g.row.C.Denot g.row.H.Denot s t)
    (λ s. g.W.Waiters.lay l.fn.waiters g.row.A.Denot g.row.C.Denot g.row.H.Denot s) l.seated.value (es ++ last ∷ []))
