-- The first event, and one more after each that was answered Parked.
use Rattle.std.proofs.Common.{ℕ, [], ◌∷◌, ◌++◌, ◌∙◌, arith}
use Rattle.std.specs.Prelude.{IsTrue}
use Rattle.pf_service.specs.declared.seated.Seated.{Seated as OneSeated}
use Rattle.pf_service.specs.Seats.{event_at}
use Rattle.pf_service.specs.Said.{IsSaid}
use Rattle.pf_service.specs.Waited.{resume_of}
use Rattle.std.proofs.lemmas.List.Elements.{All-push}
use Rattle.pf_service.proofs.FaultLaws.{on_ok, on_err}
use Rattle.pf_service.proofs.LockLaws.{begins, goes_on, happened, happened_at, handed_on, lay_at, resumed, said_of, stops, went_between}
use Rattle.pf_service.proofs.WaitingLaws.{waits_at, begun, gone_on, answered, left, nothing, tried_at, IsParked}
use Rattle.pf_service.proofs.waiting.wait_at.Goals as goal

pub loop-init : goal.loop-init
loop-init g c =
    let Lay : OneSeated g.row.A.Denot g.row.C.Denot g.row.H.Denot → Type 0
    = λ s. g.W.Waiters.lay c.args.waiters.now g.row.A.Denot g.row.C.Denot g.row.H.Denot s in
    let WentOn : OneSeated g.row.A.Denot g.row.C.Denot g.row.H.Denot → OneSeated g.row.A.Denot g.row.C.Denot g.row.H.Denot → Type 0
    = λ s t. g.W.Waiters.went_on c.args.waiters.now g.row.A.Denot g.row.C.Denot g.row.H.Denot s t in
    let Woken : OneSeated g.row.A.Denot g.row.C.Denot g.row.H.Denot → Type 0
    = λ s. g.W.Waiters.woken c.args.waiters.now g.row.A.Denot g.row.C.Denot g.row.H.Denot s in
    let Passed : ℕ → ℕ → Type 0 = λ n p. g.G.Gate.passed c.args.gate.now n p in
    let Framed : ℕ → Type 0 = λ n. g.G.Gate.framed c.args.gate.now n in
    let t = c.in_ok-waits.ensures.tried in
    let here = lay_at Lay _ _ c.deref_mut.ensures.value c.lock-seated.ensures in
    let it = happened Lay Woken (Framed c.args.seat.now.ns) c.deref_mut.result.now _ c.args.step.now t.0 t.1 here t.4 t.5 c.in_ok-waits.ensures.framed in
    let said = said_of Lay Woken Passed Framed c.args.seat.now.ns c.args.step.now _ _ _ _ t.0 t.1 t.2 it in (
      (tt, tt),
      (
        [],
        event_at t.0 c.args.step.now t.1,
        begun _ c.args.step.now _ _ _ _ t.0 t.1 said,
        t.3,
        λ waits. waits_at c.deref_mut.result.now.tenant _ c.args.step.now t.0 t.1 t.4 (t.3.0 waits),
        begins WentOn Lay c.deref_mut.result.now c.try_once.new.seated (event_at t.0 c.args.step.now t.1) here t.4 c.try_once.ensures.given,
      ),
    )

pub returns-in_err-waits-clause-waited : goal.returns-in_err-waits-clause-waited
returns-in_err-waits-clause-waited g c =
    let Lay : OneSeated g.row.A.Denot g.row.C.Denot g.row.H.Denot → Type 0
    = λ s. g.W.Waiters.lay c.args.waiters.now g.row.A.Denot g.row.C.Denot g.row.H.Denot s in
    let Woken : OneSeated g.row.A.Denot g.row.C.Denot g.row.H.Denot → Type 0
    = λ s. g.W.Waiters.woken c.args.waiters.now g.row.A.Denot g.row.C.Denot g.row.H.Denot s in
    let Passed : ℕ → ℕ → Type 0 = λ n p. g.G.Gate.passed c.args.gate.now n p in
    let Framed : ℕ → Type 0 = λ n. g.G.Gate.framed c.args.gate.now n in
    let none = nothing (IsSaid Passed Framed Lay Woken c.args.seat.now.ns) c.args.step.now c.args.seat.now c.try_once.new.seat
    c.args.receipts.now.items c.try_once.new.receipts.items c.in_err-waits.ensures.seat c.in_err-waits.ensures.receipts in
    ([], none, tt, on_ok _ c.from_residual.result c.from_residual.ensures.0, on_err _ c.from_residual.result (λ k d l. absurd (omega arith)))

pub returns-then-not-waits-clause-waited : goal.returns-then-not-waits-clause-waited
returns-then-not-waits-clause-waited g c =
    let Lay : OneSeated g.row.A.Denot g.row.C.Denot g.row.H.Denot → Type 0
    = λ s. g.W.Waiters.lay c.args.waiters.now g.row.A.Denot g.row.C.Denot g.row.H.Denot s in
    let WentOn : OneSeated g.row.A.Denot g.row.C.Denot g.row.H.Denot → OneSeated g.row.A.Denot g.row.C.Denot g.row.H.Denot → Type 0
    = λ s t. g.W.Waiters.went_on c.args.waiters.now g.row.A.Denot g.row.C.Denot g.row.H.Denot s t in
    let i = c.loop.invariant.1 in
    let no = c.if-not-waits.true in
    (i.0 ++ i.1 ∷ [], i.2.waited, stops WentOn Lay c.loop.seated.value (i.0 ++ i.1 ∷ []) i.5, answered i.0 i.1 (λ parked. let yes = i.3.1 parked in absurd (cc)), tt)

pub loop-preserved : goal.loop-preserved
loop-preserved g c =
    let Lay : OneSeated g.row.A.Denot g.row.C.Denot g.row.H.Denot → Type 0
    = λ s. g.W.Waiters.lay c.args.waiters.now g.row.A.Denot g.row.C.Denot g.row.H.Denot s in
    let WentOn : OneSeated g.row.A.Denot g.row.C.Denot g.row.H.Denot → OneSeated g.row.A.Denot g.row.C.Denot g.row.H.Denot → Type 0
    = λ s t. g.W.Waiters.went_on c.args.waiters.now g.row.A.Denot g.row.C.Denot g.row.H.Denot s t in
    let Woken : OneSeated g.row.A.Denot g.row.C.Denot g.row.H.Denot → Type 0
    = λ s. g.W.Waiters.woken c.args.waiters.now g.row.A.Denot g.row.C.Denot g.row.H.Denot s in
    let Passed : ℕ → ℕ → Type 0 = λ n p. g.G.Gate.passed c.args.gate.now n p in
    let Framed : ℕ → Type 0 = λ n. g.G.Gate.framed c.args.gate.now n in
    let i = c.loop.invariant.1 in
    let t = c.in_ok-waits-2.ensures.tried in
    let waits : IsTrue c.loop.waits = c.if-not-waits.false in
    let who = c.waiter-pid.ensures ∙ i.4 waits in
    let again = tried_at Passed c.loop.seat.ns c.args.seat.now.ns c.waiter-pid.result _ c.loop.seat c.try_once-in-loop.new.seat
    c.loop.receipts.items c.try_once-in-loop.new.receipts.items t.0 t.1 i.2.waited.gains.ns who t.2 in
    let here = lay_at Lay _ _ c.deref_mut-in-loop-2.ensures.value c.wait-seated.ensures.lay in
    let it = happened Lay Woken (Framed c.loop.seat.ns) c.deref_mut-in-loop-2.result.now _ _ t.0 t.1 here t.4 t.5 c.in_ok-waits-2.ensures.framed in
    let said = said_of Lay Woken Passed Framed c.args.seat.now.ns (resume_of c.args.step.now) _ _ _ _ t.0 t.1 again
    (happened_at Lay Woken Framed c.loop.seat.ns c.args.seat.now.ns c.waiter-pid.result _ t.0 t.1 i.2.waited.gains.ns who it) in
    let go = gone_on (IsSaid Passed Framed Lay Woken c.args.seat.now.ns) c.args.step.now
    c.args.seat.now c.loop.seat c.try_once-in-loop.new.seat c.args.receipts.now.items c.loop.receipts.items c.try_once-in-loop.new.receipts.items i.0 i.1 t.0 t.1 i.2 (i.3.0 waits) said in
    let went = went_between WentOn c.deref_mut-in-loop.result.now c.loop.seated.value c.wait-seated.result.value c.deref_mut-in-loop-2.result.now
    c.deref_mut-in-loop.ensures.value c.deref_mut-in-loop-2.ensures.value c.wait-seated.ensures.went_on in
    let at_it = resumed c.deref_mut-in-loop-2.result.now.tenant c.try_once-in-loop.new.seated.tenant c.waiter-pid.result _ t.0 t.1 who t.4 in
    let on = goes_on WentOn Lay c.loop.seated.value c.deref_mut-in-loop-2.result.now c.try_once-in-loop.new.seated (i.0 ++ i.1 ∷ [])
    (event_at t.0 (resume_of c.args.step.now) t.1) i.5 went at_it c.try_once-in-loop.ensures.given in
    ((tt, tt), (i.0 ++ i.1 ∷ [], event_at t.0 (resume_of c.args.step.now) t.1, go, t.3, λ _. i.4 waits, on))

pub returns-in_err-waits-2-clause-waited : goal.returns-in_err-waits-2-clause-waited
returns-in_err-waits-2-clause-waited g c =
    let Lay : OneSeated g.row.A.Denot g.row.C.Denot g.row.H.Denot → Type 0
    = λ s. g.W.Waiters.lay c.args.waiters.now g.row.A.Denot g.row.C.Denot g.row.H.Denot s in
    let WentOn : OneSeated g.row.A.Denot g.row.C.Denot g.row.H.Denot → OneSeated g.row.A.Denot g.row.C.Denot g.row.H.Denot → Type 0
    = λ s t. g.W.Waiters.went_on c.args.waiters.now g.row.A.Denot g.row.C.Denot g.row.H.Denot s t in
    let Woken : OneSeated g.row.A.Denot g.row.C.Denot g.row.H.Denot → Type 0
    = λ s. g.W.Waiters.woken c.args.waiters.now g.row.A.Denot g.row.C.Denot g.row.H.Denot s in
    let Passed : ℕ → ℕ → Type 0 = λ n p. g.G.Gate.passed c.args.gate.now n p in
    let Framed : ℕ → Type 0 = λ n. g.G.Gate.framed c.args.gate.now n in
    let i = c.loop.invariant.1 in
    let stays = left (IsSaid Passed Framed Lay Woken c.args.seat.now.ns) c.args.step.now
    c.args.seat.now c.loop.seat c.try_once-in-loop.new.seat c.args.receipts.now.items c.loop.receipts.items c.try_once-in-loop.new.receipts.items (i.0 ++ i.1 ∷ [])
    i.2.waited c.in_err-waits-2.ensures.seat c.in_err-waits-2.ensures.receipts in
    let waits : IsTrue c.loop.waits = c.if-not-waits.false in (
      i.0 ++ i.1 ∷ [],
      stays,
      stops WentOn Lay c.loop.seated.value (i.0 ++ i.1 ∷ []) i.5,
      on_ok _ c.from_residual-in_err-waits-2.result c.from_residual-in_err-waits-2.ensures.0,
      on_err _ c.from_residual-in_err-waits-2.result (All-push IsParked i.0 i.1 i.2.parked (i.3.0 waits)),
    )

pub returns-in_err-waits-2-clause-fault : goal.returns-in_err-waits-2-clause-fault
returns-in_err-waits-2-clause-fault g c =
    let Lay : OneSeated g.row.A.Denot g.row.C.Denot g.row.H.Denot → Type 0
    = λ s. g.W.Waiters.lay c.args.waiters.now g.row.A.Denot g.row.C.Denot g.row.H.Denot s in
    handed_on Lay c.deref_mut-in-loop-2.result.now _ c.from_residual-in_err-waits-2.result (lay_at Lay _ _ c.deref_mut-in-loop-2.ensures.value c.wait-seated.ensures.lay)
    c.from_residual-in_err-waits-2.ensures.1 c.in_err-waits-2.ensures.fault

pub returns-in_err-waits-clause-fault : goal.returns-in_err-waits-clause-fault
returns-in_err-waits-clause-fault g c =
    let Lay : OneSeated g.row.A.Denot g.row.C.Denot g.row.H.Denot → Type 0
    = λ s. g.W.Waiters.lay c.args.waiters.now g.row.A.Denot g.row.C.Denot g.row.H.Denot s in
    handed_on Lay c.deref_mut.result.now _ c.from_residual.result (lay_at Lay _ _ c.deref_mut.ensures.value c.lock-seated.ensures)
    c.from_residual.ensures.1 c.in_err-waits.ensures.fault
