-- Nothing was made where the namespace isn't there, and else what its place says. That who waits there was woken is
-- `Unit`.
use Rattle.std.proofs.Common.{rules, ℕ, [], sym, refl, append-nil, arith}
use Rattle.pf_base.specs.declared.step.Step.{Step}
use Rattle.pf_base.specs.declared.step.Reply.{Reply}
use Rattle.pf_service.specs.Told.{Told}
use Rattle.pf_service.proofs.FaultLaws.{call_fault, on_ok, on_err}
use Rattle.pf_service.proofs.LockLaws.{fault_there, waited_alone}
use Rattle.pf_service.proofs.WaitingLaws.{nothing}
use Rattle.pf_service.proofs.service.Service.call_waiting.Goals as goal

pub returns-in_err-place-clause-waited : goal.returns-in_err-place-clause-waited
returns-in_err-place-clause-waited g c =
    let gate = c.self.inside.gate in
    let none = nothing (λ (s : Step) (p : ℕ) (r : Reply). Told s p r × g.G.Gate.passed gate c.args.seat.now.ns p) c.args.step.now c.args.seat.now c.args.seat.now
    c.args.receipts.now.items c.args.receipts.now.items (record { ns = refl; number = refl; events = sym (append-nil c.args.seat.now.events) }) refl in
    (gate, [], none, on_ok _ c.from_residual.result c.from_residual.ensures.0, on_err _ c.from_residual.result (λ k d l. absurd (omega arith)))

pub returns-clause-waited : goal.returns-clause-waited
returns-clause-waited g c =
    let w = c.call_waiting.ensures.waited in (
      c.self.inside.gate,
      w.0,
      waited_alone (λ n p. g.G.Gate.passed c.self.inside.gate n p) (λ n. g.G.Gate.framed c.self.inside.gate n)
          _ (λ s. Unit {0}) c.args.seat.now.ns _ _ _ _ _ w.0 w.1,
      w.3,
      w.4,
    )

pub returns-clause-fault : goal.returns-clause-fault
returns-clause-fault g c =
    call_fault _ c.args.seat.now.ns c.call_waiting.result (omega (arith, c.in_ok-place.ensures.found.1, c.ns.ensures)) (fault_there _ c.call_waiting.result c.call_waiting.ensures.fault)

pub call_waiting-requires : goal.call_waiting-requires
call_waiting-requires g c = search rules steps 1000000
