use denote.Param.Send.{sendable}
use denote.RattleType.{RattleType}
use denote.Ref.{NamedLft}
use Rattle.std.proofs.Crossing.{crosses, send}
use Rattle.std.specs.declared.sync.ledger.Ledger as Ledger
use Rattle.pf_base.proofs.step.Step.TheSendSync as step
use Rattle.pf_service.proofs.Sendable.{gated_sync}
use Rattle.pf_service.proofs.seat.Seat.TheSendSync as seat
use Rattle.pf_service_waits_trials.proofs.woken.Count.TheSendSync as count
use Rattle.pf_service_waits_trials.proofs.woken.Counter.TheSendSync as its_gate
use Rattle.pf_service_waits_trials.specs.contracts.woken.Counter as Counter
use Rattle.pf_service_waits_trials.specs.contracts.woken.CounterGate.TheImpl.{ghosts as told}
use Rattle.pf_service_waits_trials.proofs.polls.wait_and_poll.Goals as goal

pub join-waiter-requires-send-F : goal.join-waiter-requires-send-F
join-waiter-requires-send-F g c κs within =
    let served = λ (κ : NamedLft) (C H : RattleType) (l : Ledger.Ghosts C.Denot) (m : Ledger.Ghosts H.Denot). gated_sync (Counter.the_row κ) C H told l m (its_gate.the_sync κ) in
    search (served, seat.the_send, step.the_sync, count.the_sync, sendable, send, crosses) depth 60 fits 200000
