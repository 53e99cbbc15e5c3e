use denote.Param.Send.{sendable}
use denote.RattleType.{RattleType}
use denote.Ref.{NamedLft}
use Rattle.std.proofs.Crossing.{crosses, send}
use Rattle.std.specs.declared.sync.ledger.Ledger as Ledger
use Rattle.pf_base.proofs.step.Step.TheSendSync as step
use Rattle.pf_service.proofs.Sendable.{gated_sync}
use Rattle.pf_service.proofs.seat.Seat.TheSendSync as seat
use Rattle.pf_service_trials.proofs.gates.Recorder.TheSendSync as its_gate
use Rattle.pf_service_trials.specs.contracts.gates.Recorder as Recorder
use Rattle.pf_service_trials.specs.contracts.gates.RecorderGate.TheImpl.{ghosts as told}
use Rattle.pf_service_trials.proofs.gates.one_after_the_other.Goals as goal

pub join-first-requires-send-F : goal.join-first-requires-send-F
join-first-requires-send-F g c κs within =
    let served = λ (κ : NamedLft) (C H : RattleType) (l : Ledger.Ghosts C.Denot) (m : Ledger.Ghosts H.Denot). gated_sync (Recorder.the_row κ) C H told l m (its_gate.the_sync κ) in
    search (served, seat.the_send, step.the_sync, sendable, send, crosses) depth 60 fits 200000
