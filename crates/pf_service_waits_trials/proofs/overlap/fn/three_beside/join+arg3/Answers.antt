use denote.Param.Send.{sendable}
use denote.RattleType.{RattleType}
use denote.Ref.{NamedLft}
use Rattle.std.proofs.Crossing.{crosses}
use Rattle.std.specs.declared.sync.ledger.Ledger as Ledger
use Rattle.pf_base.proofs.step.Step.TheSendSync as step
use Rattle.pf_service.proofs.Sendable.{gated_sync}
use Rattle.pf_service_waits_trials.proofs.overlap.Holder.TheSendSync as its_gate
use Rattle.pf_service_waits_trials.proofs.overlap.Signals.TheSendSync as signals
use Rattle.pf_service_waits_trials.specs.contracts.overlap.Holder as Holder
use Rattle.pf_service_waits_trials.specs.contracts.overlap.HolderGate.TheImpl.{ghosts as told}
use Rattle.pf_service_waits_trials.proofs.overlap.fn.three_beside.join+arg3.Goals as goal

pub join-requires-send-F : goal.join-requires-send-F
join-requires-send-F g c κs within =
    let served = λ (κ : NamedLft) (C H : RattleType) (l : Ledger.Ghosts C.Denot) (m : Ledger.Ghosts H.Denot). gated_sync (Holder.the_row κ) C H told l m (its_gate.the_sync κ) in
    search (served, step.the_sync, signals.the_sync, sendable, crosses) depth 60 fits 200000
