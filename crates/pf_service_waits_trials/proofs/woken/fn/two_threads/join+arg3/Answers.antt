use denote.Param.Send.{sendable}
use denote.RattleType.{RattleType}
use denote.Ref.{NamedLft}
use Rattle.std.proofs.Crossing.{crosses, send}
use Rattle.std.specs.declared.sync.ledger.Ledger as Ledger
use Rattle.pf_service.proofs.Sendable.{gated_sync}
use Rattle.pf_service_waits_trials.proofs.woken.Caller.TheSendSync as caller
use Rattle.pf_service_waits_trials.proofs.woken.Counter.TheSendSync as its_gate
use Rattle.pf_service_waits_trials.specs.contracts.woken.Counter as Counter
use Rattle.pf_service_waits_trials.specs.contracts.woken.CounterGate.TheImpl.{ghosts as told}
use Rattle.pf_service_waits_trials.proofs.woken.fn.two_threads.join+arg3.Goals as goal

pub join-requires-send-F : goal.join-requires-send-F
join-requires-send-F g c κs within =
    let served = λ (κ : NamedLft) (C H : RattleType) (l : Ledger.Ghosts C.Denot) (m : Ledger.Ghosts H.Denot). gated_sync (Counter.the_row κ) C H told l m (its_gate.the_sync κ) in
    search (served, caller.the_send, sendable, send, crosses) depth 60 fits 200000
