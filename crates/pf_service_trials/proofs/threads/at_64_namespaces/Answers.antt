use denote.Param.Send.{sendable}
use Rattle.std.proofs.Crossing.{crosses}
use Rattle.pf_base.proofs.step.Step.TheSendSync as step
use Rattle.pf_service.proofs.Sendable.{plain_sync}
use Rattle.pf_service_trials.proofs.threads.at_64_namespaces.Goals as goal

pub map_vec-requires-sync-F : goal.map_vec-requires-sync-F
map_vec-requires-sync-F g c κs within = search (plain_sync, step.the_sync, sendable, crosses) depth 60 fits 200000
