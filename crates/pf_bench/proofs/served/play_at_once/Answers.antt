-- The closure shares the service and a pair's steps with the other threads.
use denote.Param.Send.{sendable}
use Rattle.std.proofs.Crossing.{crosses}
use Rattle.pf_base.proofs.step.Step.TheSendSync as step
use Rattle.pf_service.proofs.Sendable.{plain_sync}
use Rattle.pf_bench.proofs.Pair.TheSendSync as pair
use Rattle.pf_bench.proofs.served.play_at_once.Goals as goal

pub map_vec-back-requires-sync-F : goal.map_vec-back-requires-sync-F
map_vec-back-requires-sync-F g c κs within = search (plain_sync, pair.the_sync, step.the_sync, step.the_field_sync, sendable, crosses) depth 60 fits 200000
