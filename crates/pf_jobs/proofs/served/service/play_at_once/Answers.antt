-- The closure shares the service and the random bytes with the other threads.
use denote.Param.Send.{sendable}
use Rattle.std.proofs.Crossing.{crosses}
use Rattle.pf_service.proofs.Sendable.{plain_sync}
use Rattle.pf_jobs.proofs.served.service.Round.TheSendSync as round
use Rattle.pf_jobs.proofs.served.source.Source.TheSendSync as source
use Rattle.pf_jobs.proofs.served.service.play_at_once.Goals as goal

pub map_vec-back-requires-sync-F : goal.map_vec-back-requires-sync-F
map_vec-back-requires-sync-F g c κs within =
    search (plain_sync, source.the_sync, round.the_sync, sendable, crosses) depth 60 fits 200000
