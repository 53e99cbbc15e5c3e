use denote.Param.Send.{sendable}
use Rattle.std.proofs.Crossing.{crosses}
use Rattle.pf_service.proofs.Sendable.{plain_sync}
use Rattle.pf_service_trials.proofs.guests.Job.TheSendSync as job
use Rattle.pf_service_trials.proofs.guests.on_four_threads.Goals as goal

pub map_vec-requires-sync-F : goal.map_vec-requires-sync-F
map_vec-requires-sync-F g c κs within = search (plain_sync, job.the_sync, job.the_field_sync, sendable, crosses) depth 60 fits 200000
