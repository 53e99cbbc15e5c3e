-- The closure shares the service and the random bytes with the other thread, and has its seat.
use denote.Param.Send.{sendable}
use Rattle.std.proofs.Crossing.{crosses}
use Rattle.pf_service.proofs.Sendable.{plain_sync}
use Rattle.pf_service.proofs.seat.Seat.TheSendSync as seat
use Rattle.pf_jobs.proofs.served.service.Round.TheSendSync as round
use Rattle.pf_jobs.proofs.served.source.Source.TheSendSync as source
use Rattle.pf_jobs.proofs.served.service.post_beside.Goals as goal

pub spawn-reader-requires-send-F : goal.spawn-reader-requires-send-F
spawn-reader-requires-send-F g c κs within =
    search (plain_sync, seat.the_send, source.the_sync, round.the_send, sendable, crosses) depth 60 fits 200000
