use denote.Param.Send.{sendable}
use Rattle.std.proofs.Crossing.{crosses}
use Rattle.pf_base.proofs.step.Step.TheSendSync as step
use Rattle.pf_service.proofs.Sendable.{plain_sync}
use Rattle.pf_service.proofs.seat.Seat.TheSendSync as seat
use Rattle.pf_service_trials.proofs.threads.on_two_threads.Goals as goal

pub join-red-requires-send-F : goal.join-red-requires-send-F
join-red-requires-send-F g c κs within = search (plain_sync, seat.the_send, step.the_sync, step.the_field_sync, sendable, crosses) depth 60 fits 200000
