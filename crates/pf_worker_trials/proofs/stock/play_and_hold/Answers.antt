use denote.Param.Send.{sendable}
use Rattle.std.proofs.Crossing.{crosses}
use Rattle.pf_depot.proofs.book.DepotBook.TheSendSync as book
use Rattle.pf_worker.proofs.Sendable.{plain_send}
use Rattle.pf_worker_trials.proofs.tenants.Row.TheSendSync as row
use Rattle.pf_worker_trials.proofs.stock.Meeting.TheSendSync as meeting
use Rattle.pf_worker_trials.proofs.watch.Watch.TheSendSync as watch
use Rattle.pf_worker_trials.proofs.stock.play_and_hold.Goals as goal

pub join-requires-send-F : goal.join-requires-send-F
join-requires-send-F g c κs within =
    search (
      plain_send,
      book.the_send,
      watch.the_sync,
      meeting.the_sync,
      row.the_sync,
      row.the_field_sync,
      sendable,
      crosses,
    ) depth 60 fits 200000
