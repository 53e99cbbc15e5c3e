-- Threads may share a service where its files' memory may be sent to them and its gate may be shared.
use denote.RattleType.{RattleType}
use denote.Param.Send.{IsSend, IsSync, Frees, sendable, view_send, view_sync}
use denote.Param.SendFields.{as_row_send, as_row_sync, declared_send, declared_sync}
use Rattle.std.below.std_heap.specs.contracts.GlobalAllocator.TheImpl.{ghosts}
use Rattle.std.proofs.Crossing.{crosses, frees, send, Box-send, Box-sync, Vec-sync}
use Rattle.std.proofs.option.Option.TheSendSync as option
use Rattle.std.proofs.sync.OnceLock.TheSendSync as once
use Rattle.std.proofs.sync.Mutex.TheSendSync as mutex
use Rattle.std.proofs.sync.ledger.Book.TheSendSync as book
use Rattle.std.proofs.sync.ledger.Share.TheSendSync as share
use Rattle.std.specs.contracts.alloc.Global as Global
use Rattle.std.specs.contracts.boxed.Box as Box
use Rattle.std.specs.contracts.option.Option as Option
use Rattle.std.specs.contracts.sync.OnceLock as OnceLock
use Rattle.std.specs.contracts.sync.Mutex as Mutex
use Rattle.std.specs.contracts.sync.ledger.Book as Book
use Rattle.std.specs.contracts.sync.ledger.Share as Share
use Rattle.std.specs.contracts.vec.Vec as Vec
use Rattle.std.specs.declared.alloc.Allocator as Allocator
use Rattle.std.specs.declared.sync.ledger.Ledger as Ledger
use Rattle.pf_depot.proofs.depot.Depot.TheSendSync as depot
use Rattle.pf_depot.proofs.loans.Loans.TheSendSync as loans
use Rattle.pf_depot.proofs.stock.Stock.TheSendSync as stock
use Rattle.pf_depot.specs.contracts.book.DepotBook as DepotBook
use Rattle.pf_depot.specs.contracts.book.DepotBook.TheInside as in_book
use Rattle.pf_space.proofs.Sendable.{placed_send}
use Rattle.pf_worker.specs.contracts.gate.NoGate as NoGate
use Rattle.pf_worker.specs.contracts.gate.NoGateGate.TheImpl.{ghosts as no_gate}
use Rattle.pf_worker.specs.declared.gate.Gate as Gate
use Rattle.pf_service.proofs.seated.Tenant.TheSendSync as tenant
use Rattle.pf_service.proofs.spare.Spare.TheSendSync as spare
use Rattle.pf_service.proofs.transcript.Transcript.TheSendSync as transcript
use Rattle.pf_service.proofs.waiters.NextEvent.TheSendSync as next
use Rattle.pf_service.specs.contracts.guests.Guests as Guests
use Rattle.pf_service.specs.contracts.living.Living as Living
use Rattle.pf_service.specs.contracts.logged.Logged as Logged
use Rattle.pf_service.specs.contracts.logged.Logged.TheInside as in_logged
use Rattle.pf_service.specs.contracts.place.Place as Place
use Rattle.pf_service.specs.contracts.place.Place.TheInside as in_place
use Rattle.pf_service.specs.contracts.seated.Seated as Seated
use Rattle.pf_service.specs.contracts.seated.Tenant as Tenant
use Rattle.pf_service.specs.contracts.service.Service as Service
use Rattle.pf_service.specs.contracts.service.Service.TheInside as in_service
use Rattle.pf_service.specs.contracts.waiters.NextEvent as NextEvent
use Rattle.pf_service.specs.contracts.waiters.NextEventWaiters.TheImpl.{ghosts as next_event}

module _ (C H : RattleType) (c : Ledger.Ghosts C.Denot) (h : Ledger.Ghosts H.Denot) where
  in_book_send : IsSend (in_book.the_row C H c h)
  in_book_send =
      let credits = as_row_send (Book.the_field C c) (book.the_send C c) in
      let held = as_row_send (Book.the_field H h) (book.the_send H h) in
      let undealt_credits = as_row_send (Share.the_field C c) (share.the_send C c) in
      let undealt_held = as_row_send (Share.the_field H h) (share.the_send H h) in
      declared_send (in_book.the_type C H c h) (depot.the_send, (credits, (held, (undealt_credits, (undealt_held, (search (sendable, crosses) depth 20, (search (sendable, crosses) depth 20, tt)))))))

  book_send : IsSend (DepotBook.the_row C H c h)
  book_send = view_send (in_book.the_row C H c h) _ _ _ _ in_book_send

  module _ (A : RattleType) (g : Allocator.Ghosts A.Denot) (s : IsSend A) (f : Frees g g.dealloc_token) where
    in_logged_send : IsSend (in_logged.the_row A g)
    in_logged_send = declared_send (in_logged.the_type A g) (search (sendable, crosses) depth 20, (placed_send A g s f, (loans.the_send, (transcript.the_send, (spare.the_send, tt)))))

    logged_send : IsSend (Logged.the_row A g)
    logged_send = view_send (in_logged.the_row A g) _ _ _ _ in_logged_send

    living_send : IsSend (Living.the_row A C H g c h)
    living_send =
        let logged = as_row_send (Logged.the_field A g) logged_send in
        let credits = as_row_send (Share.the_field C c) (share.the_send C c) in
        let held = as_row_send (Share.the_field H h) (share.the_send H h) in
        declared_send (Living.the_type A C H g c h) (logged, (credits, (held, (stock.the_send, (spare.the_send, tt)))))

    tenant_send : IsSend (Tenant.the_row (Living.the_row A C H g c h))
    tenant_send = tenant.the_send (Living.the_row A C H g c h) living_send

    seated_send : IsSend (Seated.the_row A C H g c h)
    seated_send = declared_send (Seated.the_type A C H g c h) (tenant_send, (search (sendable, crosses) depth 20, (search (sendable, crosses) depth 20, tt)))

    -- the place of a namespace, with those who wait there
    abbrev in_place_row : RattleType
    in_place_row = in_place.the_row A C H NextEvent.the_row g c h next_event

    abbrev place_row : RattleType
    place_row = Place.the_row A C H NextEvent.the_row g c h next_event

    in_place_send : IsSend in_place_row
    in_place_send =
        let seated = as_row_send (Mutex.the_field (Seated.the_row A C H g c h)) (mutex.the_send (Seated.the_row A C H g c h) seated_send) in
        declared_send (in_place.the_type A C H NextEvent.the_row g c h next_event)
        (search (sendable, crosses) depth 20, (seated, (next.the_send, (search (sendable, crosses) depth 20, tt))))

    place_send : IsSend place_row
    place_send = view_send in_place_row _ _ _ _ in_place_send

    in_place_sync : IsSync in_place_row
    in_place_sync =
        let seated = as_row_sync (Mutex.the_field (Seated.the_row A C H g c h)) (mutex.the_sync (Seated.the_row A C H g c h) seated_send) in
        declared_sync (in_place.the_type A C H NextEvent.the_row g c h next_event)
        (search (sendable, crosses) depth 20, (seated, (next.the_sync, (search (sendable, crosses) depth 20, tt))))

    place_sync : IsSync place_row
    place_sync = view_sync in_place_row _ _ _ _ in_place_sync

    -- memory for a place, and the lock round it
    abbrev room_row : RattleType
    room_row = Box.the_row (Option.the_row place_row) Global.the_row ghosts

    room_sync : IsSync (OnceLock.the_row room_row)
    room_sync =
        let send = Box-send (Option.the_row place_row) (option.the_send place_row place_send) in
        let sync = Box-sync (Option.the_row place_row) (option.the_sync place_row place_sync) in
        once.the_sync room_row send sync

    guests_sync : IsSync (Guests.the_row A C H g c h)
    guests_sync =
        let rooms = as_row_sync (Vec.the_field (OnceLock.the_row room_row) Global.the_row ghosts) (Vec-sync (OnceLock.the_row room_row) room_sync) in
        declared_sync (Guests.the_type A C H g c h) (rooms, tt)

    module _ (G : RattleType) (p : Gate.Ghosts G.Denot) (y : IsSync G) where
      in_service_sync : IsSync (in_service.the_row A G C H p g c h)
      in_service_sync =
          let places = as_row_sync (Vec.the_field place_row Global.the_row ghosts) (Vec-sync place_row place_sync) in
          let shared = as_row_sync (Mutex.the_field (DepotBook.the_row C H c h)) (mutex.the_sync (DepotBook.the_row C H c h) book_send) in
          declared_sync (in_service.the_type A G C H p g c h)
          (search (sendable, crosses) depth 20, (search (sendable, as_row_sync, crosses) depth 40, (places, (guests_sync, (shared, (search (sendable, as_row_sync, y) depth 20, tt))))))

      pub service_sync : IsSync (Service.the_row A G C H p g c h)
      service_sync = view_sync (in_service.the_row A G C H p g c h) _ _ _ _ in_service_sync

-- for `search`, which finds no ghost members in a row
pub gated_sync : (G C H : RattleType) (p : Gate.Ghosts G.Denot) (c : Ledger.Ghosts C.Denot) (h : Ledger.Ghosts H.Denot) → IsSync G
    → IsSync (Service.the_row Global.the_row G C H p ghosts c h)
gated_sync G C H p c h y = service_sync C H c h Global.the_row ghosts send frees G p y

pub plain_sync : (C H : RattleType) (c : Ledger.Ghosts C.Denot) (h : Ledger.Ghosts H.Denot) → IsSync (Service.the_row Global.the_row NoGate.the_row C H no_gate ghosts c h)
plain_sync C H c h = gated_sync NoGate.the_row C H no_gate c h (search sendable depth 20)
