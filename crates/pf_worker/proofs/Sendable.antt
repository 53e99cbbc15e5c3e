-- A worker may be sent to another thread where its files' memory may.
use denote.RattleType.{RattleType}
use denote.Param.Send.{IsSend, Frees, sendable, view_send}
use denote.Param.SendFields.{as_row_send, declared_send}
use Rattle.std.below.std_heap.specs.contracts.GlobalAllocator.TheImpl.{ghosts}
use Rattle.std.proofs.Crossing.{crosses, frees, send}
use Rattle.std.specs.contracts.alloc.Global as Global
use Rattle.std.specs.declared.alloc.Allocator as Allocator
use Rattle.std.specs.declared.sync.ledger.Ledger as Ledger
use Rattle.std.proofs.sync.ledger.Share.TheSendSync as share
use Rattle.std.specs.contracts.sync.ledger.Share as Share
use Rattle.pf_depot.proofs.loans.Loans.TheSendSync as loans
use Rattle.pf_depot.proofs.stock.Stock.TheSendSync as stock
use Rattle.pf_space.proofs.Sendable.{placed_send}
use Rattle.pf_worker.specs.contracts.worker.Worker as Worker
use Rattle.pf_worker.specs.contracts.worker.Worker.TheInside as in_worker

module _ (A : RattleType) (g : Allocator.Ghosts A.Denot) (s : IsSend A) (f : Frees g g.dealloc_token) (C H : RattleType) (c : Ledger.Ghosts C.Denot) (h : Ledger.Ghosts H.Denot) where
  in_worker_send : IsSend (in_worker.the_row A C H g c h)
  in_worker_send =
      let placed = placed_send A g s f in
      let credits = as_row_send (Share.the_field C c) (share.the_send C c) in
      let held = as_row_send (Share.the_field H h) (share.the_send H h) in
      declared_send (in_worker.the_type A C H g c h) (search (sendable, crosses) depth 20, (placed, (loans.the_send, (credits, (held, (stock.the_send, tt))))))

  pub worker_send : IsSend (Worker.the_row A C H g c h)
  worker_send = view_send (in_worker.the_row A C H g c h) _ _ _ _ in_worker_send

-- for `search`, which finds no ghost members in a row
pub plain_send : (C H : RattleType) (c : Ledger.Ghosts C.Denot) (h : Ledger.Ghosts H.Denot) → IsSend (Worker.the_row Global.the_row C H ghosts c h)
plain_send C H c h = worker_send Global.the_row ghosts send frees C H c h
