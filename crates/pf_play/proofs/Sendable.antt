-- What a worker's thread takes with it may cross to another thread.
use denote.RattleType.{RattleType}
use denote.Param.{param}
use denote.Param.Send.{IsSend, sendable}
use denote.Ref.{NamedLft}
use denote.Struct.Field.{shr_ref_field}
use Rattle.std.below.std_heap.specs.contracts.GlobalAllocator.TheImpl.{ghosts}
use Rattle.std.proofs.Crossing.{crosses}
use Rattle.std.specs.contracts.alloc.Global as Global
use Rattle.std.specs.contracts.sync.Mutex as Mutex
use Rattle.std.specs.declared.sync.ledger.Ledger as Ledger
use Rattle.pf_depot.proofs.book.DepotBook.TheSendSync as book
use Rattle.pf_depot.specs.contracts.book.DepotBook as DepotBook
use Rattle.pf_script.proofs.script.Script.TheSendSync as script
use Rattle.pf_script.specs.contracts.script.Script as Script
use Rattle.pf_worker.proofs.Sendable.{plain_send}
use Rattle.pf_worker.specs.contracts.worker.Worker as Worker

pub heap_moves : IsSend Global.the_row
heap_moves = search (sendable, crosses) depth 20

pub script_is_lent : (κ : NamedLft) → IsSend (shr_ref_field κ Script.the_row tt).row
script_is_lent κ = search (script.the_sync, sendable) depth 20

module _ (C H : RattleType) (c : Ledger.Ghosts C.Denot) (h : Ledger.Ghosts H.Denot) where
  pub book_is_lent : (κ : NamedLft) →
      IsSend (shr_ref_field κ (Mutex.the_row (DepotBook.the_row (param 3 C) (param 4 H) c h)) tt).row
  book_is_lent κ = search (book.the_send, sendable, crosses) depth 20

  pub worker_moves : IsSend (Worker.the_row Global.the_row (param 3 C) (param 4 H) ghosts c h)
  worker_moves = search (plain_send, sendable) depth 20
