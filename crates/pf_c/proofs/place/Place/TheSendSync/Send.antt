-- What stands at a place may cross to another thread: a hub may, and any thread may free its block.
use mir.Raw.{raw}
use base.Shift.{Keyless}
use denote.Memory.{lone}
use denote.RawPtr.{Ptr, block_ptr, null_ptr}
use denote.Struct.Struct.{exits_of}
use denote.Struct.Owning.{shape, fields, to}
use denote.Param.Send.{IsSend, AllSend, owning_send, struct_send, sendable}
use Rattle.std.proofs.Crossing as heap
use Rattle.std.specs.Global.{Global}
use Rattle.std.specs.contracts.alloc.Global as Heap
use Rattle.std.specs.contracts.impls.GlobalAllocator.TheImpl.{ghosts}
use Rattle.std_alloc.proofs.SendSync.{quiet, lies}
use Rattle.std_heap.proofs.Global.TheSendSync as handle
use Rattle.pf_hub.proofs.Sendable.{hub_send}
use Rattle.pf_c.specs.Kept.{kept}
use Rattle.pf_c.specs.Rows.{held_row, Held}
use Rattle.pf_c.specs.contracts.place.Place.{the_row, the_type}

held_send : IsSend held_row
held_send = hub_send Heap.the_row ghosts heap.send heap.frees

keyless : (a : Global) (p : Ptr) (x : Held) → Keyless (kept a p x)
keyless a (block_ptr b o) x =
    (lies held_row held_send (block_ptr b o) x, heap.frees.frees a (raw (lone held_row.mir)) (block_ptr b o))
keyless a null_ptr x = tt

pub send : IsSend the_row
send =
    let all : AllSend (fields the_type) = (search sendable, (handle.the_field_send, tt)) in
    owning_send the_type all (λ d. keyless d.alloc d.at d.held)
    (λ k. quiet (to the_type) (exits_of k (fields the_type)) ((struct_send (shape the_type) all).leaving k))
