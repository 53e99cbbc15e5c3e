-- What a handle's place owns: nothing where its pointer is null, and else the hub there, on the heap, and the right to
-- free its block.
use Rattle.std.specs.Prelude.{Bool, true, false}
use base.Fml.{Fml, ftrue}
use denote.RawPtr.{Ptr, block_ptr, null_ptr}
use Rattle.std.specs.Box.Ownership.{box_owns}
use Rattle.std.specs.Global.{Global}
use Rattle.std.specs.contracts.impls.GlobalAllocator.TheImpl.{ghosts}
use Rattle.pf_c.specs.Rows.{held_row, Held}

abbrev pub owned : Global → Ptr → Held → Fml
owned alloc = box_owns (ghosts.dealloc_token alloc) held_row

abbrev pub kept : Global → Ptr → Held → Fml
kept alloc (block_ptr b o) hub = owned alloc (block_ptr b o) hub
kept alloc null_ptr hub = ftrue

-- the pointer is no null
abbrev pub IsOpen : Ptr → Type 0
IsOpen (block_ptr b o) = Unit {0}
IsOpen null_ptr = ⊥

-- it is null
abbrev pub IsShut : Ptr → Type 0
IsShut (block_ptr b o) = ⊥
IsShut null_ptr = Unit {0}

-- and the flag beside it says which
abbrev pub IsRight : Bool → Ptr → Type 0
IsRight true at = IsOpen at
IsRight false at = IsShut at
