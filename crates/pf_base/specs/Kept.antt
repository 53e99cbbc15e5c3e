-- How a byte string keeps its bytes: a few of them in place, and more in memory of the heap. And how groups keep their ids.

use Rattle.std.specs.Prelude.{ℕ, ◌≡◌, ◌≤◌, ⊤, List, [], take, Option, None, Some, vec_capacity}
use Rattle.std.specs.Global.{Box, Vec}
use Rattle.pf_base.specs.declared.TheConstants.{BYTES_IN_PLACE}
use Rattle.pf_base.specs.declared.bytes.Kept.{Kept}
use Rattle.pf_base.specs.declared.bytes.Kept.TheVariants.{InPlace, Shared, OnHeap}

-- the bytes
abbrev pub kept_bytes : Kept → List ℕ
kept_bytes (InPlace len bytes) = take len bytes
kept_bytes (Shared bytes) = bytes.value.items
kept_bytes (OnHeap bytes) = bytes.value.items

-- in place are no more than there is place for
abbrev pub FitsInPlace : Kept → Type 0
FitsInPlace (InPlace len bytes) = len ≤ BYTES_IN_PLACE
FitsInPlace (Shared bytes) = ⊤
FitsInPlace (OnHeap bytes) = ⊤

-- this memory is empty, and just enough for so many bytes; none is needed for those that are kept in place
abbrev pub IsRoomFor : ℕ → Option (Box (Vec ℕ)) → Type 0
IsRoomFor most None = most ≤ BYTES_IN_PLACE
IsRoomFor most (Some bytes) = (bytes.value.items ≡ []) × (vec_capacity bytes.value ≡ most)

-- the ids of supplementary groups
abbrev pub kept_ids : Option (Box (Vec ℕ)) → List ℕ
kept_ids None = []
kept_ids (Some ids) = ids.value.items
