-- What a pipe holds: a queue of segments, one a slot (pipe(7), tee(2), splice(2)). How bytes are cut into
-- segments, and the room that a segment keeps, are the profile's own.

use Rattle.std.specs.Prelude.{ℕ, zero, suc, ◌+◌, ◌-◌, ◌*◌, ◌≤◌, ◌<◌, List, [], ◌∷◌, ◌++◌, length, take, drop, nat_le, All, if◌then◌else◌}
use Rattle.pf_base.specs.declared.TheConstants.{PAGE_SIZE}

-- the bytes of a slot, and how many more it can take
pub record Segment : Type 0 where
  pub bytes : List ℕ
  pub room : ℕ

-- how many slots there are, and what the slots in use hold, the oldest first
pub record Slots (X : Type 0) : Type 0 where
  pub capacity : ℕ
  pub segments : List X

-- a queue has a segment in each slot that is in use
abbrev pub Queue : Type 0
Queue = Slots Segment

-- a segment has a byte, and its bytes and its room are one page at most
pub record IsSegment (s : Segment) : Type 0 where
  pub some : 0 < length s.bytes
  pub fits : length s.bytes + s.room ≤ PAGE_SIZE

-- a queue has a slot for each segment
pub record IsQueue (q : Queue) : Type 0 where
  pub each : All IsSegment q.segments
  pub slots : length q.segments ≤ q.capacity

-- an empty queue
abbrev pub empty : {X : Type 0} → ℕ → Slots X
empty capacity = record { capacity = capacity; segments = [] }

-- the bytes of some segments, in order
abbrev pub joined : List Segment → List ℕ
joined [] = []
joined (s ∷ ss) = s.bytes ++ joined ss

-- all bytes of a queue, in order
abbrev pub bytes_of : Queue → List ℕ
bytes_of q = joined q.segments

-- how many slots are free
abbrev pub free_of : Queue → ℕ
free_of q = q.capacity - length q.segments

-- the room of the last segment, 0 if there is none
abbrev pub last_room : List Segment → ℕ
last_room [] = 0
last_room (s ∷ []) = s.room
last_room (s ∷ t ∷ ss) = last_room (t ∷ ss)

-- how many bytes a queue can take: the last segment's room, and a page for each free slot
abbrev pub room_of : Queue → ℕ
room_of q = last_room q.segments + PAGE_SIZE * free_of q

-- Put (write(2))

-- the last segment takes what its room allows
abbrev pub topped_up : List Segment → List ℕ → List Segment
topped_up [] x = []
topped_up (s ∷ []) x = record { bytes = s.bytes ++ take s.room x; room = s.room - length x } ∷ []
topped_up (s ∷ t ∷ ss) x = s ∷ topped_up (t ∷ ss) x

-- pieces of a page, at most n of them, each a new segment; the last one keeps what is left of its page as room
abbrev pub pieces : ℕ → List ℕ → List Segment
pieces zero x = []
pieces (suc n) [] = []
pieces (suc n) (b ∷ x) =
    record { bytes = take PAGE_SIZE (b ∷ x); room = PAGE_SIZE - length (b ∷ x) } ∷ pieces n (drop PAGE_SIZE (b ∷ x))

-- a queue with these bytes behind its own, of which it has the room
abbrev pub put : Queue → List ℕ → Queue
put q x = record q { segments = topped_up q.segments x ++ pieces (free_of q) (drop (last_room q.segments) x) }

-- Take (read(2))

-- the segments without their first n bytes: emptied ones go, a cut one keeps its rest and its room
abbrev pub without_front : ℕ → List Segment → List Segment
without_front n [] = []
without_front n (s ∷ ss) =
    if nat_le (length s.bytes) n then without_front (n - length s.bytes) ss
    else record s { bytes = drop n s.bytes } ∷ ss

-- the first n bytes of a queue, or all if there are fewer
abbrev pub taken : Queue → ℕ → List ℕ
taken q n = take n (bytes_of q)

-- a queue without them
abbrev pub after_take : Queue → ℕ → Queue
after_take q n = record q { segments = without_front n q.segments }

-- Tee and splice (tee(2), splice(2))

-- the first n bytes of some segments, as at most k segments that have no room
abbrev pub copied : ℕ → ℕ → List Segment → List Segment
copied zero n ss = []
copied (suc k) zero ss = []
copied (suc k) (suc n) [] = []
copied (suc k) (suc n) (s ∷ ss) =
    record { bytes = take (suc n) s.bytes; room = 0 } ∷ copied k (suc n - length s.bytes) ss

-- how many bytes a tee of n bytes puts
abbrev pub tee_number : Queue → Queue → ℕ → ℕ
tee_number source sink n = length (joined (copied (free_of sink) n source.segments))

-- the sink after a tee
abbrev pub after_tee : Queue → Queue → ℕ → Queue
after_tee source sink n = record sink { segments = sink.segments ++ copied (free_of sink) n source.segments }

-- the source after a splice: the sink is as after a tee
abbrev pub after_splice : Queue → Queue → ℕ → Queue
after_splice source sink n = after_take source (tee_number source sink n)

-- Capacities (fcntl(2), F_SETPIPE_SZ)

-- a queue with another number of slots
abbrev pub with_capacity : {X : Type 0} → ℕ → Slots X → Slots X
with_capacity slots q = record q { capacity = slots }
