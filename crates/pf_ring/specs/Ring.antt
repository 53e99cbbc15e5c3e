-- What a ring means: a window shows bytes of a frame, and the windows of a ring show the segments of a queue.

use Rattle.std.specs.Prelude.{◌+◌, ◌-◌, List, [], map, take, drop, if◌then◌else◌}
use Rattle.pf_base.specs.declared.TheConstants.{PAGE_SIZE}
use Rattle.pf_machine.specs.Queue.{Segment, Slots, Queue}
use Rattle.pf_frame.specs.Live.{Live}
use Rattle.pf_ring.specs.declared.ring.Window.{Window}

-- a ring has a window in each slot that is in use
abbrev pub Ring : Type 0
Ring = Slots Window

-- the segment that a window shows: its bytes, and the room behind them where it grows
abbrev pub segment_of : Live → Window → Segment
segment_of f w = record { bytes = take w.len (drop w.from (f.bytes w.frame)); room = if w.grows then PAGE_SIZE - (w.from + w.len) else 0 }

-- the segments that windows show
abbrev pub shown : Live → List Window → List Segment
shown f ws = map (segment_of f) ws

-- the queue that a ring shows
abbrev pub queue_of : Live → Ring → Queue
queue_of f r = record { capacity = r.capacity; segments = shown f r.segments }

-- no slot at all
abbrev pub no_ring : Ring
no_ring = record { capacity = 0; segments = [] }
