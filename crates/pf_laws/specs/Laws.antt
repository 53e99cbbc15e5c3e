-- Laws of the definitions: what holds of every queue, every transfer and every list of events.

use Rattle.std.specs.Prelude.{◌≡◌, ℕ, ◌+◌, ◌-◌, ◌*◌, ◌≤◌, ◌<◌, Bool, true, List, ◌++◌, length, take, ◌⊎◌}
use Rattle.pf_machine.specs.Queue.{Segment, Queue, IsQueue, bytes_of, free_of, room_of, put, taken, after_take, tee_number, after_tee, after_splice}
use Rattle.pf_machine.specs.Progress.{Passed, Crossed, moved, read_now, write_now, cross_now}
use Rattle.pf_machine.specs.Events.{mine, kept, IsAmple}
use Rattle.pf_machine.specs.FileMap.{IsFileMap, root_alone}
use Rattle.pf_base.specs.Limits.{Limits}
use Rattle.pf_machine.specs.Machine.{step_of}
use Rattle.pf_machine.specs.State.{State, opening}
use Rattle.pf_base.specs.declared.TheConstants.{PAGE_SIZE}
use Rattle.pf_base.specs.declared.progress.Crossing.{Crossing}
use Rattle.pf_base.specs.declared.progress.Crossing.TheVariants.{Tee, Splice}
use Rattle.pf_base.specs.declared.step.Step.{Step}
use Rattle.pf_base.specs.declared.step.Answer.{Answer}

-- Queues

-- a put that fits adds exactly its bytes at the end, and the room falls by their number
pub record Adds (q : Queue) (x : List ℕ) : Type 0 where
  pub bytes : bytes_of (put q x) ≡ bytes_of q ++ x
  pub room : room_of (put q x) + length x ≡ room_of q
  pub queue : IsQueue q → IsQueue (put q x)

abbrev pub PutAdds : Type 0
PutAdds = (q : Queue) (x : List ℕ) → length x ≤ room_of q → Adds q x

-- what a take gives and what it leaves are what was there. As long as a byte is left, the room grows by a page for
-- each emptied segment; with no byte left, it is that of all slots
pub record Parts (q : Queue) (n : ℕ) : Type 0 where
  pub bytes : taken q n ++ bytes_of (after_take q n) ≡ bytes_of q
  pub room : IsQueue q → n < length (bytes_of q)
      → room_of (after_take q n) ≡ room_of q + PAGE_SIZE * (length q.segments - length (after_take q n).segments)
  pub emptied : length (bytes_of q) ≤ n → room_of (after_take q n) ≡ PAGE_SIZE * q.capacity
  pub queue : IsQueue q → IsQueue (after_take q n)

abbrev pub TakeParts : Type 0
TakeParts = (q : Queue) (n : ℕ) → Parts q n

-- a tee puts the front of the source, n bytes at most, at the end of the sink; if it puts something, the sink's room
-- is its free slots. A splice leaves the source without those bytes
pub record Copies (source sink : Queue) (n : ℕ) : Type 0 where
  pub number : tee_number source sink n ≤ n
  pub bytes : bytes_of (after_tee source sink n) ≡ bytes_of sink ++ taken source (tee_number source sink n)
  pub room : 0 < tee_number source sink n
      → room_of (after_tee source sink n) ≡ PAGE_SIZE * free_of (after_tee source sink n)
  pub queue : IsQueue source → IsQueue sink → IsQueue (after_tee source sink n)
  pub left : taken source (tee_number source sink n) ++ bytes_of (after_splice source sink n) ≡ bytes_of source

abbrev pub TeeCopies : Type 0
TeeCopies = (source sink : Queue) (n : ℕ) → Copies source sink n

-- Transfers

-- what a read of n bytes moves and what it leaves are what was there
pub record Reads (q : Queue) (n : ℕ) (r : Passed) : Type 0 where
  pub number : moved r.progress ≤ n
  pub bytes : taken q (moved r.progress) ++ bytes_of r.queue ≡ bytes_of q
  pub queue : IsQueue q → IsQueue r.queue

-- what a write moves is a front of its bytes, to the end of what was there; where it is to be whole, all of them or
-- none
pub record Writes (q : Queue) (whole : Bool) (x : List ℕ) (r : Passed) : Type 0 where
  pub number : moved r.progress ≤ length x
  pub bytes : bytes_of r.queue ≡ bytes_of q ++ take (moved r.progress) x
  pub queue : IsQueue q → IsQueue r.queue
  pub together : whole ≡ true → (moved r.progress ≡ length x) ⊎ (moved r.progress ≡ 0)

-- what a tee or a splice of n bytes brings to the sink is the front of the source, at the end of what was there. A tee
-- leaves the source as it is, a splice without those bytes
pub record Crosses (c : Crossing) (source sink : Queue) (n : ℕ) (r : Crossed) : Type 0 where
  pub number : moved r.progress ≤ n
  pub bytes : bytes_of r.sink ≡ bytes_of sink ++ taken source (moved r.progress)
  pub queue : IsQueue source → IsQueue sink → IsQueue r.sink
  pub copied : c ≡ Tee → r.source ≡ source
  pub gone : c ≡ Splice → taken source (moved r.progress) ++ bytes_of r.source ≡ bytes_of source
  pub left : IsQueue source → IsQueue r.source

pub record TransfersMove : Type 0 where
  pub reads : (q : Queue) (writers n : ℕ) → Reads q n (read_now q writers n)
  pub writes : (q : Queue) (readers : ℕ) (whole : Bool) (x : List ℕ) → Writes q whole x (write_now q readers whole x)
  pub crosses : (c : Crossing) (source sink : Queue) (writers readers n : ℕ)
      → Crosses c source sink n (cross_now c source sink writers readers n)

-- Events

-- where each event has an answer, and none of n's is that memory was wanted, all of n's steps are kept
abbrev pub AmpleKeepsAll : Type 0
AmpleKeepsAll =
    (events : List (ℕ × Step)) (answers : List Answer) (n : ℕ) → IsAmple events answers n
    → kept events answers n ≡ mine events n

-- Files

-- at the opening there is the root alone. Each step leaves a map of files where there was one: the paths rise, the root
-- is a directory, and what stands at a path has a directory at the path without its last name
pub record FilesStay : Type 0 where
  pub alone : (opening {X = Segment} {N = ℕ}).files ≡ root_alone
  pub opens : IsFileMap root_alone
  pub stays : (c : Limits) (s : State Segment ℕ) (step : Step) → IsFileMap s.files → IsFileMap (step_of c s step).state.files
