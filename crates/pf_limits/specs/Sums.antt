-- What the counters count: sums over the pipes of a namespace, computed afresh.

use Rattle.std.specs.Prelude.{◌≡◌, ℕ, ◌+◌, ◌≤◌, List, [], ◌∷◌, ◌++◌, Option, Some, nat_eq, if◌then◌else◌}
use Rattle.pf_machine.specs.Counts.{charged, total}
use Rattle.pf_machine.specs.Numbered.{at, put_at, clear_at, sum_of}
use Rattle.pf_machine.specs.Queue.{Segment, with_capacity}
use Rattle.pf_machine.specs.State.{State, Pipe, opening, holding}
use Rattle.pf_limits.specs.UserPages.{UserPages, charged_to, Charges}

-- counters are the sums over a namespace's pipes
pub record AreSums (p : UserPages) (s : State Segment ℕ) : Type 0 where
  pub users : (u : ℕ) → charged_to p u ≡ charged s u
  pub total : p.total ≡ total s

-- the same over whatever stands for the pipes, each with an owner and a capacity
pub record AreSumsOf {X : Type 0} (owner capacity : X → ℕ) (p : UserPages) (xs : List (Option X)) : Type 0 where
  pub users : (u : ℕ) → charged_to p u ≡ sum_of (λ x. if nat_eq (owner x) u then capacity x else 0) xs
  pub total : p.total ≡ sum_of capacity xs

-- one more pipe under the next number
abbrev pub with_pipe : State Segment ℕ → Pipe Segment → State Segment ℕ
with_pipe s pipe = record s { pipes = s.pipes ++ Some pipe ∷ [] }

-- without the pipe of a number
abbrev pub without_pipe : State Segment ℕ → ℕ → State Segment ℕ
without_pipe s n = record s { pipes = clear_at s.pipes n }

-- with so many slots for the pipe of a number
abbrev pub resized : State Segment ℕ → ℕ → Pipe Segment → ℕ → State Segment ℕ
resized s n pipe slots = record s { pipes = put_at s.pipes n (holding (with_capacity slots pipe.queue) pipe) }

-- what is charged and refunded as the pipes change keeps the counters the sums
pub record CountersAreSums : Type 0 where
  -- where there is no pipe, nobody is charged
  pub none : (p : UserPages) → p.users ≡ [] → p.total ≡ 0 → AreSums p opening
  -- a new pipe is charged to its owner
  pub made : (old new : UserPages) (s : State Segment ℕ) (pipe : Pipe Segment) → AreSums old s
      → Charges old new pipe.owner pipe.queue.capacity → AreSums new (with_pipe s pipe)
  -- a pipe that goes is refunded to its owner
  pub gone : (old new : UserPages) (s : State Segment ℕ) (n : ℕ) (pipe : Pipe Segment) → AreSums old s
      → at s.pipes n ≡ Some pipe → Charges new old pipe.owner pipe.queue.capacity → AreSums new (without_pipe s n)
  -- growth is charged, and shrinking is refunded
  pub grown : (old new : UserPages) (s : State Segment ℕ) (n : ℕ) (pipe : Pipe Segment) (pages : ℕ) → AreSums old s
      → at s.pipes n ≡ Some pipe → Charges old new pipe.owner pages
      → AreSums new (resized s n pipe (pipe.queue.capacity + pages))
  pub shrunk : (old new : UserPages) (s : State Segment ℕ) (n : ℕ) (pipe : Pipe Segment) (slots pages : ℕ)
      → AreSums old s
      → at s.pipes n ≡ Some pipe → pipe.queue.capacity ≡ slots + pages → Charges new old pipe.owner pages
      → AreSums new (resized s n pipe slots)
  -- a pipe's pages are among its owner's, so they can be refunded
  pub covers : (p : UserPages) (s : State Segment ℕ) (n : ℕ) (pipe : Pipe Segment) → AreSums p s
      → at s.pipes n ≡ Some pipe
      → pipe.queue.capacity ≤ charged_to p pipe.owner
