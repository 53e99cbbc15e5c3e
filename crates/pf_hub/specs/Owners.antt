-- Who owns the frames of a hub, and what its windows show. A frame is a value: it lies in the depot, where it is free,
-- or at a place of the loans of one namespace, its owner. A window names a frame by its place in the loans of the
-- window's own namespace, so it names no other's.

use Rattle.std.specs.Prelude.{◌≡◌, ℕ, ◌+◌, ◌<◌, ◌≤◌, ⊤, List, [], ◌∷◌, ◌++◌, length, take, drop}
use Rattle.std.specs.Prelude.{Option, Some, None, IsSome, is_some, slice_index}
use Rattle.pf_base.specs.declared.TheConstants.{PAGE_SIZE}
use Rattle.pf_machine.specs.Numbered.{at, sum_of}
use Rattle.pf_machine.specs.Queue.{Segment}
use Rattle.pf_machine.specs.State.{Pipe}
use Rattle.pf_frame.specs.declared.frame.Frame.{Frame}
use Rattle.pf_frame.specs.Pages.{page_of}
use Rattle.pf_ring.specs.declared.ring.Window.{Window}
use Rattle.pf_ring.specs.Windows.{named}
use Rattle.pf_depot.specs.declared.depot.Depot.{Depot}
use Rattle.pf_depot.specs.declared.loans.Loans.{Loans}
use Rattle.pf_tables.specs.Meaning.{Namespace}
use Rattle.pf_hub.specs.declared.tenant.Tenant.{Tenant as Lodger}
use Rattle.pf_hub.specs.Tenants.{Tenant, Tenants, tenant_at, frames_in, slack_in}

-- the frames that lie at some places
abbrev pub lying : List (Option Frame) → List Frame
lying [] = []
lying (None ∷ places) = lying places
lying (Some frame ∷ places) = frame ∷ lying places

-- the frames that some tenants own, one after the other
abbrev pub owned : {Z : Type 0} → List (Option (Lodger Z)) → List Frame
owned [] = []
owned (None ∷ ts) = owned ts
owned (Some t ∷ ts) = lying t.loans.places.items ++ owned ts

-- how many windows of a namespace, of all its pipes, are on the frame at a place
abbrev pub windows_on : ℕ → Namespace → ℕ
windows_on place s = sum_of (λ p. named place p.queue.segments) s.state.pipes

-- a window holds a segment: a frame lies at the place that it names, and the segment's bytes are those that stand in it
-- from the window's beginning on, as many as the window is long
pub record Shows (places : List (Option Frame)) (w : Window) (s : Segment) : Type 0 where
  pub frame : Frame
  pub lies : at places w.frame ≡ Some frame
  pub within : w.from + w.len ≤ PAGE_SIZE
  pub bytes : s.bytes ≡ take w.len (drop w.from (page_of frame))

-- so many windows hold so many segments, each its own
abbrev pub ShowEach : List (Option Frame) → List Window → List Segment → Type 0
ShowEach places [] [] = ⊤
ShowEach places (w ∷ ws) (s ∷ ss) = Shows places w s × ShowEach places ws ss
ShowEach places [] (s ∷ ss) = ⊥
ShowEach places (w ∷ ws) [] = ⊥

-- a pipe's windows hold the segments of its queue; or the pipe isn't there
abbrev pub ShowQueue : List (Option Frame) → Option (Pipe Window) → Option (Pipe Segment) → Type 0
ShowQueue places None None = ⊤
ShowQueue places (Some p) (Some q) = ShowEach places p.queue.segments q.queue.segments
ShowQueue places None (Some q) = ⊥
ShowQueue places (Some p) None = ⊥

-- a namespace owns the frames of these loans: they are as many as it is said to hold; the count of the frame at a
-- place is the number of its owner's windows on it, and a frame lies exactly where it is above 0; and each pipe's
-- windows hold the segments of the queue that it has in the lone machine's state
pub record IsOwner (l : Loans) (s : Namespace) (t : Tenant) : Type 0 where
  pub held : length (lying l.places.items) ≡ t.held
  pub counts : (place : ℕ) → slice_index l.counts.items place ≡ windows_on place s
  pub live : (place : ℕ) → 0 < windows_on place s → IsSome (at l.places.items place)
  pub vacant : (place : ℕ) → windows_on place s ≡ 0 → at l.places.items place ≡ None
  pub shown : (number : ℕ) → ShowQueue l.places.items (at s.state.pipes number) (at t.state.pipes number)

-- A hub is made of a depot, and of the tenants: the loans and the own state of each. Each frame lies in the depot or at
-- one place of one namespace: all that lie there, taken together, are as many as the depot was made with, and as the
-- hub has. And each namespace owns the frames of its loans
pub record AreOwned {Z : Type 0} (h : Tenants) (depot : Depot) (tenants : List (Option (Lodger Z))) : Type 0 where
  pub paired : length tenants ≡ length h.tenants
  pub living : (n : ℕ) → is_some (at tenants n) ≡ is_some (at h.tenants n)
  pub free : length depot.free.items ≡ h.free
  pub once : length (depot.free.items ++ owned tenants) ≡ depot.all
  pub all : depot.all ≡ frames_in h
  pub slack : depot.slack ≡ slack_in h
  pub owners : (n : ℕ) (t : Lodger Z) → at tenants n ≡ Some t → IsOwner t.loans t.placed.space (tenant_at h n)
