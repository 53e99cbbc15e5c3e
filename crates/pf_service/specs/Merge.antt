-- A transcript as a merge of what its seats keep.

use Rattle.std.specs.Prelude.{◌≡◌, ℕ, List, [], ◌∷◌, Option, Some, None, All, slice_get, nat_eq, map, filter}
use Rattle.std.specs.List.{flat_map}
use Rattle.std.specs.List.Sorted.{IsStrictlyIncreasing}
use Rattle.pf_base.specs.declared.step.Step.{Step}
use Rattle.pf_base.specs.declared.step.Reply.{Reply}
use Rattle.pf_service.specs.declared.event.Event.{Event}

-- the events of a list that name a place
abbrev pub at : ℕ → List Event → List Event
at i es = filter (λ e. nat_eq e.place i) es

abbrev pub event_of : ℕ → Option (Step × Reply) → List Event
event_of i None = []
event_of i (Some e) = record { place = i; step = e.0; reply = e.1 } ∷ []

-- the one event at a place of a transcript; none past its end
abbrev pub stands : List (Step × Reply) → ℕ → List Event
stands t i = event_of i (slice_get t i)

-- the places of a seat's events rise
abbrev pub Rises : List Event → Type 0
Rises es = IsStrictlyIncreasing (map (λ e. e.place) es)

-- each seat's events rise, and at each place the seats together have just what stands there
pub record IsMerge (t : List (Step × Reply)) (seats : List (List Event)) : Type 0 where
  pub rising : All Rises seats
  pub each : (i : ℕ) → at i (flat_map (λ es. es) seats) ≡ stands t i
