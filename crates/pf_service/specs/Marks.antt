-- Which places of a transcript, and which numbers of seats, were met.

use Rattle.std.specs.Prelude.{◌≡◌, ℕ, Bool, false, List, [], if◌then◌else◌, slice_index_or, count_by}
use Rattle.pf_base.specs.declared.step.Step.{Step}
use Rattle.pf_base.specs.declared.step.Reply.{Reply}
use Rattle.pf_service.specs.declared.event.Event.{Event}
use Rattle.pf_service.specs.Merge.{at, stands}
use Rattle.pf_service.specs.Seats.{OneSeat, is_seat}

-- at a marked place the events so far have just what stands there, at another none
abbrev pub IsMarked : List (Step × Reply) → List Bool → List Event → Type 0
IsMarked t marks done = (i : ℕ) → at i done ≡ (if slice_index_or marks i false then stands t i else [])

-- a marked number has been seen once, another never
abbrev pub IsCounted : ℕ → List Bool → List OneSeat → Type 0
IsCounted ns marks seats = (number : ℕ) → count_by (is_seat ns number) seats ≡ (if slice_index_or marks number false then 1 else 0)
