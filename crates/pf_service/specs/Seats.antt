-- What a seat keeps.

use Rattle.std.specs.Prelude.{◌≡◌, ℕ, ◌<◌, ◌≤◌, ◌++◌, List, map, filter, Bool, nat_eq, nat_lt, ◌&&◌, count_by, if◌then◌else◌, slice_index}
use Rattle.pf_base.specs.declared.step.Step.{Step}
use Rattle.pf_base.specs.declared.step.Reply.{Reply}
use Rattle.pf_base.specs.declared.TheConstants.{MAX_NUMBERS}
use Rattle.pf_service.specs.declared.event.Event.{Event}
use Rattle.pf_service.specs.declared.fault.ServiceFault.{ServiceFault}
use Rattle.pf_service.specs.declared.fault.ServiceFault.TheVariants.{NoSuchNamespace, TooManySeats, Gone}

-- what a contract sees of a seat; spare: how many further events it has room for
pub record OneSeat : Type 0 where
  pub ns : ℕ
  pub number : ℕ
  pub events : List Event
  pub spare : ℕ

-- the lists of a namespace's seats
abbrev pub lists_of : ℕ → List OneSeat → List (List Event)
lists_of ns seats = map (λ s. s.events) (filter (λ s. nat_eq s.ns ns) seats)

abbrev pub event_at : ℕ → Step → Reply → Event
event_at place step reply = record { place = place; step = step; reply = reply }

-- the same seat, with these events more
pub record Gains (old new : OneSeat) (more : List Event) : Type 0 where
  pub ns : new.ns ≡ old.ns
  pub number : new.number ≡ old.number
  pub events : new.events ≡ old.events ++ more

-- it is this seat of this namespace
abbrev pub is_seat : ℕ → ℕ → OneSeat → Bool
is_seat ns number s = nat_eq s.ns ns && nat_eq s.number number

-- these are a namespace's seats that were given, 0 up to this number, each once
abbrev pub IsGiven : ℕ → ℕ → List OneSeat → Type 0
IsGiven ns given seats = (number : ℕ) → count_by (is_seat ns number) seats ≡ (if nat_lt number given then 1 else 0)

-- these are all seats that were given, so many of each namespace
abbrev pub AreGiven : List ℕ → List OneSeat → Type 0
AreGiven given seats = (ns : ℕ) → IsGiven ns (slice_index given ns) seats

-- why a seat was refused at this number, where so many were given from the start
abbrev pub IsSeatFault : ℕ → ℕ → ServiceFault → Type 0
IsSeatFault first ns NoSuchNamespace = first ≤ ns
IsSeatFault first ns TooManySeats = ns < MAX_NUMBERS
IsSeatFault first ns Gone = ns < MAX_NUMBERS
IsSeatFault first ns _ = ⊥
