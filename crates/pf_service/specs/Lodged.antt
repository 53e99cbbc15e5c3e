-- Where a namespace lies that is admitted.

use Rattle.std.specs.Prelude.{◌≡◌, ℕ, List, Option, Some, option_map, slice_get}
use Rattle.std.specs.Sync.OnceLock.{Named}
use Rattle.pf_service.specs.Places.{OnePlace}

-- what shows that a room is filled is of the room with this number
abbrev pub IsOfRoom : List Named → ℕ → ℕ → Type 0
IsOfRoom rooms ns of = option_map (λ room. room.id) (slice_get rooms ns) ≡ Some of

-- and the place of this number lies there
abbrev pub IsLodged : {W : Type 0} → List Named → ℕ → ℕ → Option (OnePlace W) → Type 0
IsLodged rooms ns of there = IsOfRoom rooms ns of × (option_map (λ p. p.ns) there ≡ Some ns)
