-- Memory for the copies of replies. No public clause cites this module.

use Rattle.std.specs.Prelude.{ℕ, ◌≡◌, ◌⊎◌, Option, Some, None}

-- what room there is, seen as the number of bytes that it has memory for, is for just so many
abbrev pub IsRoomFor : ℕ → Option ℕ → Type 0
IsRoomFor most None = most ≡ 0
IsRoomFor most (Some room) = most ≡ room

-- all of a room is left, or nothing of it
abbrev pub IsLeftOf : ℕ → ℕ → Type 0
IsLeftOf room left = (left ≡ room) ⊎ (left ≡ 0)
