-- Which numbers a set has, and how many.

use Rattle.std.specs.Prelude.{◌≡◌, ℕ, ◌/◌, ◌%◌, ◌<◌, Bool, false, List, length, count_by, nat_eq, slice_index, slice_index_or}
use Rattle.std.specs.Int.{bit_at}
use Rattle.pf_fds.specs.declared.marks.Marks.{Marks}

-- a number is marked by its bit, where each word has 64 of them
abbrev pub is_marked : Marks → ℕ → Bool
is_marked marks n = nat_eq (bit_at (slice_index marks.words (n / 64)) (n % 64)) 1

-- as many as are true in the list that says of each number whether it is marked
abbrev pub IsCount : Marks → ℕ → Type 0
IsCount marks count = (bs : List Bool) → length bs ≡ 256
    → ((k : ℕ) → k < 256 → is_marked marks k ≡ slice_index_or bs k false) → count ≡ count_by (λ b. b) bs
