-- Which bytes of a text are equal to one, and the words of a text that are none.

use Rattle.std.specs.Prelude.{ℕ, Bool, List, length, map, ◌==◌}
use Rattle.std.specs.Simd.Lanes.{mask_l}
use Rattle.memchr.specs.Find.{is_byte}

-- bit k is set where byte k is this one
abbrev pub marks : ℕ → List ℕ → ℕ
marks byte text = mask_l (map (is_byte byte) text)

abbrev pub is_no_word : List ℕ → Bool
is_no_word word = length word == 0
