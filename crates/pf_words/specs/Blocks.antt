-- Hexadecimal digits that are read many at once.

use Rattle.std.specs.Prelude.{ℕ, Option, Some, None}
use Rattle.hex.specs.Hex.{hex_digit_value}

abbrev pub or_255 : Option ℕ → ℕ
or_255 (Some value) = value
or_255 None = 255

-- the value of a hexadecimal digit, and 255 for another byte
abbrev pub value_or_none : ℕ → ℕ
value_or_none c = or_255 (hex_digit_value c)
