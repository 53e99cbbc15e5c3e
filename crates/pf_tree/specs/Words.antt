-- Eight bytes of a name as a number.
use Rattle.std.specs.Prelude.{ℕ, ◌+◌, ◌*◌, List, slice_index}

-- the number that the eight bytes from a place on spell, the first the greatest
abbrev pub word_at : List ℕ → ℕ → ℕ
word_at name at =
    slice_index name at * 72057594037927936 + slice_index name (at + 1) * 281474976710656 + slice_index name (at + 2) * 1099511627776 + slice_index name (at + 3) * 4294967296
    + slice_index name (at + 4) * 16777216 + slice_index name (at + 5) * 65536 + slice_index name (at + 6) * 256 + slice_index name (at + 7)
