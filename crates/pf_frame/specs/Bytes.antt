-- Bytes that are written into a page.

use Rattle.std.specs.Prelude.{ℕ, ◌+◌, List, ◌++◌, length, take, drop}

-- a page with the bytes xs from the place at on
abbrev pub filled : ℕ → List ℕ → List ℕ → List ℕ
filled at xs page = take at page ++ xs ++ drop (at + length xs) page
