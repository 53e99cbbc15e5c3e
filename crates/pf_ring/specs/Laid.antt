-- Bytes that are laid into a buffer which may have room for fewer.

use Rattle.std.specs.Prelude.{ℕ, min, List, ◌++◌, length, take, drop}

-- the first of the bytes at the buffer's front, as many as it has room for, and behind them what it had
abbrev pub laid : List ℕ → List ℕ → List ℕ
laid bytes buffer =
    let number = min (length bytes) (length buffer) in
    take number bytes ++ drop number buffer
