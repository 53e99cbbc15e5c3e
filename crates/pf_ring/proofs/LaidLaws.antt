-- Bytes that are laid into a buffer.

use Rattle.std.proofs.Common.{◌≡◌, ℕ, List, [], ◌++◌, length, take, drop, sym, ap, arith}
use Rattle.std.specs.Prelude.{min}
use Rattle.pf_ring.specs.Laid.{laid}

-- a buffer stays as it is where there is nothing to lay into it
pub no_byte_lies : (buffer : List ℕ) → buffer ≡ laid [] buffer
no_byte_lies buffer =
    let zero : min 0 (length buffer) ≡ 0 = omega arith in
    sym (ap (λ (n : ℕ). take n [] ++ drop n buffer) zero)
