-- What receives bytes, a part behind the other.

use Rattle.std.specs.Prelude.{◌≡◌, ℕ, ◌+◌, ◌≤◌, List, ◌++◌}
use Rattle.pf_ring.specs.declared.receive.Receive.{Ghosts}

-- bytes came behind what it had at a place, up to the place after them, and there is as much room in all
pub record Receives {R : Type 0} (O : Ghosts R) (old new : R) (place after : ℕ) (bytes : List ℕ) : Type 0 where
  pub kept : O.kept new ≡ O.kept old
  pub bytes_come : O.received new after ≡ O.received old place ++ bytes
  pub room : O.room old place + place ≤ O.room new after + after
