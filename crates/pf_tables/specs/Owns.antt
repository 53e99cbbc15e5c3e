-- What holds between a namespace and its door at all times.

use Rattle.std.specs.Prelude.{◌≡◌}
use Rattle.pf_frame.specs.Live.{Live}
use Rattle.pf_ring.specs.Table.{Joined}
use Rattle.pf_tables.specs.Meaning.{Namespace, rings_of}

-- the live frames are those that the namespace's rings name, as often as they name them, and the reservation is its own
pub record Owns (f : Live) (n : Namespace) : Type 0 where
  pub joined : Joined f (rings_of n.state)
  pub reserve : n.limits.reserve ≡ f.reserved
