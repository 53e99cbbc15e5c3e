-- A namespace that owns no frame.

use Rattle.std.specs.Prelude.{◌≡◌}
use Rattle.pf_frame.specs.Live.{Live, IsSound}
use Rattle.pf_tables.specs.Meaning.{Namespace}
use Rattle.pf_tables.specs.Owns.{Owns}

-- whatever the door, where its live frames are those that the namespace's rings name, there are none
abbrev pub HoldsNone : Namespace → Type 0
HoldsNone n = (f : Live) → IsSound f → Owns f n → f.held ≡ 0
