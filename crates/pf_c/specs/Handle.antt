-- A handle of C: a hub, or none.

use Rattle.std.specs.Prelude.{Bool, true, false, Option, Some, None}
use Rattle.pf_c.specs.Rows.{Held}
use Rattle.pf_c.specs.declared.place.Place.{Place}

-- its two fields
pub record Handle : Type 0 where
  pub place : Place
  pub is_open : Bool

abbrev pub hub_at : Bool → Held → Option Held
hub_at true hub = Some hub
hub_at false hub = None

-- the hub, where it is open
abbrev pub hub_of : Handle → Option Held
hub_of h = hub_at h.is_open h.place.held
