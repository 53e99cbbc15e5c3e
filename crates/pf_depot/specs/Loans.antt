-- A namespace's loans, as its door sees them.

use Rattle.std.specs.Prelude.{length, map}
use Rattle.pf_frame.specs.Counted.{live_by}
use Rattle.pf_frame.specs.Live.{Live}
use Rattle.pf_depot.specs.declared.loans.Loans.{Loans}
use Rattle.pf_depot.specs.Places.{page_at}

-- the live frames: the reservation is the number of the places
abbrev pub loans_live : Loans → Live
loans_live l = live_by (length l.counts.items) l.counts.items (map page_at l.places.items)
