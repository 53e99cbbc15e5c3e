-- The live frames of a namespace that has frames for itself.

use Rattle.std.specs.Prelude.{length, map}
use Rattle.pf_frame.specs.declared.own.OwnFrames.{OwnFrames}
use Rattle.pf_frame.specs.Counted.{live_by}
use Rattle.pf_frame.specs.Live.{Live}
use Rattle.pf_frame.specs.Pages.{page_of}

-- the reservation is all of the frames
abbrev pub own_live : OwnFrames → Live
own_live f = live_by (length f.table.counts.items) f.table.counts.items (map page_of f.table.frames.items)
