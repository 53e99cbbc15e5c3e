-- The bytes of frames, as lists.

use Rattle.std.specs.Prelude.{ℕ, List}
use Rattle.pf_frame.specs.declared.frame.Frame.{Frame}

-- the bytes of a frame
abbrev pub page_of : Frame → List ℕ
page_of f = f.bytes.items
