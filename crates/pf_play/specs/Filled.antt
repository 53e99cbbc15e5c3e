-- What the frames of a pool hold at the start.

use Rattle.std.specs.Prelude.{ℕ, ◌≡◌, List, replicate}
use Rattle.std.specs.List.{All}
use Rattle.pf_frame.specs.declared.frame.Frame.{Frame}

-- each of these frames holds this byte throughout its page
abbrev pub AreFilled : ℕ → List Frame → Type 0
AreFilled byte frames = All (λ frame. frame.bytes.items ≡ replicate 4096 byte) frames
