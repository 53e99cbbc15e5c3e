-- Places for frames on loan.

use Rattle.std.specs.Prelude.{◌≡◌, ℕ, ◌<◌, List, [], Option, Some, None, IsSome, slice_index, slice_index_or}
use Rattle.pf_frame.specs.declared.frame.Frame.{Frame}
use Rattle.pf_frame.specs.Pages.{page_of}

-- the bytes at a place: none where there is no frame
abbrev pub page_at : Option Frame → List ℕ
page_at None = []
page_at (Some frame) = page_of frame

-- a place has a frame exactly where its count is above 0
pub record AreLent (counts : List ℕ) (places : List (Option Frame)) : Type 0 where
  pub some : (q : ℕ) → 0 < slice_index counts q → IsSome (slice_index_or places q None)
  pub none : (q : ℕ) → slice_index counts q ≡ 0 → slice_index_or places q None ≡ None
