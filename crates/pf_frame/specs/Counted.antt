-- Frames by their numbers, as a list of counts, and the stack of the vacant ones.

use Rattle.std.specs.Prelude.{◌≡◌, ℕ, ◌+◌, ◌<◌, ◌≤◌, List, [], ◌∷◌, length, sum, slice_index, slice_index_or, ◌==◌, if◌then◌else◌}
use Rattle.pf_base.specs.declared.TheConstants.{MAX_FRAMES}
use Rattle.pf_frame.specs.Live.{Live}

-- how many of the counts are above 0
abbrev pub positives : List ℕ → ℕ
positives [] = 0
positives (c ∷ cs) = if c == 0 then positives cs else 1 + positives cs

-- how often the number q stands in a list
abbrev pub occurs : ℕ → List ℕ → ℕ
occurs q [] = 0
occurs q (x ∷ xs) = if x == q then 1 + occurs q xs else occurs q xs

-- the stack has no number twice, only numbers of frames whose count is 0, and so many that none is left out;
-- and it has room for all
pub record IsTable (counts vacant : List ℕ) (frames capacity : ℕ) : Type 0 where
  pub paged : frames ≡ length counts
  pub once : (q : ℕ) → occurs q vacant ≤ 1
  pub within : (q : ℕ) → 0 < occurs q vacant → q < length counts
  pub idle : (q : ℕ) → 0 < occurs q vacant → slice_index counts q ≡ 0
  pub number : length vacant + positives counts ≡ length counts
  pub room : length counts ≤ capacity
  pub few : length counts ≤ MAX_FRAMES

-- the live frames that these counts and pages are: those whose count is above 0
abbrev pub live_by : ℕ → List ℕ → List (List ℕ) → Live
live_by reserved counts pages = record { reserved = reserved; held = positives counts; shares = sum counts; count = λ q. slice_index counts q; bytes = λ q. if slice_index counts q == 0 then [] else slice_index_or pages q [] }
