-- Frames with an owner each: lists of owners and of counts, by the frames' numbers.

use Rattle.std.specs.Prelude.{◌≡◌, ℕ, ◌≤◌, List, [], ◌∷◌, length, sum, slice_index, ◌==◌, if◌then◌else◌}
use Rattle.pf_frame.specs.Counted.{positives, live_by}
use Rattle.pf_frame.specs.Live.{Live, nobody}

-- the counts of the frames that ns owns, 0 at the others
abbrev pub mine : ℕ → List ℕ → List ℕ → List ℕ
mine ns [] counts = []
mine ns (o ∷ owners) [] = []
mine ns (o ∷ owners) (c ∷ counts) = (if o == ns then c else 0) ∷ mine ns owners counts

-- each namespace holds as many frames as it has live ones, and no more than its reservation;
-- all that is reserved is there
pub record IsPool (owners counts reserves held : List ℕ) : Type 0 where
  pub owned : length owners ≡ length counts
  pub each : (ns : ℕ) → positives (mine ns owners counts) ≡ slice_index held ns
  pub within : (ns : ℕ) → slice_index held ns ≤ slice_index reserves ns
  pub all : sum held ≡ positives counts
  pub reserved : sum reserves ≤ length counts
  pub same : length held ≡ length reserves

-- what the door of ns sees of these lists
abbrev pub live_of : ℕ → List ℕ → List ℕ → List ℕ → List (List ℕ) → Live
live_of ns owners counts reserves pages = live_by (slice_index reserves ns) (mine ns owners counts) pages

-- what each namespace but ns sees
abbrev pub others_of : ℕ → List ℕ → List ℕ → List ℕ → List (List ℕ) → ℕ → Live
others_of ns owners counts reserves pages m = if m == ns then nobody else live_of m owners counts reserves pages

-- what no call of the door of ns changes: the reservations, how many frames there are, and all that the others see
pub record PoolRest : Type 0 where
  pub reserves : List ℕ
  pub frames : ℕ
  pub others : ℕ → Live

-- the same of these lists
abbrev pub rest_of : ℕ → List ℕ → List ℕ → List ℕ → List (List ℕ) → PoolRest
rest_of ns owners counts reserves pages = record { reserves = reserves; frames = length counts; others = others_of ns owners counts reserves pages }
