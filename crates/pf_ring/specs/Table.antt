-- A table of rings in the frames of one door: what holds of all of them together.

use Rattle.std.proofs.Common.{◌≡◌, ℕ, ◌≤◌, List, length}
use Rattle.std.specs.Prelude.{slice_index_or}
use Rattle.std.specs.List.{sum_by}
use Rattle.pf_base.specs.declared.TheConstants.{PAGE_SIZE}
use Rattle.pf_frame.specs.Live.{Live}
use Rattle.pf_ring.specs.Ring.{Ring, no_ring}
use Rattle.pf_ring.specs.Windows.{named, reach, opens, limit, NoEmpty}

-- the ring at a place of a table, no ring past its end
abbrev pub ring_at : List Ring → ℕ → Ring
ring_at rings i = slice_index_or rings i no_ring

-- how often a ring names the frame q, and how many of its windows on q grow
abbrev pub named_by : ℕ → Ring → ℕ
named_by q r = named q r.segments

abbrev pub opens_by : ℕ → Ring → ℕ
opens_by q r = opens q r.segments

-- how many slots a ring has, and how many are in use
abbrev pub slots_of : Ring → ℕ
slots_of r = r.capacity

abbrev pub slots_used : Ring → ℕ
slots_used r = length r.segments

-- the live frames are those that the rings name, as often as they name them. On a frame at most one window grows, and
-- no window of any ring ends behind it. No ring has more windows than slots, and the slots are within the reservation
pub record Joined (f : Live) (rings : List Ring) : Type 0 where
  pub counts : (q : ℕ) → sum_by (named_by q) rings ≡ f.count q
  pub total : sum_by slots_used rings ≡ f.shares
  pub single : (q : ℕ) → sum_by (opens_by q) rings ≤ 1
  pub within : (q i : ℕ) → reach q (ring_at rings i).segments ≤ PAGE_SIZE
  pub apart : (q i j : ℕ) → reach q (ring_at rings i).segments ≤ limit q (ring_at rings j).segments
  pub some : (i : ℕ) → NoEmpty (ring_at rings i).segments
  pub fits : (i : ℕ) → slots_used (ring_at rings i) ≤ slots_of (ring_at rings i)
  pub reserve : sum_by slots_of rings ≤ f.reserved
