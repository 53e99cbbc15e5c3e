-- How a slab's slots are seen by number. No public clause cites this module.

use Rattle.std.specs.Prelude.{◌≡◌, ℕ, zero, suc, ◌+◌, ◌^◌, ◌<◌, ◌≤◌, List, [], ◌∷◌, Option, Some, None, nat_eq, if◌then◌else◌}
use Rattle.pf_machine.specs.Numbered.{at}
use Rattle.pf_fds.specs.declared.registry.Entry.{Entry}
use Rattle.pf_fds.specs.declared.registry.Key.{Key}
use Rattle.slab.specs.Slab.{Slab, slab_len}

module _ {T : Type 0} where
  -- the first slot from place i on whose entry has the number
  abbrev pub scan : ℕ → ℕ → List (Option (Entry T)) → Option (ℕ × T)
  scan n i [] = None
  scan n i (None ∷ xs) = scan n (suc i) xs
  scan n i (Some e ∷ xs) = if nat_eq e.serial n then Some (i, e.value) else scan n (suc i) xs

  -- the next `count` numbers from n on
  abbrev pub numbers : ℕ → ℕ → List (Option (Entry T)) → List (Option (ℕ × T))
  numbers zero n xs = []
  numbers (suc count) n xs = scan n 0 xs ∷ numbers count (suc n) xs

  -- what stands at each number that was drawn
  abbrev pub by_number : ℕ → List (Option (Entry T)) → List (Option (ℕ × T))
  by_number drawn xs = numbers drawn 0 xs

  -- each number was drawn, and stands in one slot
  pub record IsSound (xs : List (Option (Entry T))) (drawn : ℕ) : Type 0 where
    pub below : (k : ℕ) (e : Entry T) → at xs k ≡ Some e → e.serial < drawn
    pub apart : (j k : ℕ) (d e : Entry T) → at xs j ≡ Some d → at xs k ≡ Some e → d.serial ≡ e.serial → j ≡ k

  -- the key's number was drawn and nothing stands there, its place is the next to be filled, and there is room
  pub record IsOut (slab : Slab (Entry T)) (drawn room : ℕ) (key : Key) : Type 0 where
    pub next : slab.vacant_key ≡ key.slot
    pub below : key.serial < drawn
    pub absent : at (by_number drawn slab.slots) key.serial ≡ None
    pub has_room : 0 < room

  -- a registry's fields: the room is there and can be counted, and a key that is out can be put back
  pub record IsKept (slab : Slab (Entry T)) (drawn room : ℕ) (out : Option Key) : Type 0 where
    pub sound : IsSound slab.slots drawn
    pub fits : slab_len slab + room ≤ slab.capacity
    pub counted : slab_len slab + room < 2 ^ 64
    pub returns : (key : Key) → out ≡ Some key → IsOut slab drawn room key
