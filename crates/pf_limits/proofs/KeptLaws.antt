-- What a map of users' pages keeps through a charge and a refund: each user has a page at least, and the total is their sum.

use Rattle.std.proofs.Common.{◌≡◌, ◌≢◌, ℕ, ◌+◌, ◌<◌, ◌≤◌, Bool, true, false, cond, Option, Some, None, sym, ap, ◌∙◌, arith, nat_eq}
use Rattle.std.specs.Prelude.{sum, unwrap_or, is_some}
use Rattle.std.specs.List.Sorted.{IsPermutation}
use Rattle.std.specs.Map.{remove_entry, set_value, values_of}
use Rattle.std.specs.HashMap.{HashMap, get, values, PutsEntry, WritesThrough}
use Rattle.std.proofs.lemmas.Iterator.Adapters.{option_map_id}
use Rattle.std.proofs.lemmas.Map.Entries.{sum_by_puts_entry, sum_by_values_permutation, sum_by-remove_entry, sum_by-set_value}
use Rattle.std.proofs.lemmas.Map.Steps.{lookup-le-sum}
use Rattle.pf_limits.specs.UserPages.{IsKept}

module _ {S : Type 0} (m n : HashMap ℕ ℕ S) (uid : ℕ) (w : Option ℕ) (updates : (q : ℕ) → get nat_eq n q ≡ cond (nat_eq uid q) w (get nat_eq m q)) where
  some-update : w ≢ Some 0 → ((u : ℕ) → get nat_eq m u ≢ Some 0) → (u : ℕ) → get nat_eq n u ≢ Some 0
  some-update apart some u = by_test (nat_eq uid u) (updates u)
    where
      by_test : (b : Bool) → get nat_eq n u ≡ cond b w (get nat_eq m u) → get nat_eq n u ≢ Some 0
      by_test true e h = apart (sym e ∙ h)
      by_test false e h = some u (sym e ∙ h)

  -- where the total is their sum again, and within the reservation
  IsKept-update : (reserve old new : ℕ) → w ≢ Some 0 → new ≡ sum (values n) → new ≤ reserve → IsKept reserve m.entries old → IsKept reserve n.entries new
  IsKept-update reserve old new apart is within kept = record {
    some = some-update apart kept.some;
    sum = is;
    within = within;
    range = kept.range;
  }

pub charged-le-total : {S : Type 0} (m : HashMap ℕ ℕ S) (uid reserve total : ℕ) → IsKept reserve m.entries total → unwrap_or (get nat_eq m uid) 0 ≤ total
charged-le-total m uid reserve total kept = omega (arith, kept.sum, lookup-le-sum (nat_eq uid) m.entries)

module _ {S : Type 0} (m n : HashMap ℕ ℕ S) (uid reserve old new pages : ℕ) (kept : IsKept reserve m.entries old) where
  -- a user has so many pages more
  pub IsKept-charge : (v : ℕ) (was : Option ℕ) → new ≡ old + pages → new ≤ reserve → v ≡ unwrap_or (get nat_eq m uid) 0 + pages → 0 < v → was ≡ get nat_eq m uid → PutsEntry nat_eq m n uid v was → ((q : ℕ) → get nat_eq n q ≡ cond (nat_eq uid q) (Some v) (get nat_eq m q)) → IsKept reserve n.entries new
  IsKept-charge v was total within more some had puts updates =
      let moved = sum_by_puts_entry (λ (x : ℕ). x) nat_eq m n uid v was had puts in
      let found : unwrap_or was 0 ≡ unwrap_or (get nat_eq m uid) 0 = ap (λ o. unwrap_or o 0) had in
      let same = ap (λ (o : Option ℕ). unwrap_or o 0) (option_map_id was) in
      IsKept-update m n uid (Some v) updates reserve old new
      (λ e. let none : v ≡ 0 = ap (λ (o : Option ℕ). unwrap_or o 0) e in omega (arith, none, some))
      (omega (arith, kept.sum, moved, same, found, more, total))
      within kept

  -- a user goes with all its pages
  pub IsKept-gone : new + pages ≡ old → unwrap_or (get nat_eq m uid) 0 ≡ pages → IsPermutation (remove_entry (nat_eq uid) m.entries) n.entries → ((q : ℕ) → get nat_eq n q ≡ cond (nat_eq uid q) None (get nat_eq m q)) → IsKept reserve n.entries new
  IsKept-gone total all entries updates =
      let left = sum_by_values_permutation (λ (x : ℕ). x) _ _ entries in
      let moved = sum_by-remove_entry (λ (x : ℕ). x) (nat_eq uid) m.entries in
      let same = ap (λ (o : Option ℕ). unwrap_or o 0) (option_map_id (get nat_eq m uid)) in
      IsKept-update m n uid None updates reserve old new (λ e. absurd (cc))
      (omega (arith, kept.sum, left, moved, same, all, total))
      (omega (arith, kept.within, total)) kept

-- a user has so many pages less, and some left: what it has is written through what the map lent
pub IsKept-refund : {S : Type 0} (m : HashMap ℕ ℕ S) (lender : ℕ → HashMap ℕ ℕ S) (uid reserve old new pages had left : ℕ) → IsKept reserve m.entries old → ((w : ℕ) → WritesThrough nat_eq (nat_eq uid) m w (lender w)) → get nat_eq m uid ≡ Some had → new + pages ≡ old → left + pages ≡ had → 0 < left → IsKept reserve (lender left).entries new
IsKept-refund m lender uid reserve old new pages had left kept holds found total less some =
    let writes = holds left in
    let moved = sum_by-set_value (λ (x : ℕ). x) (nat_eq uid) m.entries had left found in
    let same : sum (values (lender left)) ≡ sum (values_of (set_value (nat_eq uid) m.entries left)) = ap (λ es. sum (values_of es)) writes.0 in
    IsKept-update m (lender left) uid (Some left) (writes.3 (ap is_some found)).0 reserve old new
    (λ e. let none : left ≡ 0 = ap (λ (o : Option ℕ). unwrap_or o 0) e in omega (arith, none, some))
    (omega (arith, kept.sum, moved, same, less, total))
    (omega (arith, kept.within, total)) kept
