-- What the counters count, over pipes or whatever stands for them: each change of the things moves their sums as the charge
-- or the refund moves the counters.

use Rattle.std.proofs.Common.{◌≡◌, ℕ, ◌+◌, ◌≤◌, Bool, true, false, List, [], ◌∷◌, ◌++◌, map, set, Option, Some, None, nat_eq, refl, arith, if◌then◌else◌}
use Rattle.std.specs.Option.{option_map}
use Rattle.pf_machine.specs.Numbered.{at}
use Rattle.pf_machine.proofs.NumberedLaws.{sum_of-map}
use Rattle.pf_machine.proofs.ChargeLaws.{share, charged_in, total_in, capacity-le-charged, charged-push, total-push, charged-clear, total-clear, charged-grown, total-grown, charged-shrunk, total-shrunk}
use Rattle.pf_limits.specs.Sums.{AreSumsOf}
use Rattle.pf_limits.specs.UserPages.{UserPages, charged_to, Charges}

if_none : (b : Bool) → ◌≡◌ {A = ℕ} (if b then 0 else 0) 0
if_none true = refl
if_none false = refl

-- the sums over what things mean are the sums over the things, by what they mean
pub shown : {X Y : Type 0} (f : X → Y) (owner capacity : Y → ℕ) (p : UserPages) (xs : List (Option X)) → AreSumsOf (λ x. owner (f x)) (λ x. capacity (f x)) p xs → AreSumsOf owner capacity p (map (option_map f) xs)
shown f owner capacity p xs sums = record {
  users = λ u. omega (arith, sums.users u, sum_of-map f (share owner capacity u) xs);
  total = omega (arith, sums.total, sum_of-map f capacity xs);
}

module _ {X : Type 0} (owner capacity : X → ℕ) where
  -- a thing's pages are among its owner's
  pub covers : (p : UserPages) (xs : List (Option X)) (n : ℕ) (x : X) → AreSumsOf owner capacity p xs → at xs n ≡ Some x → capacity x ≤ charged_to p (owner x)
  covers p xs n x sums stands = omega (arith, sums.users (owner x), capacity-le-charged owner capacity xs n x stands)

  -- what has the same owner and the same capacity is charged alike
  pub kept : (p : UserPages) (xs : List (Option X)) (n : ℕ) (x y : X) → AreSumsOf owner capacity p xs → at xs n ≡ Some x
      → owner y ≡ owner x → capacity y ≡ capacity x → AreSumsOf owner capacity p (set xs n (Some y))
  kept p xs n x y sums stands owned same =
      let more : capacity y ≡ capacity x + 0 = omega (arith, same) in
      record {
        users = λ u. omega (arith, sums.users u, charged-grown owner capacity xs n x stands y 0 owned more u, if_none (nat_eq (owner x) u));
        total = omega (arith, sums.total, total-grown owner capacity xs n x stands y 0 more);
      }

  module _ (old new : UserPages) (xs : List (Option X)) (sums : AreSumsOf owner capacity old xs) where
    moved : (ys : List (Option X)) (uid pages : ℕ) → Charges old new uid pages
        → ((u : ℕ) → charged_in owner capacity ys u ≡ charged_in owner capacity xs u + (if nat_eq uid u then pages else 0))
        → total_in owner capacity ys ≡ total_in owner capacity xs + pages → AreSumsOf owner capacity new ys
    moved ys uid pages charges users total = record {
      users = λ u. omega (arith, charges.users u, users u, sums.users u);
      total = omega (arith, charges.total, total, sums.total);
    }

    moved_back : (ys : List (Option X)) (uid pages : ℕ) → Charges new old uid pages
        → ((u : ℕ) → charged_in owner capacity xs u ≡ charged_in owner capacity ys u + (if nat_eq uid u then pages else 0))
        → total_in owner capacity xs ≡ total_in owner capacity ys + pages → AreSumsOf owner capacity new ys
    moved_back ys uid pages charges users total = record {
      users = λ u. omega (arith, charges.users u, users u, sums.users u);
      total = omega (arith, charges.total, total, sums.total);
    }

    pub made : (x : X) → Charges old new (owner x) (capacity x) → AreSumsOf owner capacity new (xs ++ Some x ∷ [])
    made x charges = moved (xs ++ Some x ∷ []) (owner x) (capacity x) charges (charged-push owner capacity xs x) (total-push owner capacity xs x)

    module _ (n : ℕ) (x : X) (stands : at xs n ≡ Some x) where
      pub gone : Charges new old (owner x) (capacity x) → AreSumsOf owner capacity new (set xs n None)
      gone charges = moved_back (set xs n None) (owner x) (capacity x) charges (charged-clear owner capacity xs n x stands) (total-clear owner capacity xs n x stands)

      pub grown : (y : X) (pages : ℕ) → owner y ≡ owner x → capacity y ≡ capacity x + pages → Charges old new (owner x) pages → AreSumsOf owner capacity new (set xs n (Some y))
      grown y pages owned more charges =
          moved (set xs n (Some y)) (owner x) pages charges (charged-grown owner capacity xs n x stands y pages owned more) (total-grown owner capacity xs n x stands y pages more)

      pub shrunk : (y : X) (pages : ℕ) → owner y ≡ owner x → capacity x ≡ capacity y + pages → Charges new old (owner x) pages → AreSumsOf owner capacity new (set xs n (Some y))
      shrunk y pages owned less charges =
          moved_back (set xs n (Some y)) (owner x) pages charges (charged-shrunk owner capacity xs n x stands y pages owned less) (total-shrunk owner capacity xs n x stands y pages less)
