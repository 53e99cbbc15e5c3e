-- What a contract sees of the counters of a namespace's users.

use Rattle.std.specs.Prelude.{◌≡◌, ◌≢◌, ℕ, ◌+◌, ◌≤◌, List, Some, nat_eq, sum, unwrap_or, if◌then◌else◌}
use Rattle.std.specs.List.{IsDistinct}
use Rattle.std.specs.Map.{lookup, keys_of, values_of}
use Rattle.pf_base.specs.Limits.{Limits}
use Rattle.pf_base.specs.declared.TheConstants.{MAX_RESERVE}

-- the namespace's limits, the users with the pages that each is charged with, and the pages of all
pub record UserPages : Type 0 where
  pub limits : Limits
  pub users : List (ℕ × ℕ)
  pub total : ℕ

-- the pages that a user is charged with: 0 for one that isn't there
abbrev pub charged_to : UserPages → ℕ → ℕ
charged_to p uid = unwrap_or (lookup (nat_eq uid) p.users) 0

-- one user has so many pages more, and so have all together; nothing else is changed
pub record Charges (old new : UserPages) (uid pages : ℕ) : Type 0 where
  pub users : (u : ℕ) → charged_to new u ≡ charged_to old u + (if nat_eq uid u then pages else 0)
  pub total : new.total ≡ old.total + pages
  pub limits : new.limits ≡ old.limits

-- each user is there once, with a page at least
pub record IsEach (users : List (ℕ × ℕ)) : Type 0 where
  pub once : IsDistinct nat_eq (keys_of users)
  pub some : (u : ℕ) → lookup (nat_eq u) users ≢ Some 0

-- each user that is there has a page at least, and the pages of all are their sum, within a reservation that is in its
-- range
pub record IsKept (reserve : ℕ) (users : List (ℕ × ℕ)) (total : ℕ) : Type 0 where
  pub some : (u : ℕ) → lookup (nat_eq u) users ≢ Some 0
  pub sum : total ≡ sum (values_of users)
  pub within : total ≤ reserve
  pub range : reserve ≤ MAX_RESERVE
