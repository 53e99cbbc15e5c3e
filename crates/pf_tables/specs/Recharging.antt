-- What a pipe's owner is charged with when its capacity changes.

use Rattle.std.specs.Prelude.{◌≡◌, ℕ, ◌+◌, nat_eq, if◌then◌else◌}
use Rattle.pf_limits.specs.UserPages.{UserPages, charged_to}

-- an owner's pages go from so many to so many, and those of all together with them
pub record Recharges (old new : UserPages) (owner from to : ℕ) : Type 0 where
  pub users : (u : ℕ) → charged_to new u + (if nat_eq owner u then from else 0)
      ≡ charged_to old u + (if nat_eq owner u then to else 0)
  pub total : new.total + from ≡ old.total + to
  pub limits : new.limits ≡ old.limits
