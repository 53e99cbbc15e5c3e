-- What is asked of the blank of each of a shared depot's two ledgers, by who opens the depot and by who hands it on.

use Rattle.std.specs.Prelude.{◌≡◌, ℕ, ◌≤◌}
use Rattle.std.specs.declared.sync.ledger.Blank.{Blank}
use Rattle.pf_base.specs.declared.TheConstants.{MAX_NAMESPACES}

-- the blank of a ledger of this name, cut into so many parts: one at least for each namespace that there may be
abbrev pub IsBlankOf : ℕ → ℕ → Blank → Type 0
IsBlankOf name parts blank = (blank.name ≡ name) × (blank.parts ≡ parts) × (MAX_NAMESPACES ≤ blank.parts)
