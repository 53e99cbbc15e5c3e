-- Where the files of a script's names stand.

use Rattle.std.specs.Prelude.{ℕ, ◌≡◌, ◌<◌, List, length, slice_get, Option, Some, None}
use Rattle.pf_base.specs.declared.admission.EventAnswer.{EventAnswer}
use Rattle.pf_hub.specs.Tenants.{Housed}
use Rattle.pf_machine.specs.Houses.{House}
use Rattle.pf_machine.specs.Numbered.{at}
use Rattle.pf_play.specs.Answered.{Holds}
use Rattle.pf_play.specs.Houses.{Fall, alone, events_of, first_house}
use Rattle.pf_play.specs.Numbers.{IsNamed}
use Rattle.pf_play.specs.declared.answered.Answered.{Answered}
use Rattle.pf_script.specs.Script.{Draft}

-- Each name has the allocator at its place among these: in its memory stand the files of the namespace that has the
-- name's number, from the start or since its admission, for as long as it lives
pub record AreTheirs {Z : Type 0} (trees : List Z) (numbers : List (Option ℕ)) (hub : Housed Z) : Type 0 where
  pub many : length hub.allocators ≡ length hub.world.tenants
  pub known : (place n : ℕ) → at numbers place ≡ Some n → n < length hub.allocators
  pub theirs : (place n : ℕ) (tree : Z) → at numbers place ≡ Some n → at hub.allocators n ≡ Some tree →
      slice_get trees place ≡ Some tree

-- what is run of a script: all of it, or what is left of it where one name is run alone
abbrev pub part_of : Draft → Option ℕ → Draft
part_of script None = script
part_of script (Some n) = alone script n

-- a hub with this house has told these answers: they lead there from the house at the start
abbrev pub HasTold : Draft → Option ℕ → Answered → List (Option ℕ) → House → Type 0
HasTold script only answered numbers hub =
    (answers : List EventAnswer) × Holds script answered only answers × (house : House)
    × Fall (first_house (part_of script only)) (events_of (part_of script only)) answers house × IsNamed numbers hub house
