-- What a script's lines do where its namespaces come and go. A namespace's number is its name's place: those of the
-- space lines are there from the start, and each admit line gives the next place. A name that isn't admitted keeps its
-- place, with nobody in it.

use Rattle.std.specs.Prelude.{ℕ, ◌≡◌, List, [], ◌∷◌, ◌++◌, map, take, slice_get, slice_index_or, nat_lt}
use Rattle.std.specs.Prelude.{Some, None, IfSome, if◌then◌else◌}
use Rattle.std.specs.Option.{option_to_list}
use Rattle.pf_base.specs.Limits.{Limits}
use Rattle.pf_base.specs.declared.admission.EventAnswer.{EventAnswer}
use Rattle.pf_base.specs.declared.admission.EventAnswer.TheVariants as told
use Rattle.pf_machine.specs.Houses.{House, Event, Stepping, Admitting, Retiring, Happens, newcomer, steps_in}
use Rattle.pf_machine.specs.Houses.{answers_in}
use Rattle.pf_script.specs.Places.{lines_of}
use Rattle.pf_script.specs.Script.{Draft}
use Rattle.pf_script.specs.declared.line.Line.{Line}
use Rattle.pf_script.specs.declared.line.Line.TheVariants as lines
use Rattle.pf_play.specs.Played.{IsTold}

-- the limits of a name
abbrev pub limits_of_name : List (List ℕ × Limits) → ℕ → Limits
limits_of_name spaces n =
    slice_index_or (map (λ s. s.1) spaces) n (record { reserve = 0; soft = 0; hard = 0; max = 0 })

-- what a line says, of a name with these limits
abbrev pub said_of : Limits → ℕ → Line → Event
said_of limits n (lines.Step step) = Stepping n step
said_of limits n lines.Admit = Admitting limits
said_of limits n lines.Retire = Retiring n

abbrev pub said : List (List ℕ × Limits) → ℕ × Line → Event
said spaces e = said_of (limits_of_name spaces e.0) e.0 e.1

-- the script's events
abbrev pub events_of : Draft → List Event
events_of script = map (said script.spaces) script.steps

-- a name that isn't admitted keeps a place
abbrev pub keep_place : House → EventAnswer → House
keep_place h (told.NotAdmitted fault) = record h { guests = h.guests ++ None ∷ [] }
keep_place h (told.Admitted n) = h
keep_place h (told.Answer answer) = h
keep_place h told.Gone = h
keep_place h told.Retired = h
keep_place h (told.NotRetired fault) = h

-- an event of a script happens in a house
abbrev pub Falls : House → Event → EventAnswer → House → Type 0
Falls old event answer new = (mid : House) × Happens old event answer mid × (new ≡ keep_place mid answer)

-- and all of a list in turn
abbrev pub Fall : House → List Event → List EventAnswer → House → Type 0
Fall old [] [] new = new ≡ old
Fall old (e ∷ es) (a ∷ answers) new = (mid : House) × Falls old e a mid × Fall mid es answers new
Fall old [] (a ∷ answers) new = ⊥
Fall old (e ∷ es) [] new = ⊥

-- the house at the start: those of the space lines, to whom nothing has happened
abbrev pub first_house : Draft → House
first_house script = record {
  frames = script.frames;
  guests = map (λ limits. Some (newcomer limits)) (map (λ s. s.1) (take script.opening script.spaces));
}

-- Each line has its answer, and what is answered happens in turn. Each namespace is told, from its admission to its
-- retirement, what its lone machine is told on the steps that were answered while it lived
pub record IsHoused (script : Draft) (answers : List EventAnswer) : Type 0 where
  pub end : House
  pub fall : Fall (first_house script) (events_of script) answers end
  pub own : (n : ℕ) → IfSome (slice_get script.spaces n) (λ space.
      IsTold space.1 (steps_in (events_of script) answers) (answers_in (events_of script) answers) n)

-- the script of which one name and its lines are left: the name's place is 0 there
abbrev pub alone : Draft → ℕ → Draft
alone script n = record {
  frames = script.frames;
  opening = if nat_lt n script.opening then 1 else 0;
  spaces = option_to_list (slice_get script.spaces n);
  steps = map (λ line. (0, line)) (lines_of script.steps n);
}

-- the limits of those that its hub opens with
abbrev pub lone_limits : Draft → ℕ → List Limits
lone_limits script n = map (λ s. s.1) (take (alone script n).opening (alone script n).spaces)

-- and of those that the hub of all names opens with
abbrev pub opening_limits : Draft → List Limits
opening_limits script = map (λ s. s.1) (take script.opening script.spaces)
