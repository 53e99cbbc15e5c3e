-- The line of each step.

use Rattle.std.specs.Prelude.{ℕ, ◌≡◌, ◌≤◌, ◌<◌, true, List, [], ◌∷◌, ◌++◌, length, Some, Ok}
use Rattle.pf_base.specs.declared.step.Step.{Step}
use Rattle.pf_words.specs.Words.{pieces_of, is_name}
use Rattle.pf_words.specs.Spelling.{joined, spell, HasWords}
use Rattle.pf_script.specs.declared.line.Line.TheVariants as lines
use Rattle.pf_script.specs.Script.{Draft, place_of, line_of}

-- a namespace's name, and a step's verb and words, with spaces between them
abbrev pub step_text : List ℕ → Step → List ℕ
step_text name step = joined 32 (name ∷ spell step)

-- behind a pool line and a space line of this name each step whose fields are in the grammar's ranges has a line that
-- says it, unless it is longer than a line may be
abbrev pub EachStepHasALine : Type 0
EachStepHasALine = (d : Draft) (name : List ℕ) (place : ℕ) (step : Step) →
    0 < d.frames → is_name name ≡ true → place_of name d.spaces ≡ Some place →
    HasWords step → length (step_text name step) ≤ 2200000 →
    (pieces_of 10 (step_text name step) ≡ step_text name step ∷ [])
    × (line_of d (step_text name step) ≡ Ok (record d { steps = d.steps ++ (place, lines.Step step) ∷ [] }))
