-- What a script says whose first lines were judged, whatever follows them.

use Rattle.std.specs.Prelude.{ℕ, ◌≡◌, List, [], ◌∷◌, ◌++◌, Option, Some, None, Result, Err}
use Rattle.pf_script.specs.declared.refusal.Refusal.{Refusal}
use Rattle.pf_script.specs.declared.judge.Judge.{Judge}
use Rattle.pf_script.specs.Script.{Draft, lines_from}
use Rattle.pf_words.specs.Words.{pieces_of}

-- the first fault, or what the lines from number k on say
abbrev pub told_by : Option Refusal → Draft → ℕ → List ℕ → Result Draft Refusal
told_by (Some refusal) script k bytes = Err refusal
told_by None script k bytes = lines_from script k (pieces_of 10 bytes)

-- what a script says that goes on with these bytes
abbrev pub told : Judge → List ℕ → Result Draft Refusal
told j bytes = told_by j.refusal j.script j.number bytes

-- lines were judged and this is left of the bytes that were to be: the script says the same, whatever follows
pub record Judges (old : Judge) (bytes : List ℕ) (new : Judge) (left : List ℕ) : Type 0 where
  pub same : (more : List ℕ) → told new (left ++ more) ≡ told old (bytes ++ more)

-- no line feed
abbrev pub IsOneLine : List ℕ → Type 0
IsOneLine bytes = ◌≡◌ {A = List (List ℕ)} (pieces_of 10 bytes) (bytes ∷ [])
