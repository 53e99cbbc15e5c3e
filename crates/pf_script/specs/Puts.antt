-- A buffer in front of a writer: what the two do together with a text.

use Rattle.std.specs.Prelude.{ℕ, ◌≡◌, Bool, true, false, List, ◌++◌}
use Rattle.std.specs.Io.KnownBytes.{Appends}
use Rattle.pf_script.specs.Ports.{Output, IsWritten, IsCut}

-- what waits in a buffer, and whether a write of it was refused
pub record Queued : Type 0 where
  pub waiting : List ℕ
  pub failed : Bool

-- what was written, and what waits now, are what waited and this text; no write was refused
abbrev pub Passes : Output → List ℕ → Output → List ℕ → List ℕ → Type 0
Passes old waiting new left text =
    (front : List ℕ) × Appends old.contents new.contents front × (front ++ left ≡ waiting ++ text) × (new.refusals ≡ old.refusals)

-- after a write that was refused nothing happens; before it, a text is passed on, or a write of it is refused
abbrev pub PutsBy : Bool → Bool → Output → List ℕ → Output → List ℕ → List ℕ → Type 0
PutsBy true true old waiting new left text = new ≡ old
PutsBy true false old waiting new left text = ⊥
PutsBy false true old waiting new left text = IsCut old new (waiting ++ text)
PutsBy false false old waiting new left text = Passes old waiting new left text

-- the writer and the buffer have taken a text on
pub record Puts (old : Output) (p : Queued) (new : Output) (q : Queued) (text : List ℕ) : Type 0 where
  pub by : PutsBy p.failed q.failed old p.waiting new q.waiting text

-- what waited was written, and no write was refused before
abbrev pub EndsBy : Bool → Output → List ℕ → Output → Type 0
EndsBy true old waiting new = ⊥
EndsBy false old waiting new = IsWritten old new waiting

-- a write was refused before, or now a write of what waited
abbrev pub FailsBy : Bool → Output → List ℕ → Output → Type 0
FailsBy true old waiting new = new ≡ old
FailsBy false old waiting new = IsCut old new waiting
