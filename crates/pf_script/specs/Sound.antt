-- What each script that was built so far has: so a hub opens for it, and its lines can be run, unless memory is wanted.

use Rattle.std.specs.Prelude.{ℕ, ◌+◌, ◌≡◌, ◌≤◌, ◌<◌, List, [], ◌∷◌, length, map, take, nat_le, slice_get, Option, Some}
use Rattle.std.specs.List.{position_from}
use Rattle.pf_base.specs.declared.TheConstants.{MAX_FRAMES, MAX_NAMESPACES}
use Rattle.pf_script.specs.declared.line.Line.{Line}
use Rattle.pf_script.specs.declared.line.Line.TheVariants as lines
use Rattle.pf_base.specs.Limits.{Limits}
use Rattle.pf_script.specs.Script.{Draft, place_of, reserved}

-- the place of the first line whose namespace's number is not below this one
abbrev pub first_stray : ℕ → List (ℕ × Line) → Option ℕ
first_stray number steps = position_from (λ e. nat_le number e.0) 0 steps

-- no two namespaces have one name: each is found at its own place
abbrev pub AreDistinct : List (List ℕ × Limits) → Type 0
AreDistinct spaces =
    (n : ℕ) (name : List ℕ) → ◌≡◌ {A = Option (List ℕ)} (slice_get (map (λ s. s.0) spaces) n) (Some name) →
    ◌≡◌ {A = Option ℕ} (place_of name spaces) (Some n)

-- how many names are given behind a line, where n were given before it: an admit line gives one
abbrev pub given : ℕ → Line → ℕ
given n (lines.Step step) = n
given n lines.Admit = n + 1
given n lines.Retire = n

-- a line's number is that of a name given before it; an admit line's is the next one
abbrev pub IsGiven : ℕ → Line → ℕ → Type 0
IsGiven n (lines.Step step) number = number < n
IsGiven n lines.Admit number = number ≡ n
IsGiven n lines.Retire number = number < n

-- n names are given before these lines and m behind them, each by one admit line; each line speaks of one that is given
abbrev pub AreGiven : ℕ → List (ℕ × Line) → ℕ → Type 0
AreGiven n [] m = n ≡ m
AreGiven n (e ∷ es) m = IsGiven n e.1 e.0 × AreGiven (given n e.1) es m

-- few namespaces of different names, a pool of few frames, no more reserved from the start than there is. The names are
-- those that there are from the start, and behind them one for each admit line, in the lines' order; no line speaks of
-- a name that isn't given yet
pub record IsSound (script : Draft) : Type 0 where
  pub few : length script.spaces ≤ MAX_NAMESPACES
  pub distinct : AreDistinct script.spaces
  pub small : script.frames ≤ MAX_FRAMES
  pub fits : reserved (take script.opening script.spaces) ≤ script.frames
  pub known : AreGiven script.opening script.steps (length script.spaces)
