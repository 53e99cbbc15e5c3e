-- Counted afresh over a state. An open that waits names its description as a descriptor would: so the description
-- lives, counts as an end, and keeps its pipe.

use Rattle.std.specs.Prelude.{ℕ, List, Option, ◌∷◌, ◌&&◌, nat_eq, if◌then◌else◌}
use Rattle.pf_machine.specs.Numbered.{sum_of, one_if}
use Rattle.pf_machine.specs.Calls.{made_by}
use Rattle.pf_machine.specs.State.{State, Process, Description}

-- how many names in a list are those of a description
abbrev pub named_in : {N : Type 0} → (N → ℕ) → ℕ → List (Option N) → ℕ
named_in number n names = sum_of (λ m. one_if (nat_eq (number m) n)) names

-- all names that a process has: that of its parked open, and those of its descriptors
abbrev pub names_of : {N : Type 0} → Process N → List (Option N)
names_of p = made_by p.parked ∷ p.descriptors

-- how many names of all processes are those of a description
abbrev pub names : {N : Type 0} → (N → ℕ) → List (Option (Process N)) → ℕ → ℕ
names number ps n = sum_of (λ p. named_in number n (names_of p)) ps

-- how many descriptions are an end of a pipe
abbrev pub ends : {N : Type 0} → (N → ℕ) → List (Option (Description N)) → ℕ → ℕ
ends number ds p = sum_of (λ d. one_if (nat_eq (number d.pipe) p)) ds

module _ {X N : Type 0} where
  -- how many of them read it
  abbrev pub readers : (N → ℕ) → State X N → ℕ → ℕ
  readers number s p = sum_of (λ d. one_if (nat_eq (number d.pipe) p && d.reads)) s.descriptions

  -- how many of them write it
  abbrev pub writers : (N → ℕ) → State X N → ℕ → ℕ
  writers number s p = sum_of (λ d. one_if (nat_eq (number d.pipe) p && d.writes)) s.descriptions

-- the pages that the pipes of a user are charged with
abbrev pub charged : {X N : Type 0} → State X N → ℕ → ℕ
charged s uid = sum_of (λ p. if nat_eq p.owner uid then p.queue.capacity else 0) s.pipes

-- the pages that all pipes are charged with
abbrev pub total : {X N : Type 0} → State X N → ℕ
total s = sum_of (λ p. p.queue.capacity) s.pipes
