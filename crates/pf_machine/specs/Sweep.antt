-- What goes when nobody can reach it any more: an open file description lives while some descriptor of some process,
-- or a parked open, names it (close(2)), a pipe while some description is an end of it; its bytes go with it (pipe(7)).

use Rattle.std.specs.Prelude.{ℕ, List, Option, nat_lt}
use Rattle.pf_machine.specs.Numbered.{keep}
use Rattle.pf_machine.specs.State.{State, Process, Description, Pipe}
use Rattle.pf_machine.specs.Counts.{names, ends}

module _ {N : Type 0} (number : N → ℕ) where
  -- the descriptions that something names
  abbrev pub live_descriptions :
      List (Option (Process N)) → List (Option (Description N)) → List (Option (Description N))
  live_descriptions ps ds = keep (λ n. nat_lt 0 (names number ps n)) ds

  -- the pipes that some description is an end of
  abbrev pub live_pipes :
      {X : Type 0} → List (Option (Description N)) → List (Option (Pipe X)) → List (Option (Pipe X))
  live_pipes ds pipes = keep (λ p. nat_lt 0 (ends number ds p)) pipes

  -- descriptions that nothing names go, then pipes that no description is an end of
  abbrev pub sweep : {X : Type 0} → State X N → State X N
  sweep s = record s {
    descriptions = live_descriptions s.processes s.descriptions;
    pipes = live_pipes (live_descriptions s.processes s.descriptions) s.pipes;
  }
