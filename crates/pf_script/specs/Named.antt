-- A script's namespaces as a map keeps them: limits by name, in the order of their lines.

use Rattle.std.specs.Prelude.{ℕ, List, map}
use Rattle.std.specs.declared.vec.Vec.{Vec}
use Rattle.std.specs.declared.alloc.Global.{Global}
use Rattle.pf_base.specs.Limits.{Limits}

-- the pairs of a name and its limits
abbrev pub named : List (Vec ℕ Global × Limits) → List (List ℕ × Limits)
named entries = map (λ e. (e.0.items, e.1)) entries
