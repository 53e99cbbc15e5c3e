use Rattle.std.proofs.Common.{◌≡◌, ◌≤◌, ◌++◌, length, nat_eq}
use Rattle.std.specs.Prelude.{filter, vec_capacity}
use Rattle.std.specs.List.{slice_split}
use Rattle.pf_machine.specs.Paths.{components, is_component}
use Rattle.pf_tree.specs.Subtrees.{path_of}
use Rattle.pf_walk.specs.Room.{room_for_names}
use Rattle.pf_walk.proofs.words.components.Given as goal

abbrev pub invariant-loop-after : goal.invariant-loop-after
invariant-loop-after l =
    (path_of l.names.items ++ filter is_component (slice_split (λ b. nat_eq b 47) l.rest) ≡ components l.path)
    × ((length (components l.path) ≤ vec_capacity l.names) × (vec_capacity l.names ≡ room_for_names l.path))

abbrev pub decreases-loop-after : goal.decreases-loop-after
decreases-loop-after l = length l.rest
