-- Each entry's node has fewer files than the directory.
use Rattle.std.specs.Prelude.{◌≡◌, ℕ, ◌≤◌, ◌+◌, max, List, [], ◌∷◌, length}
use Rattle.std.proofs.Common.{refl, arith, length-append}
use Rattle.std.specs.declared.alloc.Allocator.{Ghosts}
use denote.Param.Weighed.{most}
use Rattle.pf_tree.specs.declared.node.Body.{Body}
use Rattle.pf_tree.specs.declared.node.Body.TheVariants.{Fifo, Directory}
use Rattle.pf_tree.specs.declared.node.Node.TheDeep.{deep-Body, deep-Entry}
use Rattle.pf_machine.specs.FileMap.{Files, Name}
use Rattle.pf_tree.specs.Node.{Boxed, below, all_below, files_of_body}

pub length-below : (n : Name) (fs : Files) → length (below n fs) ≡ length fs
length-below n [] = refl
length-below n ((p, f) ∷ rest) = omega (arith, length-below n rest)

module _ {Z : Type 0} (gs : Ghosts Z) where
  pub most_le : (es : List (Boxed Z)) → most (λ (b : Boxed Z). deep-Entry Z gs b.value) es ≤ length (all_below es) + 1
  most_le [] = omega arith
  most_le (e ∷ es) = omega (arith, most_le es, length-append (below e.value.name.items e.value.node) (all_below es), length-below e.value.name.items e.value.node)

  pub falls : (m u g n : ℕ) (b : Body Z) → max (deep-Body Z gs b) 0 ≤ length (files_of_body m u g n b)
  falls m u g n Fifo = omega arith
  falls m u g n (Directory v) = omega (arith, most_le v.items)
