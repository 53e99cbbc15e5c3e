-- A tree may be sent to another thread where its memory may.
use denote.RattleType.{RattleType}
use denote.Builtin.{u8}
use denote.Param.Send.{IsSend, Frees, sendable, view_send}
use denote.Param.SendFields.{as_row_send, declared_send}
use Rattle.std.proofs.boxed.Box.TheSendSync as box
use Rattle.std.proofs.vec.Vec.TheSendSync as vec
use Rattle.std.specs.contracts.boxed.Box as Box
use Rattle.std.specs.contracts.vec.Vec as Vec
use Rattle.std.specs.declared.alloc.Allocator as Allocator
use Rattle.pf_tree.proofs.node.Node.TheLaws.TheKnot as knot
use Rattle.pf_tree.specs.contracts.node.Node as Node
use Rattle.pf_tree.specs.contracts.tree.Tree as Tree
use Rattle.pf_tree.specs.contracts.tree.Tree.TheInside as inside

-- A node holds itself, so it needs what it holds to send whatever stands in the place of a node.

module _ (A : RattleType) (g : Allocator.Ghosts A.Denot) (s : IsSend A) (f : Frees g g.dealloc_token) where
  bytes_send : IsSend (Vec.the_row u8 A g)
  bytes_send = vec.the_send u8 A g (search sendable) s f

  pub node_send : IsSend (Node.the_row A g)
  node_send = knot.send-Node A g (search sendable) (search sendable) (search sendable) (λ h k. vec.the_send (Box.the_row h A g) A g (box.the_send h A g k s f) s f) (as_row_send (Vec.the_field u8 A g) bytes_send)

  inside_send : IsSend (inside.the_row A g)
  inside_send = declared_send (inside.the_type A g) (as_row_send (Node.the_field A g) node_send, (search sendable, tt))

  pub tree_send : IsSend (Tree.the_row A g)
  tree_send = view_send (inside.the_row A g) _ _ _ _ inside_send
