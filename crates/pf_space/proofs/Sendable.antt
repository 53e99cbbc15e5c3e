-- A namespace may be sent to another thread where its files' memory may.
use denote.RattleType.{RattleType}
use denote.Param.Send.{IsSend, Frees, sendable, view_send}
use denote.Param.SendFields.{as_row_send, declared_send}
use Rattle.std.proofs.Crossing.{crosses}
use Rattle.std.specs.declared.alloc.Allocator as Allocator
use Rattle.pf_tables.proofs.Sendable.{tables_send}
use Rattle.pf_tables.specs.contracts.tables.Tables as Tables
use Rattle.pf_space.specs.contracts.placed.Placed as Placed
use Rattle.pf_space.specs.contracts.space.Space as Space
use Rattle.pf_space.specs.contracts.space.Space.TheInside as in_space

module _ (A : RattleType) (g : Allocator.Ghosts A.Denot) (s : IsSend A) (f : Frees g g.dealloc_token) where
  in_space_send : IsSend (in_space.the_row A g)
  in_space_send =
      declared_send (in_space.the_type A g) (
        search (sendable, crosses) depth 20,
        (as_row_send (Tables.the_field A g) (tables_send A g s f), tt),
      )

  pub space_send : IsSend (Space.the_row A g)
  space_send = view_send (in_space.the_row A g) _ _ _ _ in_space_send

  pub placed_send : IsSend (Placed.the_row A g)
  placed_send =
      let space = as_row_send (Space.the_field A g) space_send in
      declared_send (Placed.the_type A g) (space, (search (sendable, s) depth 20, tt))
