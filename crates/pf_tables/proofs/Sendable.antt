-- What a namespace keeps may be sent to another thread where its files' memory may.
use denote.RattleType.{RattleType}
use denote.Param.Send.{IsSend, Frees, sendable, view_send}
use denote.Param.SendFields.{as_row_send, declared_send}
use Rattle.std.proofs.Crossing.{crosses}
use Rattle.std.proofs.MapsCrossing as maps
use Rattle.std.specs.declared.alloc.Allocator as Allocator
use Rattle.pf_fds.proofs.descriptions.Descriptions.TheSendSync as of_descriptions
use Rattle.pf_fds.proofs.registry.Registry.TheSendSync as registry
use Rattle.pf_fds.specs.contracts.descriptions.Descriptions as Descriptions
use Rattle.pf_fds.specs.contracts.registry.Registry as Registry
use Rattle.pf_limits.proofs.user_pages.UserPages.TheSendSync as user_pages
use Rattle.pf_limits.specs.contracts.user_pages.UserPages as UserPages
use Rattle.pf_pipe.proofs.pipe.Pipe.TheSendSync as pipe
use Rattle.pf_pipe.specs.contracts.pipe.Pipe as Pipe
use Rattle.pf_tree.proofs.Sendable as tree
use Rattle.pf_tree.specs.contracts.tree.Tree as Tree
use Rattle.pf_tables.proofs.process_table.ProcessTable.TheSendSync as process_table
use Rattle.pf_tables.specs.contracts.file_tree.FileTree as FileTree
use Rattle.pf_tables.specs.contracts.file_tree.FileTree.TheInside as in_file_tree
use Rattle.pf_tables.specs.contracts.process_table.ProcessTable as ProcessTable
use Rattle.pf_tables.specs.contracts.tables.Description as Description
use Rattle.pf_tables.specs.contracts.tables.Tables as Tables
use Rattle.pf_tables.specs.contracts.tables.Tables.TheInside as in_tables

description_send : IsSend Description.the_row
description_send = search sendable depth 20

module _ (A : RattleType) (g : Allocator.Ghosts A.Denot) (s : IsSend A) (f : Frees g g.dealloc_token) where
  in_file_tree_send : IsSend (in_file_tree.the_row A g)
  in_file_tree_send =
      declared_send (in_file_tree.the_type A g) (as_row_send (Tree.the_field A g) (tree.tree_send A g s f), tt)

  file_tree_send : IsSend (FileTree.the_row A g)
  file_tree_send = view_send (in_file_tree.the_row A g) _ _ _ _ in_file_tree_send

  in_tables_send : IsSend (in_tables.the_row A g)
  in_tables_send =
      let pages = as_row_send UserPages.the_field user_pages.the_send in
      let processes = as_row_send ProcessTable.the_field process_table.the_send in
      let descriptions =
      as_row_send (Descriptions.the_field Description.the_row)
      (of_descriptions.the_send Description.the_row description_send) in
      let pipes = as_row_send (Registry.the_field Pipe.the_row) (registry.the_send Pipe.the_row pipe.the_send) in
      let files = as_row_send (FileTree.the_field A g) file_tree_send in
      declared_send (in_tables.the_type A g) (
        pages,
        (
          processes,
          (
            descriptions,
            (
              pipes,
              (
                search (sendable, as_row_send, crosses, maps.crosses) depth 40,
                (files, (search sendable, tt)),
              ),
            ),
          ),
        ),
      )

  pub tables_send : IsSend (Tables.the_row A g)
  tables_send = view_send (in_tables.the_row A g) _ _ _ _ in_tables_send
