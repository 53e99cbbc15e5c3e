use Rattle.pf_machine.proofs.FileLimitLaws.{rmdir-within}
use Rattle.pf_tables.proofs.FileTree.{within}
use Rattle.pf_tables.proofs.file_tree.FileTree.rmdir.Goals as goal

pub invariant_of-self : goal.invariant_of-self
invariant_of-self g c =
    within _ _ _ _ c.self.invariant c.rmdir.ensures.changed
    (rmdir-within _ c.args.cred.now c.args.path.now c.self.invariant)
