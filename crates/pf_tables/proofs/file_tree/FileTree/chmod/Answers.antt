use Rattle.pf_machine.proofs.FileLimitLaws.{chmod-within}
use Rattle.pf_tables.proofs.FileTree.{within}
use Rattle.pf_tables.proofs.file_tree.FileTree.chmod.Goals as goal

pub invariant_of-self : goal.invariant_of-self
invariant_of-self g c =
    within _ _ _ _ c.self.invariant c.chmod.ensures.changed
    (chmod-within _ c.args.cred.now c.args.path.now c.args.mode c.self.invariant)
