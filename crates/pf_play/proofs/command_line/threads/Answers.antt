-- The option is the one that the definitions name.
use Rattle.std.proofs.Common.{rules}
use Rattle.pf_play.proofs.command_line.threads.Goals as goal

pub returns-clause-rule : goal.returns-clause-rule
returns-clause-rule c = search rules steps 2000000
