use Rattle.std.proofs.Common.{rules}
use Rattle.pf_tree.proofs.order.word.Goals as goal

pub returns-clause-bytes : goal.returns-clause-bytes
returns-clause-bytes c = λ k. (c.type_inv.name k).fits

pub returns-clause-value : goal.returns-clause-value
returns-clause-value c = search rules steps 500000
