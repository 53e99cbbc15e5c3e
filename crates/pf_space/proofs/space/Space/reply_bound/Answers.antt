-- It is no step. The last arm stands for all kinds that hand out nothing, and the numbers are of the tables inside.

use Rattle.std.proofs.Common.{arith}
use Rattle.pf_tables.proofs.Bounds as lemmas
use Rattle.pf_space.proofs.space.Space.reply_bound.Goals as goal

pub returns-in-List-clause-covers : goal.returns-in-List-clause-covers
returns-in-List-clause-covers g c =
    rw (c.in-List.is, ← c.self.view_is) (c.list_bound.ensures.covers c.in-List.pid c.in-List.path)

pub returns-in_default : goal.returns-in_default
returns-in_default g c = record {
  covers =
      lemmas.others c.args.self.now c.args.step.now c.in_default.not-Read c.in_default.not-List c.in_default.not-Resume;
  most = omega arith;
}
