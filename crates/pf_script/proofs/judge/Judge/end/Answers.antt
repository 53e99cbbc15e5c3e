use Rattle.pf_script.proofs.Lines.{fails_at_end, ends}
use Rattle.pf_script.proofs.judge.Judge.end.Goals as goal

pub returns-in-Err : goal.returns-in-Err
returns-in-Err c = rw (c.at.ensures, c.in_default.is) (fails_at_end _ _ _ _ c.requires c.in-Err.ensures.moves)

pub returns : goal.returns
returns c = rw c.in_default.is (ends _ _ _ c.requires c.in_default-rest.ensures.moves)
