-- Searches that end soon where there is no proof.
use Rattle.std.proofs.Common.{rules}
use Rattle.pf_tables.proofs.tables.pipes.resize.Goals as goal

pub returns : goal.returns
returns c = search rules steps 200000

pub refund-requires-then-is_err : goal.refund-requires-then-is_err
refund-requires-then-is_err c = search rules steps 1000000

pub returns-then-is_err : goal.returns-then-is_err
returns-then-is_err c = search rules steps 1000000
