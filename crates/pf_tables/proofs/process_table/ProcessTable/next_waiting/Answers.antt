use Rattle.std.proofs.Common.{arith, sym, ◌∙◌}
use Rattle.pf_tables.proofs.process_table.ProcessTable.next_waiting.Goals as goal

pub returns-clause-stands : goal.returns-clause-stands
returns-clause-stands c within =
    rw (← c.self.view_is) (sym (c.self.invariant.marked c.next.result within) ∙ c.next.ensures.marked within)

pub returns-clause-between : goal.returns-clause-between
returns-clause-between c i above below =
    rw (← c.self.view_is)
    (sym (c.self.invariant.marked i (omega (arith, c.next.ensures.within))) ∙ c.next.ensures.between i above below)
