-- Those of the rows live for the machine; and the tables are swept, so where nobody lives nothing is left.
use Rattle.std.proofs.Common.{◌≡◌, sym, ap, ◌∙◌}
use Rattle.pf_tables.proofs.Common.{itself, sweep, Namespace, process_of, sum_of-map}
use Rattle.pf_machine.specs.Processes.{alive}
use Rattle.pf_tables.proofs.ProcessesAlive.{holds_none}
use Rattle.pf_tables.proofs.TablesSettled.{settled}
use Rattle.pf_tables.proofs.tables.Tables.processes.Goals as goal

pub returns-clause-number : goal.returns-clause-number
returns-clause-number g c =
    c.alive.ensures ∙ sym (sum_of-map process_of (λ p. 1) c.self.inside.processes)
    ∙ ap (λ (n : Namespace). alive n.state) c.self.view_is

pub returns-clause-none : goal.returns-clause-none
returns-clause-none g c zero =
    let swept : c.args.self.now.state ≡ sweep itself c.args.self.now.state =
    rw (← c.self.view_is) (settled _ _ c.self.invariant.kept.tied) in
    holds_none c.args.self.now swept (sym (returns-clause-number g c) ∙ zero)
