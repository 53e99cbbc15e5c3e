use Rattle.std.proofs.Common.{◌-◌, refl, sym, ap, ◌∙◌, rules}
use Rattle.pf_space.proofs.Common.{Namespace}
use Rattle.pf_machine.proofs.NaturalCalls.{exit-call}
use Rattle.pf_machine.specs.State.{itself}
use Rattle.pf_base.specs.declared.step.Step.TheVariants.{Exit}
use Rattle.pf_tables.specs.Tables.{descriptor}
use Rattle.pf_space.proofs.Books.{booked_not}
use Rattle.pf_space.proofs.Closes as lemmas
use Rattle.pf_space.proofs.space.Space.exit.Goals as goal

pub loop-fd-init : goal.loop-fd-init
loop-fd-init g c = record {
  door = record { fact = c.requires.door.fact; rest = refl };
  exits =
      lemmas.begun (rw c.self.view_is at c.in_ok-begin_exit.ensures.begins) c.requires.door.owns _
      c.next_descriptor-fd.ensures.between;
}

pub loop-fd-preserved-then-empty : goal.loop-fd-preserved-then-empty
loop-fd-preserved-then-empty g c = record {
  door = record { fact = c.empty.ensures.door.fact; rest = c.empty.ensures.door.rest ∙ c.loop-fd.invariant.door.rest };
  exits = lemmas.one_more c.loop-fd.invariant.exits c.empty.ensures.emptied;
}

-- where there was none, the next one is looked for
pub loop-fd-preserved : goal.loop-fd-preserved
loop-fd-preserved g c = record {
  door = record { fact = c.empty.ensures.door.fact; rest = c.empty.ensures.door.rest ∙ c.loop-fd.invariant.door.rest };
  exits =
      lemmas.one_more_next c.loop-fd.invariant.exits c.empty.ensures.emptied _
      (λ d from before. ap (λ (n : Namespace). descriptor n.state (c.args.pid - 1) d) (sym c.self-in-loop-fd.view_is)
      ∙ c.next_descriptor-fd-else-empty.ensures.between d from before);
}

pub end_exit-requires-clause-bare : goal.end_exit-requires-clause-bare
end_exit-requires-clause-bare g c =
    rw c.self-2.view_is (lemmas.all_bare c.loop-fd.invariant.exits c.loop-fd-test.false)

pub returns-in_err-begin_exit-clause-told : goal.returns-in_err-begin_exit-clause-told
returns-in_err-begin_exit-clause-told g c =
    let refused =
    booked_not c.self.view_is c.requires.door.owns (Exit c.args.pid)
    (λ shows. exit-call shows itself c.self.inside.tables.limits c.self.inside.tables.state c.args.pid)
    c.in_err-begin_exit.ensures.begins c.in_err-begin_exit.ensures.refused in
    search rules

pub returns-clause-told : goal.returns-clause-told
returns-clause-told g c =
    lemmas.exited c.loop-fd.invariant.exits (rw c.self.view_is at c.in_ok-begin_exit.ensures.begins)
    (rw c.self-2.view_is at c.end_exit.ensures)
