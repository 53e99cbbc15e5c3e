-- Who is woken waits in no call.
use Rattle.std.proofs.Common.{rules, sym, ap, ◌∙◌, is_some, List, Option}
use Rattle.pf_tables.proofs.Common.{Key}
use Rattle.pf_tables.proofs.ProcessTable.{quiet, replaced, still_watched}
use Rattle.pf_tables.proofs.process_table.ProcessTable.wake.Goals as goal
use Rattle.pf_tables.proofs.process_table.ProcessTable.wake.Goals.{in-Open, in_default}

pub invariant_of-self : goal.invariant_of-self
invariant_of-self c =
    still_watched _ _ c.self.invariant _ c.value_mut-process.result.now _ c.value_mut-process.ensures.value
    (quiet c.value_mut-process.result.now _ _ c.take.ensures.after)
    (c.take.ensures.after ∙ sym (sym c.take.ensures.value ∙ c.in_err-call.was))

pub invariant_of-self-2 : goal.invariant_of-self-2
invariant_of-self-2 c =
    let p = c.value_mut-process.result.now in
    let woken = λ (ks : List (Option Key)). replaced _ _ c.self.invariant _ _ p
    (record p { descriptors = ks; parked = c.take.new.self }) c.value_mut-process.ensures.value
    (quiet p ks _ c.take.ensures.after)
    (c.unmark.ensures.unmarked ∙ sym (ap is_some c.take.ensures.after)) c.unmark.ensures.others in
    elim c.match-call.branch [
      | in-Open w ↦ rw w.self-inside-is (woken _)
      | in_default w ↦ rw w.self-inside-is (woken _)
    ]

pub returns-in_err-call-clause-call : goal.returns-in_err-call-clause-call
returns-in_err-call-clause-call c = search rules steps 200000

pub returns-in_err-call-clause-rows : goal.returns-in_err-call-clause-rows
returns-in_err-call-clause-rows c = search rules steps 200000

pub returns-in_err-call-clause-spare : goal.returns-in_err-call-clause-spare
returns-in_err-call-clause-spare g c = search rules steps 1000000

pub returns-clause-rows : goal.returns-clause-rows
returns-clause-rows c = search rules steps 200000

pub returns-clause-call : goal.returns-clause-call
returns-clause-call c = search rules steps 1000000
