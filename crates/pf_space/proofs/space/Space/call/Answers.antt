-- Tee and Splice are one method with a word for which of the two it is: its clause becomes that of the step once the
-- kind is known. What the tables do at their own state is told by one lemma, for all kinds that are theirs.

use Rattle.std.proofs.Common.{rules, sym, ◌∙◌}
use Rattle.std.proofs.lemmas.Bool.{false≢true}
use Rattle.pf_base.specs.declared.progress.Crossing.TheVariants as crossings
use Rattle.pf_tables.specs.Calls.{IsBooked}
use Rattle.pf_space.proofs.Books.{booked_step}
use Rattle.pf_space.proofs.ParkedTransfers.{crossed_first}
use Rattle.pf_space.proofs.Wants.{wants}
use Rattle.pf_space.proofs.space.Space.call.Goals as goal

pub returns-in-Tee-clause-told : goal.returns-in-Tee-clause-told
returns-in-Tee-clause-told g c =
    rw c.in-Tee.is (crossed_first _ _ _ _ _ c.in-Tee.pid c.in-Tee.nonblock crossings.Tee c.in-Tee.source c.in-Tee.sink
    c.in-Tee.n c.cross.ensures.told)

pub returns-in-Splice-clause-told : goal.returns-in-Splice-clause-told
returns-in-Splice-clause-told g c =
    rw c.in-Splice.is (crossed_first _ _ _ _ _ c.in-Splice.pid c.in-Splice.nonblock crossings.Splice c.in-Splice.source
    c.in-Splice.sink c.in-Splice.n c.cross-in-Splice.ensures.told)

pub returns-in_default-clause-told : goal.returns-in_default-clause-told
returns-in_default-clause-told g c =
    let is : IsBooked c.args.step.now = search rules in
    booked_step c.self.view_is c.requires.door.owns c.handed.ensures c.args.step.now is c.call.ensures.says
    c.call.ensures.refused

-- where a step wants memory it may want it

pub returns-in-Read-clause-succeeds : goal.returns-in-Read-clause-succeeds
returns-in-Read-clause-succeeds g c quiet none =
    absurd (false≢true (sym (rw c.in-Read.is at quiet) ∙ c.read.ensures.wants none))

pub returns-in-Write-clause-succeeds : goal.returns-in-Write-clause-succeeds
returns-in-Write-clause-succeeds g c quiet none =
    absurd (false≢true (sym (rw (rw (← c.as_slice.ensures) at c.in-Write.is) at quiet) ∙ c.write.ensures.wants none))

pub returns-in-Resume-clause-succeeds : goal.returns-in-Resume-clause-succeeds
returns-in-Resume-clause-succeeds g c quiet none =
    absurd (false≢true (sym (rw c.in-Resume.is at quiet) ∙ c.resume.ensures.wants none))

pub returns-in_default-clause-succeeds : goal.returns-in_default-clause-succeeds
returns-in_default-clause-succeeds g c quiet none =
    let is : IsBooked c.args.step.now = search rules in
    absurd (false≢true (sym (rw (← c.self.view_is) at quiet)
    ∙ wants (g.F.Frames.live c.args.door.now) c.self.inside.tables c.args.step.now is
    (c.call.ensures.wants (sym c.handed.ensures ∙ none))))
