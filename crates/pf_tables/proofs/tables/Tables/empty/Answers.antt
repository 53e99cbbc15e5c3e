use Rattle.std.proofs.Common.{sym, refl, subst, ◌∙◌, arith}
use Rattle.pf_tables.proofs.Common.{AreCharged}
use Rattle.pf_tables.proofs.Fifos.{fifos-gone, fifos-same}
use Rattle.pf_tables.proofs.DescriptorsDrop.{gone_covered, gone_kept, left_off}
use Rattle.pf_tables.proofs.DescriptorsLetGo.{open_shown}
use Rattle.pf_tables.proofs.ProcessesFork.{nothing}
use Rattle.pf_tables.proofs.tables.Tables.empty.Goals as goal

pub refund-requires : goal.refund-requires
refund-requires g c =
    let w = rw c.in-Some.is at c.let_go-gone.ensures.pipe in
    gone_covered c.self.invariant.kept w.0 c.in-Some.pipe w.2 _ _ c.owner.ensures c.slots.ensures.number

pub invariant_of-self : goal.invariant_of-self
invariant_of-self g c =
    let w = rw c.in-Some.is at c.let_go-gone.ensures.pipe in
    record {
      kept =
          gone_kept c.self.invariant.kept w.0 c.in-Some.pipe w.2 c.let_go-gone.ensures.left.tied w.3 _ _ _
          c.owner.ensures c.slots.ensures.number c.refund.ensures;
      filed =
          fifos-gone _ _ c.in-Some.pipe c.let_go-gone.ensures.drawn (rw c.in-Some.is at c.let_go-gone.ensures.opens)
          (rw c.file.ensures at c.forget.ensures) c.self.invariant.filed;
    }

pub returns-in-Some-clause-leaves : goal.returns-in-Some-clause-leaves
returns-in-Some-clause-leaves g c =
    left_off _ _ _ c.self.view_is c.let_go-gone.ensures.left _ c.let_go-gone.ensures.pipe c.refund.ensures.limits

pub returns-in_default-clause-leaves : goal.returns-in_default-clause-leaves
returns-in_default-clause-leaves g c =
    left_off _ _ _ c.self.view_is c.let_go-gone.ensures.left _ c.let_go-gone.ensures.pipe refl

pub invariant_of-self-in_default : goal.invariant_of-self-in_default
invariant_of-self-in_default g c =
    let none = nothing c.let_go-gone.result.pipe c.in_default.not-Some in
    record {
      kept = record {
        tied = c.let_go-gone.ensures.left.tied;
        charged =
            subst (AreCharged c.self.inside.pages) (sym (rw none at c.let_go-gone.ensures.pipe))
            c.self.invariant.kept.charged;
      };
      filed =
          fifos-same _ (omega (arith, c.let_go-gone.ensures.drawn)) (rw none at c.let_go-gone.ensures.opens)
          c.self.invariant.filed;
    }

pub returns-in-Some-clause-was_open : goal.returns-in-Some-clause-was_open
returns-in-Some-clause-was_open g c = c.let_go-gone.ensures.was_open ∙ open_shown _ _ _ c.self.view_is _ _

pub returns-in_default-clause-was_open : goal.returns-in_default-clause-was_open
returns-in_default-clause-was_open g c = c.let_go-gone.ensures.was_open ∙ open_shown _ _ _ c.self.view_is _ _
