use Rattle.std.proofs.Common.{◌≡◌, Bool, false, Some, None, IfSome, set, sym, ap, subst, ◌∙◌, if◌then◌else◌}
use Rattle.pf_tables.proofs.Common.{Pipe, set-set, with_fewer, is_used, left}
use Rattle.pf_tables.proofs.tables.descriptors.drop_end.Goals as goal

pub returns-clause-items : goal.returns-clause-items
returns-clause-items c =
    let unused : is_used (with_fewer c.args.end c.value_mut-pipe.result.now) ≡ false =
    ap is_used (sym c.uncount.ensures) ∙ sym c.is_open.ensures ∙ c.if-is_open.false in
    let none : left c.args.end c.value_mut-pipe.result.now ≡ None =
    ap (λ (b : Bool). if b then Some (c.args.end.pipe.slot, with_fewer c.args.end c.value_mut-pipe.result.now)
    else None) unused in
    subst (λ o. IfSome o (λ (p : Pipe). c.remove.new.self.items
    ≡ set c.args.pipes.now.items c.args.end.pipe.serial (left c.args.end p))) (sym c.value_mut-pipe.ensures.value)
    (c.remove.ensures.items ∙ set-set c.args.pipes.now.items c.args.end.pipe.serial _ None
    ∙ ap (set c.args.pipes.now.items c.args.end.pipe.serial) (sym none))
