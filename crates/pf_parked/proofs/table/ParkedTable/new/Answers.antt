use Rattle.std.proofs.Common.{◌≡◌, replicate, None, ap, ◌∙◌, arith}
use Rattle.pf_machine.specs.State.{vacant}
use Rattle.pf_base.specs.declared.TheConstants.{MAX_PROCESSES}
use Rattle.pf_parked.proofs.table.ParkedTable.new.Goals as goal

pub returns : goal.returns
unfolding vacant
returns g c =
    let e : c.loop-n.n ≡ MAX_PROCESSES = omega arith in
    c.loop-n.invariant.0 ∙ ap (λ m. replicate m None) e
