use Rattle.std.proofs.Common.{map, ◌∙◌}
use Rattle.std.specs.declared.alloc.Global.{Global}
use Rattle.std.specs.declared.vec.Vec.{Vec}
use Rattle.std.proofs.lemmas.List.{length-map}
use Rattle.pf_script.specs.declared.told.Told.{Told}
use Rattle.pf_play.proofs.MergeLaws.{all_run}
use Rattle.pf_play.proofs.threads.all_of.Goals as goal

pub returns-clause-run : goal.returns-clause-run
returns-clause-run c =
    let script = c.args.script.now in
    let exist = rw c.steps-steps.ensures.steps at c.steps-steps.ensures.exist in
    let run = all_run script (map (λ v. v.items) c.args.own.items) c.requires.only exist c.requires.alone in (
      run.0,
      (length-map c.args.own.items (λ (v : Vec Told Global). v.items) ∙ c.requires.number, run.1, run.2),
      run.3,
    )
