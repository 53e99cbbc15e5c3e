use Rattle.std.proofs.Common.{List, map, subst, sym}
use Rattle.std.specs.Prelude.{OnErr}
use Rattle.std.specs.declared.alloc.Global.{Global}
use Rattle.std.specs.declared.vec.Vec.{Vec}
use Rattle.pf_script.specs.Ports.{IsCut}
use Rattle.pf_script.specs.Text.{text, AreApart}
use Rattle.pf_script.specs.declared.told.Told.{Told}
use Rattle.pf_play.proofs.ApartLaws.{all_held}
use Rattle.pf_play.proofs.answered.Answered.print.Goals as goal

pub returns-in-All-clause-cut : goal.returns-in-All-clause-cut
returns-in-All-clause-cut g c =
    let script = c.args.script.now in
    λ only answers holds.
    let all = all_held script c.args.self.now c.in-All.own only answers c.in-All.is holds in
    let own = subst (λ (xs : List (Vec Told Global)). AreApart script answers (map (λ (v : Vec Told Global). v.items) xs))
    (sym c.as_slice.ensures.value) all.1.2 in
    subst (λ o. OnErr c.print_apart.result
    (IsCut (g.W.Sink.output c.args.writer.now) (g.W.Sink.output c.print_apart.new.writer) (text script answers o)))
    (sym all.0) (c.print_apart.ensures.cut answers own)
