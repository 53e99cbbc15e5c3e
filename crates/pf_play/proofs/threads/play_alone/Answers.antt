use Rattle.std.proofs.Common.{rules, arith, ◌≡◌, ◌<◌, [], ◌∷◌, refl}
use Rattle.std.specs.Prelude.{Some}
use Rattle.pf_worker.specs.Workers.{new_worker}
use Rattle.pf_play.proofs.WorkLaws.{one_opened, alone_worked, worked_framed}
use Rattle.pf_play.proofs.AnsweredLaws.{answered}
use Rattle.pf_play.proofs.StayLaws.{as_lines}
use Rattle.pf_play.proofs.threads.play_alone.Goals as goal

pub lone_worker-requires-clause-fits : goal.lone_worker-requires-clause-fits
lone_worker-requires-clause-fits g c =
    let early : c.args.ns < c.args.script.now.opening = omega (arith, c.requires.whole, c.requires.exists) in
    let fits = c.config-config.ensures.fits early in
    omega (arith, fits, c.requires.frames)

pub work_over-requires-after_bounds : goal.work_over-requires-after_bounds
work_over-requires-after_bounds g c κs within =
    let workers : c.in-Ok.workers.items ≡ new_worker c.args.ns (c.config-config.result, c.args.alloc) ∷ []
    = search rules in
    one_opened c.args.script.now c.args.alloc c.args.ns c.config-config.result c.in-Ok.workers.items
    c.requires.only c.config-config.ensures.limits workers

pub returns-clause-played : goal.returns-clause-played
returns-clause-played g c =
    let workers : c.in-Ok.workers.items ≡ new_worker c.args.ns (c.config-config.result, c.args.alloc) ∷ []
    = search rules in
    let own = (alone_worked (g.G.Gate.passed c.args.gate.now) (g.G.Gate.framed c.args.gate.now) c.args.script.now (new_worker c.args.ns (c.config-config.result, c.args.alloc)) c.in-Ok.workers.items (λ v. v.items) c.in_ok-own.own.items c.pop.new.self.items c.pop.result c.unwrap-answers.result
    workers c.in_ok-own.ensures c.pop.ensures.items c.unwrap-answers.ensures).0 in
    let played = as_lines c.args.script.now (Some c.args.ns) own.0 c.unwrap-answers.result.items c.requires.only own.2 own.1 in (
      c.unwrap-answers.result.items,
      (refl, refl, answered c.args.script.now (Some c.args.ns) c.unwrap-answers.result.items c.requires.exists played),
      played,
    )

pub returns-clause-framed : goal.returns-clause-framed
returns-clause-framed g c =
    let workers : c.in-Ok.workers.items ≡ new_worker c.args.ns (c.config-config.result, c.args.alloc) ∷ []
    = search rules in
    let worked = alone_worked (g.G.Gate.passed c.args.gate.now) (g.G.Gate.framed c.args.gate.now) c.args.script.now (new_worker c.args.ns (c.config-config.result, c.args.alloc)) c.in-Ok.workers.items (λ v. v.items) c.in_ok-own.own.items c.pop.new.self.items c.pop.result c.unwrap-answers.result
    workers c.in_ok-own.ensures c.pop.ensures.items c.unwrap-answers.ensures in
    let own = worked.0 in
    let played = as_lines c.args.script.now (Some c.args.ns) own.0 c.unwrap-answers.result.items c.requires.only own.2 own.1 in (
      c.unwrap-answers.result.items,
      (refl, refl, answered c.args.script.now (Some c.args.ns) c.unwrap-answers.result.items c.requires.exists played),
      played,
      worked_framed (g.G.Gate.passed c.args.gate.now) (g.G.Gate.framed c.args.gate.now) c.args.script.now c.args.ns
          c.unwrap-answers.result.items worked,
    )
