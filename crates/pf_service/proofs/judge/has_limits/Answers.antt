use Rattle.std.proofs.Common.{rules, ◌≡◌, ◌<◌, ◌≤◌, length, refl, ap, ◌∙◌, sym, arith}
use Rattle.std.specs.Prelude.{slice_get, Some}
use Rattle.std.proofs.lemmas.Grind.{common_steps}
use Rattle.std.proofs.lemmas.Option.{gets, same_Some}
use Rattle.pf_service.proofs.judge.has_limits.Goals as goal

pub returns-in-Some : goal.returns-in-Some
returns-in-Some c =
    let some : slice_get c.args.configs.now c.args.ns ≡ Some c.in-Some.config.now = grind (arith, common_steps, gets) in
    let within : c.args.ns < length c.args.configs.now = search (c.in-Some.ensures.lookup.0, rules) in
    let limits : c.config.result ≡ c.args.transcript.now.limits = c.config.ensures in (
      λ t there. some ∙ ap Some (c.is_same_config.ensures.0 t ∙ limits),
      λ e. c.is_same_config.ensures.1 (same_Some _ _ (sym some ∙ e within) ∙ sym limits),
    )

pub returns-in-None : goal.returns-in-None
returns-in-None c =
    let past : length c.args.configs.now ≤ c.args.ns = search (c.in-None.ensures.lookup, rules) in
    (λ t there. absurd (omega (arith, past, there)), λ e. refl)
