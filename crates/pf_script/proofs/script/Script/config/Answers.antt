use Rattle.std.proofs.Common.{ap, sym, ◌∙◌}
use Rattle.std.specs.Prelude.{option_map}
use Rattle.std.specs.Map.Iter.{deref_pair}
use Rattle.pf_script.proofs.Soundness.{one_fits}
use Rattle.pf_script.proofs.ScriptNames.{limits_at}
use Rattle.pf_script.proofs.script.Script.config.Goals as goal

pub returns-clause-limits : goal.returns-clause-limits
returns-clause-limits c =
    rw (← c.self.view_is)
    (limits_at c.self.inside.spaces.entries c.args.ns c.unwrap.result.0.now c.unwrap.result.1.now (sym c.get_index.ensures.entry ∙ ap (option_map deref_pair) c.unwrap.ensures))

pub returns-clause-fits : goal.returns-clause-fits
returns-clause-fits c =
    rw (← c.self.view_is)
    (λ low. one_fits _ c.args.ns c.unwrap.result.1.now c.self.invariant low (limits_at c.self.inside.spaces.entries c.args.ns c.unwrap.result.0.now c.unwrap.result.1.now (sym c.get_index.ensures.entry ∙ ap (option_map deref_pair) c.unwrap.ensures)))
