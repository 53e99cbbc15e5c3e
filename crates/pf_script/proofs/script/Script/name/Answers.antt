use Rattle.std.proofs.Common.{ap, sym, ◌∙◌}
use Rattle.std.specs.Prelude.{option_map}
use Rattle.std.specs.Map.Iter.{deref_pair}
use Rattle.pf_script.proofs.ScriptNames.{name_at}
use Rattle.pf_script.proofs.script.Script.name.Goals as goal

pub returns : goal.returns
returns c =
    rw (← c.self.view_is, c.as_slice.ensures.value)
    (name_at c.self.inside.spaces.entries c.args.place c.unwrap.result.0.now c.unwrap.result.1.now (sym c.get_index.ensures.entry ∙ ap (option_map deref_pair) c.unwrap.ensures))
