use Rattle.std.proofs.Common.{◌∙◌}
use Rattle.pf_script.proofs.ScriptNames.{place_is}
use Rattle.pf_script.proofs.script.Script.place.Goals as goal

pub returns-in-Some-clause-place : goal.returns-in-Some-clause-place
returns-in-Some-clause-place c = rw (← c.self.view_is) (c.in-Some.ensures.index ∙ place_is c.args.name.now c.self.inside.spaces.entries)

pub returns-in-None-clause-place : goal.returns-in-None-clause-place
returns-in-None-clause-place c = rw (← c.self.view_is) (c.in-None.ensures.index ∙ place_is c.args.name.now c.self.inside.spaces.entries)
