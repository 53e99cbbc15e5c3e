use Rattle.std.proofs.Common.{◌∙◌, sym}
use Rattle.std.proofs.lemmas.Slice.Eq.{bytes_eq-Decides}
use Rattle.pf_script.proofs.ScriptNames.{name_at}
use Rattle.pf_script.proofs.script.Script.is_named.Goals as goal

pub returns-in-Some-clause-place : goal.returns-in-Some-clause-place
returns-in-Some-clause-place c =
    let own = name_at c.self.inside.spaces.entries c.args.place c.in-Some.own.now c.in-Some.field-0-1.now (sym c.in-Some.ensures.entry) in
    let found = c.self.invariant.distinct c.args.place c.in-Some.own.now.items own in
    λ is.
    let same = (bytes_eq-Decides c.in-Some.own.now.items c.args.name.now).0 (sym (rw c.as_slice.ensures.value at c.eq.ensures) ∙ is) in
    rw (← c.self.view_is, ← same) found
