-- The array says what the namespace's door holds.
use Rattle.pf_plain.proofs.PlainLemmas.{held_said}
use Rattle.pf_plain.proofs.plain.Plain.held.Goals as goal

pub returns : goal.returns
returns g c =
    held_said c.self.inside.pool c.self.inside.spaces.items c.self.invariant c.args.self.now c.args.ns c.held.result
    c.self.view_is c.held.ensures
