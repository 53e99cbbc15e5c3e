use Rattle.std.proofs.Common.{◌≡◌, length, arith}
use Rattle.pf_script.proofs.Places.{kept}
use Rattle.pf_script.proofs.steps.Steps.push.Goals as goal

pub invariant_of-self-2 : goal.invariant_of-self-2
invariant_of-self-2 c =
    let counted : c.in-Ok.place ≡ length c.self.inside.all.items = omega (arith, c.in-Ok.ensures, c.len.ensures) in
    rw (c.push_reserved.ensures.items, c.reserve.ensures.items)
    (kept _ _ _ c.args.line c.self.inside.places.items c.note.new.places.items c.self.invariant counted c.in_ok-note.ensures.many c.in_ok-note.ensures.noted)
