use Rattle.std.proofs.Common.{◌≡◌, refl, ap, ◌∙◌}
use Rattle.pf_fds.proofs.Slots.{in_slot, found, entry_value-some, removed, kept-taken}
use Rattle.pf_fds.proofs.registry.Registry.take_out.Goals as goal

pub remove-value-requires : goal.remove-value-requires
remove-value-requires g c =
    let e = in_slot c.self.inside.drawn c.self.inside.slab.slots c.args.key.slot c.args.key.serial c.self.invariant.sound (rw (← c.self.view_is) at c.requires.stands) in
    rw e.1 refl

pub returns-clause-value : goal.returns-clause-value
returns-clause-value g c =
    let e = in_slot c.self.inside.drawn c.self.inside.slab.slots c.args.key.slot c.args.key.serial c.self.invariant.sound (rw (← c.self.view_is) at c.requires.stands) in
    let stood = e.1 in
    let same : c.remove-value.result ≡ e.0 = let read = c.remove-value.ensures.value in cc in
    rw (← c.self.view_is)
    (found c.self.inside.drawn c.self.inside.slab.slots c.args.key.slot c.args.key.serial c.self.invariant.sound
    ∙ entry_value-some c.args.key.serial _ c.remove-value.result c.remove-value.ensures.value (ap (λ x. x.serial) same ∙ e.2))

pub returns-clause-items : goal.returns-clause-items
returns-clause-items g c =
    let e = in_slot c.self.inside.drawn c.self.inside.slab.slots c.args.key.slot c.args.key.serial c.self.invariant.sound (rw (← c.self.view_is) at c.requires.stands) in
    rw (← c.self.view_is, c.remove-value.ensures.slots) (removed c.self.inside.drawn c.args.key.slot c.args.key.serial c.self.inside.slab.slots e.0 c.self.invariant.sound e.1 e.2)

pub invariant_of-self : goal.invariant_of-self
invariant_of-self g c =
    let e = in_slot c.self.inside.drawn c.self.inside.slab.slots c.args.key.slot c.args.key.serial c.self.invariant.sound (rw (← c.self.view_is) at c.requires.stands) in
    kept-taken _ _ _ _ c.self.invariant c.args.key e.0 e.1 e.2 _ c.remove-value.ensures.slots c.remove-value.ensures.key_is_next c.remove-value.ensures.capacity c.remove-value.ensures.len
