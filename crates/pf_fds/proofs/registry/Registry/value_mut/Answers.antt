use Rattle.std.proofs.Common.{◌≡◌, refl, ap, ◌∙◌}
use Rattle.pf_fds.proofs.Slots.{in_slot, found, entry_value-some, kept-rewritten, rewritten, same_registry}
use Rattle.pf_fds.proofs.registry.Registry.value_mut.Goals as goal

pub index_mut-entry-requires : goal.index_mut-entry-requires
index_mut-entry-requires g c =
    let e = in_slot c.self.inside.drawn c.self.inside.slab.slots c.args.key.slot c.args.key.serial c.self.invariant.sound (rw (← c.self.view_is) at c.requires.stands) in
    rw e.1 refl

pub invariant_of-self-lent : goal.invariant_of-self-lent
invariant_of-self-lent g c w =
    let e = in_slot c.self.inside.drawn c.self.inside.slab.slots c.args.key.slot c.args.key.serial c.self.invariant.sound (rw (← c.self.view_is) at c.requires.stands) in
    let stood = e.1 in
    let same : c.index_mut-entry.result.now ≡ e.0 = let read = c.index_mut-entry.ensures.value in cc in
    kept-rewritten _ _ _ _ c.self.invariant c.args.key.slot c.args.key.serial c.index_mut-entry.result.now c.index_mut-entry.ensures.value (ap (λ x. x.serial) same ∙ e.2) w

pub returns : goal.returns
returns g c =
    let e = in_slot c.self.inside.drawn c.self.inside.slab.slots c.args.key.slot c.args.key.serial c.self.invariant.sound (rw (← c.self.view_is) at c.requires.stands) in
    let stood = e.1 in
    let now = c.index_mut-entry.result.now in
    let read = c.index_mut-entry.ensures.value in
    let same : now ≡ e.0 = cc in
    let numbered = ap (λ x. x.serial) same ∙ e.2 in
    let slots = c.self.inside.slab.slots in (
      (
        refl,
        λ w. rw (← c.self.view_is)
            (same_registry _ _ c.self.inside.room c.self.inside.out (rewritten c.self.inside.drawn c.args.key.slot c.args.key.serial slots now c.self.invariant.sound read numbered w)),
      ),
      record {
        writes_back = tt;
        value = rw (← c.self.view_is) (found c.self.inside.drawn slots c.args.key.slot c.args.key.serial c.self.invariant.sound ∙ entry_value-some c.args.key.serial _ now read numbered);
      },
    )
