use Rattle.std.proofs.Common.{ap, ◌∙◌, arith}
use Rattle.pf_machine.specs.Numbered.{put_at}
use Rattle.pf_fds.specs.Slots.{by_number}
use Rattle.pf_fds.proofs.Slots.{kept-filled, sound-returned, returned}
use Rattle.pf_fds.proofs.registry.Registry.put_back.Goals as goal

pub insert_reserved-requires : goal.insert_reserved-requires
insert_reserved-requires g c =
    let out = c.self.invariant.returns c.args.key (ap (λ r. r.out) c.self.view_is ∙ c.requires.out) in
    omega (arith, c.self.invariant.fits, out.has_room)

pub overflow_sub-self : goal.overflow_sub-self
overflow_sub-self g c = let out = c.self.invariant.returns c.args.key (ap (λ r. r.out) c.self.view_is ∙ c.requires.out) in omega (arith, out.has_room)

pub invariant_of-self : goal.invariant_of-self
invariant_of-self g c =
    let out = c.self.invariant.returns c.args.key (ap (λ r. r.out) c.self.view_is ∙ c.requires.out) in
    kept-filled _ _ _ _ c.self.invariant c.self.inside.drawn c.insert_reserved.new.self
    (sound-returned c.self.inside.drawn c.insert_reserved.result c.args.key.serial c.self.inside.slab.slots c.insert_reserved.new.self.slots c.args.value c.self.invariant.sound out.below out.absent c.insert_reserved.ensures.was_vacant c.insert_reserved.ensures.updates.changed c.insert_reserved.ensures.updates.others)
    c.insert_reserved.ensures.capacity c.insert_reserved.ensures.len out.has_room

pub returns-clause-items : goal.returns-clause-items
returns-clause-items g c =
    let out = c.self.invariant.returns c.args.key (ap (λ r. r.out) c.self.view_is ∙ c.requires.out) in
    let place = c.insert_reserved.ensures.key ∙ out.next in
    rw (← c.self.view_is)
    (returned c.self.inside.drawn c.insert_reserved.result c.args.key.serial c.self.inside.slab.slots c.insert_reserved.new.self.slots c.args.value c.self.invariant.sound out.below out.absent c.insert_reserved.ensures.was_vacant c.insert_reserved.ensures.updates.changed c.insert_reserved.ensures.updates.others
    ∙ ap (λ p. put_at (by_number c.self.inside.drawn c.self.inside.slab.slots) c.args.key.serial (p, c.args.value)) place)

pub returns-clause-room : goal.returns-clause-room
returns-clause-room g c =
    let out = c.self.invariant.returns c.args.key (ap (λ r. r.out) c.self.view_is ∙ c.requires.out) in
    rw (← c.self.view_is) (omega (arith, out.has_room))
