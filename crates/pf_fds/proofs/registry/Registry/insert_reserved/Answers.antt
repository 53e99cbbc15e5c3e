use Rattle.std.proofs.Common.{sym, arith}
use Rattle.pf_fds.proofs.Slots.{length-by_number, inserted}
use Rattle.pf_fds.proofs.registry.Registry.insert_reserved.Goals as goal

pub overflow_add-self : goal.overflow_add-self
overflow_add-self g c = let few = rw (← c.self.view_is) at c.requires.unspent in omega (arith, length-by_number c.self.inside.drawn c.self.inside.slab.slots, few)

pub returns-clause-serial : goal.returns-clause-serial
returns-clause-serial g c = rw (← c.self.view_is) (sym (length-by_number c.self.inside.drawn c.self.inside.slab.slots))

pub returns-clause-items : goal.returns-clause-items
returns-clause-items g c =
    rw (← c.self.view_is) (inserted c.self.inside.drawn c.insert_reserved-slot.result c.self.inside.slab.slots c.insert_reserved-slot.new.self.slots c.args.value c.self.invariant.sound c.insert_reserved-slot.ensures.was_vacant c.insert_reserved-slot.ensures.updates.changed c.insert_reserved-slot.ensures.updates.others)
