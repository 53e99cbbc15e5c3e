use Rattle.std.proofs.Common.{◌≡◌, ◌-◌, List, Option, ap, arith, is_some, count_by}
use Rattle.slab.specs.Slab.{slab_len}
use Rattle.pf_fds.specs.declared.registry.Entry.{Entry}
use Rattle.pf_fds.proofs.Slots.{kept-grown}
use Rattle.pf_fds.proofs.registry.Registry.reserve.Goals as goal

pub invariant_of-self : goal.invariant_of-self
invariant_of-self g c =
    let rest = c.reserve.ensures.rest_kept in
    kept-grown _ _ _ _ c.self.invariant c.reserve.new.self c.self.inside.room (ap (λ s. s.slots) rest) (ap (λ s. s.vacant_key) rest) (omega arith) (omega (arith, c.self.invariant.fits, c.reserve.ensures.capacity)) c.self.invariant.counted

pub invariant_of-self-then-more-self : goal.invariant_of-self-then-more-self
invariant_of-self-then-more-self g c =
    let rest = c.reserve.ensures.rest_kept in
    let slots = ap (λ s. s.slots) rest in
    let len : slab_len c.reserve.new.self ≡ slab_len c.self.inside.slab = ap (λ (xs : List (Option (Entry g.row.T.Denot))). count_by is_some xs) slots in
    let counted = c.in_ok-reserve.ensures.room in
    kept-grown _ _ _ _ c.self.invariant c.reserve.new.self (c.capacity.result - c.len.result) slots (ap (λ s. s.vacant_key) rest) (omega (arith, len)) (omega (arith, len, c.capacity.ensures.holds_all)) (omega (arith, len, c.capacity.ensures.holds_all))
