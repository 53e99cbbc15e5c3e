-- A place that is written is written anew; else the places up to it are written first, with no value in those before it.
use Rattle.std.proofs.Common.{◌≡◌, ◌<◌, ◌≤◌, ◌∷◌, [], ◌++◌, length, Some, ap, ◌∙◌, arith, length-set}
use Rattle.pf_fds.specs.Taken.{padded}
use Rattle.pf_fds.proofs.Takes.{grown, written_set, length-grown, written_grown, written_changed}
use Rattle.pf_fds.proofs.places.Places.put.Goals.{After-push_reserved}
use Rattle.pf_fds.proofs.places.Places.put.Given.{Over}
use Rattle.pf_fds.proofs.places.Places.put.Goals as goal

pub invariant_of-self : goal.invariant_of-self
invariant_of-self g c =
    let items = c.self.inside.values.items in
    let written : c.args.n < length items = omega (arith, c.if-n-len.true, c.len.ensures) in
    written_changed _ _ items _ _ _ c.args.n (Some c.args.value) c.self.invariant c.requires (written_set items c.self.invariant.few c.args.n (Some c.args.value) written)
    (omega (arith, length-set items c.args.n (Some c.args.value), c.self.invariant.few)) c.self.invariant.room c.mark.ensures.marked c.mark.ensures.others

pub returns-then-n-len : goal.returns-then-n-len
returns-then-n-len g c =
    rw (← c.self.view_is) (written_set c.self.inside.values.items c.self.invariant.few c.args.n (Some c.args.value) (omega (arith, c.if-n-len.true, c.len.ensures)))

past : (g : Over) (c : After-push_reserved g) → length c.self.inside.values.items ≤ c.args.n
past g c = omega (arith, c.if-n-len.false, c.len.ensures)

items_are : (g : Over) (c : After-push_reserved g) → c.push_reserved.new.self.items ≡ grown c.self.inside.values.items c.self.invariant.few c.args.n c.args.value
items_are g c = c.push_reserved.ensures.items ∙ ap (λ xs. xs ++ Some c.args.value ∷ []) c.write_below.ensures.items

pub invariant_of-self-2 : goal.invariant_of-self-2
invariant_of-self-2 g c =
    let items = c.self.inside.values.items in
    let few = c.self.invariant.few in
    written_changed _ _ items _ _ _ c.args.n (Some c.args.value) c.self.invariant c.requires
    (ap padded (items_are g c) ∙ written_grown items few c.args.n c.args.value (past g c) c.requires)
    (omega (arith, ap length (items_are g c), length-grown items few c.args.n c.args.value (past g c), c.requires))
    (omega (arith, c.push_reserved.ensures.capacity, c.write_below.ensures.capacity, c.self.invariant.room)) c.mark.ensures.marked c.mark.ensures.others

pub returns : goal.returns
returns g c =
    rw (← c.self.view_is)
    (ap padded (items_are g c) ∙ written_grown c.self.inside.values.items c.self.invariant.few c.args.n c.args.value (past g c) c.requires)
