-- The value stands, so its place is written, and whatever is written there is a value.
use Rattle.std.proofs.Common.{◌≡◌, ◌<◌, length, Some, None, IsSome, refl, sym, ◌∙◌}
use Rattle.std.proofs.lemmas.List.{get_or_default}
use Rattle.pf_machine.specs.Numbered.{at}
use Rattle.pf_fds.specs.Taken.{padded}
use Rattle.pf_fds.proofs.Takes.{at-padded, written_there, written_set, written_lent}
use Rattle.pf_fds.proofs.places.Places.value_mut.Goals as goal

pub invariant_of-self-lent : goal.invariant_of-self-lent
invariant_of-self-lent g c w =
    rw c.in-Some.is (written_lent _ _ _ c.args.n c.self.invariant (rw (← c.self.view_is) at c.requires.stands) w)

pub returns : goal.returns
returns g c =
    let items = c.self.inside.values.items in
    let stands : IsSome (at (padded items) c.args.n) = rw (← c.self.view_is) at c.requires.stands in
    let written : c.args.n < length items = written_there items c.args.n c.self.invariant.few stands in
    let read : at items c.args.n ≡ Some c.in-Some.value = get_or_default items c.args.n None c.index_mut.result.now written ∙ sym c.index_mut.ensures.value ∙ c.in-Some.is in (
      (refl, λ w. rw (c.in-Some.is, ← c.self.view_is) (written_set items c.self.invariant.few c.args.n (Some w) written)),
      record {
        writes_back = tt;
        value = rw (c.in-Some.is, ← c.self.view_is) (at-padded items c.args.n ∙ read);
      },
    )
