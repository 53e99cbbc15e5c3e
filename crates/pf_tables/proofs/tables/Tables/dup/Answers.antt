use Rattle.std.proofs.Common.{length, length-set, ap, ◌∙◌, sym, rules}
use Rattle.pf_tables.proofs.DescriptorsDup as lemmas
use Rattle.pf_tables.proofs.DescriptorsNamed.{has, key_stands}
use Rattle.pf_tables.proofs.Fifos.{fifos-changed}
use Rattle.pf_tables.proofs.tables.Tables.dup.Goals as goal

pub returns-then-to-ge-MAX_DESCRIPTORS-clause-says : goal.returns-then-to-ge-MAX_DESCRIPTORS-clause-says
returns-then-to-ge-MAX_DESCRIPTORS-clause-says g c =
    let refused =
    lemmas.not_duped c.self.invariant.kept c.self.view_is _ _ c.in_ok-ready.ensures (sym c.in_ok-key.ensures) _
    c.lowest-to.ensures.lowest c.if-to-ge-MAX_DESCRIPTORS.true in
    search rules

pub name-requires-clause-stands : goal.name-requires-clause-stands
name-requires-clause-stands g c =
    key_stands c.self.invariant.kept.tied _ _ (has _ _ _ (sym c.in_ok-key.ensures))

pub name-requires-clause-below : goal.name-requires-clause-below
name-requires-clause-below g c =
    lemmas.has_few c.self.invariant.kept c.self.view_is _ _ c.in_ok-ready.ensures (sym c.in_ok-key.ensures) _
    c.lowest-to.ensures.lowest

pub invariant_of-self : goal.invariant_of-self
invariant_of-self g c =
    record {
      kept =
          lemmas.duped-kept c.self.invariant.kept c.self.view_is _ _ c.in_ok-ready.ensures (sym c.in_ok-key.ensures) _
          c.lowest-to.ensures.lowest c.if-to-ge-MAX_DESCRIPTORS.false c.give_key.ensures c.name.ensures.items;
      filed = fifos-changed _ _ _ (ap length c.name.ensures.items ∙ length-set _ _ _) c.self.invariant.filed;
    }

pub returns-clause-says : goal.returns-clause-says
returns-clause-says g c =
    lemmas.duped c.self.invariant.kept c.self.view_is _ _ c.in_ok-ready.ensures (sym c.in_ok-key.ensures) _
    c.lowest-to.ensures.lowest c.if-to-ge-MAX_DESCRIPTORS.false c.give_key.ensures c.name.ensures.items
