use Rattle.std.proofs.Common.{length-set, sym}
use Rattle.pf_tables.proofs.DescriptorsFlag as lemmas
use Rattle.pf_tables.proofs.DescriptorsNamed.{has, key_stands}
use Rattle.pf_tables.proofs.Fifos.{fifos-changed}
use Rattle.pf_tables.proofs.tables.Tables.set_nonblocking.Goals as goal

pub value_mut-end-requires : goal.value_mut-end-requires
value_mut-end-requires g c = record {
  stands = key_stands c.self.invariant.kept.tied _ _ (has _ _ _ (sym c.in_ok-key_of.ensures));
}

pub invariant_of-self-2 : goal.invariant_of-self-2
invariant_of-self-2 g c =
    record {
      kept =
          lemmas.flagged-kept c.self.invariant.kept c.self.view_is (has _ _ _ (sym c.in_ok-key_of.ensures)) _
          c.value_mut-end.ensures.value c.args.on;
      filed = fifos-changed _ _ _ (length-set _ _ _) c.self.invariant.filed;
    }

pub returns-clause-says : goal.returns-clause-says
returns-clause-says g c =
    lemmas.flagged c.self.invariant.kept c.self.view_is (has _ _ _ (sym c.in_ok-key_of.ensures)) _
    c.value_mut-end.ensures.value c.args.on
