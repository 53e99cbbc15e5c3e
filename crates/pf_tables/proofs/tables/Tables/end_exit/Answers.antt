use Rattle.pf_tables.proofs.DescriptorsDrop.{vacated-whole, vacated-makes}
use Rattle.pf_tables.proofs.tables.Tables.end_exit.Goals as goal

pub invariant_of-self : goal.invariant_of-self
invariant_of-self g c =
    vacated-whole c.self.invariant c.self.view_is c.args.pid c.requires.bare c.take.ensures

pub returns : goal.returns
returns g c = vacated-makes c.self.invariant c.self.view_is c.args.pid c.requires.bare c.take.ensures
