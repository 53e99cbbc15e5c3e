use Rattle.pf_tables.proofs.Parked.{parked-whole, parked-namespace}
use Rattle.pf_tables.proofs.tables.Tables.park.Goals as goal

pub invariant_of-self : goal.invariant_of-self
invariant_of-self g c =
    parked-whole c.self.invariant c.self.view_is _ c.requires.ready c.args.call c.requires.moving
    c.park.ensures

pub returns : goal.returns
returns g c =
    parked-namespace c.self.invariant c.self.view_is _ c.requires.ready c.args.call c.requires.moving
    c.park.ensures
