-- What holds of the tables holds of the space that they are kept in.
use Rattle.pf_space.proofs.space.Space.can_go_on.Goals as goal

pub returns : goal.returns
returns g c = rw (← c.self.view_is) c.can_go_on.ensures
