use Rattle.std.proofs.Common.{sym}
use Rattle.pf_fds.proofs.Slots.{length-by_number}
use Rattle.pf_fds.proofs.registry.Registry.drawn.Goals as goal

pub returns : goal.returns
returns g c = rw (← c.self.view_is) (sym (length-by_number c.self.inside.drawn c.self.inside.slab.slots))
