-- Whoever lay there is the one of this number.
use Rattle.std.proofs.Common.{rules}
use Rattle.pf_service.proofs.guests.Guests.leave.Goals as goal

pub returns : goal.returns
returns g c = search rules steps 1000000
