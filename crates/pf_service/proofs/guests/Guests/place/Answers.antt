-- Whoever lies there is the one of this number.
use Rattle.std.proofs.Common.{rules}
use Rattle.pf_service.proofs.guests.Guests.place.Goals as goal

pub returns : goal.returns
returns g c = search rules steps 1000000
