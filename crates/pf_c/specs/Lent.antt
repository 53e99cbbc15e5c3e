-- The hub at a handle's place is lent: the place ends with what is left behind the reference.
use Rattle.std.specs.Borrow.{Lends, MutBor, Fml}
use Rattle.pf_c.specs.declared.place.Place.{Place}
use Rattle.pf_c.specs.contracts.place.Place.{the_row}
use Rattle.pf_c.specs.Rows.{held_row, Held}

abbrev pub with_held : Place → Held → Place
with_held p hub = record p { held = hub }

abbrev pub LendsHeld : MutBor Place → MutBor Held → Fml
LendsHeld p r = Lends the_row held_row p r (with_held p.now)
