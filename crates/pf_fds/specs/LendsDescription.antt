-- What descriptions end as, where a `&mut` to one of their values is returned.

use Rattle.std.specs.Prelude.{ℕ}
use Rattle.std.specs.Borrow.{Lends, Fml, RattleType, MutBor}
use Rattle.pf_fds.specs.Descriptions.{Descriptions, with_description}
use Rattle.pf_fds.specs.contracts.descriptions.Descriptions.{the_row}

module _ (T : RattleType) (d : MutBor (Descriptions T.Denot)) (serial : ℕ) where
  -- once the borrow ends, the number has the last value written through it, and its names
  abbrev pub lends_description : MutBor T.Denot → Fml
  lends_description v = Lends (the_row T) T d v (with_description d.now serial)
