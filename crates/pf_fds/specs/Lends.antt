-- What a registry, and what places end as, where a `&mut` to one of their values is returned.

use Rattle.std.specs.Prelude.{ℕ, List, Option}
use Rattle.std.specs.Borrow.{Lends, LendsIf, Fml, RattleType, MutBor}
use Rattle.pf_fds.specs.Registry.{Registry, with_value}
use Rattle.pf_machine.specs.Numbered.{put_at}
use Rattle.pf_fds.specs.contracts.registry.Registry.{the_row}
use Rattle.pf_fds.specs.contracts.places.Places.{the_row as places_row}

module _ (T : RattleType) (r : MutBor (Registry T.Denot)) (place serial : ℕ) where
  -- once the borrow ends, the key has the last value written through it
  abbrev pub lends_value : MutBor T.Denot → Fml
  lends_value v = Lends (the_row T) T r v (with_value r.now place serial)

  -- the same where v is a reference, and at `None` the registry stays as it is
  abbrev pub lends_found : Option (MutBor T.Denot) → Fml
  lends_found v = LendsIf (the_row T) T r v (with_value r.now place serial) r.now

module _ (T : RattleType) (p : MutBor (List (Option T.Denot))) (n : ℕ) where
  -- once the borrow ends, the number has the last value written through it
  abbrev pub lends_place : MutBor T.Denot → Fml
  lends_place v = Lends (places_row T) T p v (put_at p.now n)
