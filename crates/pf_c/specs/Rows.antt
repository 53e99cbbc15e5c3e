-- What stands at a handle's place, as the logic holds it: a hub whose files stand in memory of the heap.
use denote.RattleType.{RattleType}
use Rattle.std.specs.contracts.alloc.Global as Global
use Rattle.std.specs.contracts.impls.GlobalAllocator.TheImpl.{ghosts}
use Rattle.pf_hub.specs.contracts.hub.Hub.{the_row}

abbrev pub held_row : RattleType
held_row = the_row Global.the_row ghosts

-- that is `Housed`, of which `pf_hub` speaks
abbrev pub Held : Type 0
Held = held_row.Denot
