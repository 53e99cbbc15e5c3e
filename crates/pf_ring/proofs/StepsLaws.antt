-- Steps of a ring's call: one, and two of which the second follows the first.

use Rattle.std.proofs.Common.{◌≡◌, List, ◌∙◌}
use Rattle.std.specs.VecDeque.{deque_capacity}
use Rattle.std.specs.declared.collections.VecDeque.{VecDeque}
use Rattle.pf_frame.specs.Live.{Live}
use Rattle.pf_frame.specs.declared.frames.Frames.{Ghosts}
use Rattle.pf_ring.specs.declared.ring.Window.{Window}
use Rattle.pf_ring.specs.Steps.{Steps}

abbrev Change : Type 1
Change = List Window → List Window → Live → Live → Type 0

module _ {D Z : Type 0} {F : Ghosts D} {Became : Change} {d h : D} {old new : VecDeque Window Z} where
  pub one_step : F.fact h → F.rest h ≡ F.rest d → deque_capacity new ≡ deque_capacity old
      → Became old.items new.items (F.live d) (F.live h) → Steps F d h old new Became
  one_step fact rest space is = record { door = record { fact = fact; rest = rest; frames = is }; space = space }

  -- of which this is true too
  pub steps_are : {Is : Change} → Steps F d h old new Is → Became old.items new.items (F.live d) (F.live h)
      → Steps F d h old new Became
  steps_are s is = one_step s.door.fact s.door.rest s.space is

  pub steps_then : {e : D} {mid : VecDeque Window Z} {Is Then : Change} → Steps F d e old mid Is
      → Steps F e h mid new Then → Became old.items new.items (F.live d) (F.live h) → Steps F d h old new Became
  steps_then s t is = one_step t.door.fact (t.door.rest ∙ s.door.rest) (t.space ∙ s.space) is
