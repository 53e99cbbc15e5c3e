use Rattle.std.proofs.Common.{◌≡◌, ℕ, ◌-◌, ◌<◌, refl, List, [], ◌∷◌, ◌++◌, take, ap, ◌∙◌, map, sym, arith}
use Rattle.std.specs.VecDeque.{deque_len}
use Rattle.pf_machine.specs.Queue.{last_room}
use Rattle.pf_ring.specs.declared.ring.Window.{Window}
use Rattle.pf_ring.specs.Ring.{segment_of}
use Rattle.pf_ring.proofs.Changes.{split_last}
use Rattle.pf_ring.proofs.Changes.{last_room_at}
use Rattle.pf_ring.proofs.windows.last_window_room.Goals as goal

pub returns-in-Some-clause-room : goal.returns-in-Some-clause-room
returns-in-Some-clause-room c f =
    let items : List Window = c.args.windows.now.items in
    let n : ℕ = deque_len c.args.windows.now - 1 in
    let some : 0 < deque_len c.args.windows.now = c.in-Some.ensures.variant.0 refl in
    let split : items ≡ take n items ++ c.in-Some.last.now ∷ [] = split_last items n c.in-Some.last.now (omega arith) c.in-Some.ensures.lookup in
    c.room.ensures.room f ∙ sym (ap (λ (ws : List Window). last_room (map (segment_of f) ws)) split ∙ last_room_at f (take n items) c.in-Some.last.now)
