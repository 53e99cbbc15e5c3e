use Rattle.std.proofs.Common.{◌≡◌, ℕ, ◌-◌, min, refl, List, [], ◌∷◌, ◌++◌, length, map, take, set, sym, ◌∙◌, ap, subst, arith}
use Rattle.std.proofs.lemmas.List.{length-take}
use Rattle.pf_machine.specs.Queue.{last_room, topped_up}
use Rattle.pf_frame.specs.Live.{Live, IsSound}
use Rattle.pf_ring.specs.declared.ring.Window.{Window}
use Rattle.pf_ring.specs.Ring.{segment_of}
use Rattle.pf_ring.specs.Steps.{Puts}
use Rattle.pf_ring.proofs.Queues.{topped_none}
use Rattle.pf_ring.proofs.Changes.{Top, is_top, room_some, set_last, longer, topped_puts, puts_nothing}
use Rattle.pf_ring.proofs.Segments.{topped_segments}
use Rattle.pf_ring.proofs.StepsLaws.{one_step}
use Rattle.pf_ring.proofs.windows.top_up.Goals as goal

pub overflow_sub-last : goal.overflow_sub-last
overflow_sub-last g c =
    let f : Live = g.F.Frames.live c.args.door.now in
    omega (arith, c.last_window_room.ensures.room f, room_some f c.args.windows.now.items)

pub index-window-requires : goal.index-window-requires
index-window-requires g c =
    let f : Live = g.F.Frames.live c.args.door.now in
    omega (arith, c.last_window_room.ensures.room f, room_some f c.args.windows.now.items)

pub overflow_add-window : goal.overflow_add-window
overflow_add-window g c =
    let f : Live = g.F.Frames.live c.args.door.now in
    let w : Window = c.index-window.result.now in
    let top : Top f c.args.windows.now.items (c.len-last.result - 1) w c.min-number.result =
    is_top f c.args.windows.now.items c.len-last.result c.min-number.result w c.args.bytes.now (g.met.F.Frames.sound _ c.requires.door.fact) c.requires.door.stands (omega arith)
    (c.min-number.ensures ∙ ap (λ (k : ℕ). min k (length c.args.bytes.now)) (c.last_window_room.ensures.room f)) (omega arith) c.index-window.ensures in
    omega (arith, top.fits)

pub fill-requires-clause-is_live : goal.fill-requires-clause-is_live
fill-requires-clause-is_live g c =
    let f : Live = g.F.Frames.live c.args.door.now in
    let w : Window = c.index-window.result.now in
    let top : Top f c.args.windows.now.items (c.len-last.result - 1) w c.min-number.result =
    is_top f c.args.windows.now.items c.len-last.result c.min-number.result w c.args.bytes.now (g.met.F.Frames.sound _ c.requires.door.fact) c.requires.door.stands (omega arith)
    (c.min-number.ensures ∙ ap (λ (k : ℕ). min k (length c.args.bytes.now)) (c.last_window_room.ensures.room f)) (omega arith) c.index-window.ensures in
    top.last.live

pub fill-requires-clause-within : goal.fill-requires-clause-within
fill-requires-clause-within g c =
    let f : Live = g.F.Frames.live c.args.door.now in
    let w : Window = c.index-window.result.now in
    let top : Top f c.args.windows.now.items (c.len-last.result - 1) w c.min-number.result =
    is_top f c.args.windows.now.items c.len-last.result c.min-number.result w c.args.bytes.now (g.met.F.Frames.sound _ c.requires.door.fact) c.requires.door.stands (omega arith)
    (c.min-number.ensures ∙ ap (λ (k : ℕ). min k (length c.args.bytes.now)) (c.last_window_room.ensures.room f)) (omega arith) c.index-window.ensures in
    omega (arith, top.fits, length-take c.min-number.result c.args.bytes.now)

pub overflow_add-window-then-number-gt0 : goal.overflow_add-window-then-number-gt0
overflow_add-window-then-number-gt0 g c =
    let f : Live = g.F.Frames.live c.args.door.now in
    let w : Window = c.index-window.result.now in
    let top : Top f c.args.windows.now.items (c.len-last.result - 1) w c.min-number.result =
    is_top f c.args.windows.now.items c.len-last.result c.min-number.result w c.args.bytes.now (g.met.F.Frames.sound _ c.requires.door.fact) c.requires.door.stands (omega arith)
    (c.min-number.ensures ∙ ap (λ (k : ℕ). min k (length c.args.bytes.now)) (c.last_window_room.ensures.room f)) (omega arith) c.index-window.ensures in
    omega (arith, top.fits)

pub index_mut-requires : goal.index_mut-requires
index_mut-requires g c =
    let f : Live = g.F.Frames.live c.args.door.now in
    omega (arith, c.last_window_room.ensures.room f, room_some f c.args.windows.now.items)

pub returns-then-number-gt0-clause-segments : goal.returns-then-number-gt0-clause-segments
returns-then-number-gt0-clause-segments g c =
    let f : Live = g.F.Frames.live c.args.door.now in
    let w : Window = c.index-window.result.now in
    let items : List Window = c.args.windows.now.items in
    let least : c.min-number.result ≡ min (last_room (map (segment_of f) items)) (length c.args.bytes.now) = c.min-number.ensures ∙ ap (λ (k : ℕ). min k (length c.args.bytes.now)) (c.last_window_room.ensures.room f) in
    let sound : IsSound f = g.met.F.Frames.sound _ c.requires.door.fact in
    let n : ℕ = c.len-last.result - 1 in
    let top : Top f items n w c.min-number.result = is_top f items c.len-last.result c.min-number.result w c.args.bytes.now sound c.requires.door.stands (omega arith) least (omega arith) c.index-window.ensures in
    let after : Live = g.F.Frames.live c.fill.new.self in
    ap (map (segment_of after)) (set_last items n (longer w c.min-number.result) (omega (arith, room_some f items)))
    ∙ (topped_segments f after (take n items) w c.min-number.result c.args.bytes.now sound top.last.stands top.grows c.fill.ensures.fills
    (least ∙ ap (λ (v : List Window). min (last_room (map (segment_of f) v)) (length c.args.bytes.now)) top.last.split) top.last.ends top.last.live
    ∙ ap (λ (v : List Window). topped_up (map (segment_of f) v) c.args.bytes.now) (sym top.last.split))

pub returns-then-number-gt0-clause-puts : goal.returns-then-number-gt0-clause-puts
returns-then-number-gt0-clause-puts g c =
    let f : Live = g.F.Frames.live c.args.door.now in
    let w : Window = c.index-window.result.now in
    let items : List Window = c.args.windows.now.items in
    let number : ℕ = c.min-number.result in
    let least : number ≡ min (last_room (map (segment_of f) items)) (length c.args.bytes.now) = c.min-number.ensures ∙ ap (λ (k : ℕ). min k (length c.args.bytes.now)) (c.last_window_room.ensures.room f) in
    let sound : IsSound f = g.met.F.Frames.sound _ c.requires.door.fact in
    let n : ℕ = c.len-last.result - 1 in
    let top : Top f items n w number = is_top f items c.len-last.result number w c.args.bytes.now sound c.requires.door.stands (omega arith) least (omega arith) c.index-window.ensures in
    let after : Live = g.F.Frames.live c.fill.new.self in
    let puts : Puts number (take n items ++ w ∷ []) (take n items ++ w ∷ []) (take n items ++ longer w number ∷ []) f after =
    topped_puts f after (take n items) w number (take number c.args.bytes.now) sound top.last.stands top.grows c.fill.ensures.fills top.fits (length-take number c.args.bytes.now ∙ omega (arith, least)) in
    one_step c.fill.ensures.fact c.fill.ensures.rest refl (subst (λ (old : List Window). Puts number old old (set items n (longer w number)) f after) (sym top.last.split)
    (subst (λ (new : List Window). Puts number (take n items ++ w ∷ []) (take n items ++ w ∷ []) new f after) (sym (set_last items n (longer w number) (omega (arith, room_some f items)))) puts))

pub returns-else-number-gt0-clause-segments : goal.returns-else-number-gt0-clause-segments
returns-else-number-gt0-clause-segments g c =
    let f : Live = g.F.Frames.live c.args.door.now in
    sym (topped_none (map (segment_of f) c.args.windows.now.items) c.args.bytes.now (omega (arith, c.last_window_room.ensures.room f)))

pub returns-else-number-gt0-clause-puts : goal.returns-else-number-gt0-clause-puts
returns-else-number-gt0-clause-puts g c =
    one_step c.requires.door.fact refl refl (subst (λ (n : ℕ). Puts n c.args.windows.now.items c.args.windows.now.items c.args.windows.now.items (g.F.Frames.live c.args.door.now) (g.F.Frames.live c.args.door.now))
    (omega arith) (puts_nothing (g.F.Frames.live c.args.door.now) c.args.windows.now.items c.requires.door.stands))
