-- What the windows show after each step of a ring's calls.

use Rattle.std.proofs.Common.{◌≡◌, ℕ, ◌+◌, ◌-◌, ◌<◌, ◌≤◌, min, Bool, true, List, [], ◌∷◌, ◌++◌, length, map, take, drop, if◌then◌else◌, refl, sym, ◌∙◌, ap, subst, inl, inr, arith}
use Rattle.std.proofs.lemmas.Bool.{cases_eq}
use Rattle.std.proofs.lemmas.List.{map-append, take_at, take_min, drop-drop, drop-take, drop-append-le, length-take, length-drop, length-append}
use Rattle.pf_base.specs.declared.TheConstants.{PAGE_SIZE}
use Rattle.pf_machine.specs.Queue.{Segment, last_room, topped_up, without_front}
use Rattle.pf_frame.specs.Live.{Live, IsSound, Takes, Fills}
use Rattle.pf_ring.specs.declared.ring.Window.{Window}
use Rattle.pf_ring.specs.Ring.{segment_of, shown}
use Rattle.pf_ring.specs.Windows.{reach, bytes_in, Stands, Drops}
use Rattle.pf_ring.specs.Steps.{Cut}
use Rattle.pf_ring.proofs.WindowLaws.{named-append, reach-append, limit-append, segments_stay, segments_same, drops_show, window_whole, stands_rest}
use Rattle.pf_ring.proofs.Queues.{same_segment, topped_push, without_all, without_part}
use Rattle.pf_ring.proofs.Changes.{First, last_room_at, own_open, fresh, longer, shorter, cut_drops, take_filled}

-- a fresh frame with bytes, named by one more window at the end
pub piece_segments : (f g h : Live) (ws : List Window) (frame n : ℕ) (xs : List ℕ) → Stands f ws → Takes f g frame → Fills g h frame 0 xs → length xs ≡ n
    → map (segment_of h) (ws ++ fresh frame n ∷ []) ≡ map (segment_of f) ws ++ record { bytes = xs; room = PAGE_SIZE - n } ∷ []
piece_segments f g h ws frame n xs s t u e =
    let stay : map (segment_of h) ws ≡ map (segment_of f) ws = segments_same f h ws (λ q m.
    let live : 0 < f.count q = omega (arith, m, s.counted q) in
    let d : q ≡ frame → ⊥ = λ d. let z : f.count q ≡ 0 = ap f.count d ∙ t.fresh in omega (arith, z, live) in
    u.bytes q d (omega (arith, t.counts q d, live)) ∙ t.bytes q live) in
    let bytes : take n (drop 0 (h.bytes frame)) ≡ xs = ap (λ (b : List ℕ). take n b) u.filled ∙ take_at xs _ n e in
    let last : segment_of h (fresh frame n) ≡ record { bytes = xs; room = PAGE_SIZE - n } = same_segment _ _ bytes (omega arith) in
    map-append (segment_of h) ws (fresh frame n ∷ []) ∙ (λ i. stay i ++ last i ∷ [])

-- the bytes of the last window after bytes were filled in behind it
longer_bytes : (from len n e : ℕ) (old new xs ys : List ℕ) → e ≡ from + len → e ≤ length old → length xs ≡ n → new ≡ (take e old ++ xs) ++ ys → take (len + n) (drop from new) ≡ take len (drop from old) ++ xs
longer_bytes from len n e old new xs ys s h l filled =
    let front : List ℕ = take e old in
    let size : length front ≡ e = omega (arith, length-take e old) in
    let one : drop from ((front ++ xs) ++ ys) ≡ drop from (front ++ xs) ++ ys = drop-append-le from (front ++ xs) ys (omega (arith, length-append front xs)) in
    let two : drop from (front ++ xs) ≡ drop from front ++ xs = drop-append-le from front xs (omega arith) in
    let cut : drop from front ≡ take len (drop from old) = ap (λ (k : ℕ). drop from (take k old)) s ∙ drop-take from len old in
    let many : length (drop from front ++ xs) ≡ len + n = omega (arith, length-append (drop from front) xs, length-drop from front) in
    ap (λ (b : List ℕ). take (len + n) (drop from b)) filled ∙ (ap (take (len + n)) (one ∙ ap (λ (b : List ℕ). b ++ ys) two) ∙ (take_at (drop from front ++ xs) ys (len + n) many ∙ ap (λ (b : List ℕ). b ++ xs) cut))

-- the last window grows by what the page still takes of x
pub topped_segments : (f g : Live) (front : List Window) (w : Window) (n : ℕ) (x : List ℕ) → IsSound f → Stands f (front ++ w ∷ []) → w.grows ≡ true → Fills f g w.frame (w.from + w.len) (take n x)
    → n ≡ min (last_room (map (segment_of f) (front ++ w ∷ []))) (length x) → w.from + w.len ≤ PAGE_SIZE → 0 < f.count w.frame
    → map (segment_of g) (front ++ longer w n ∷ []) ≡ topped_up (map (segment_of f) (front ++ w ∷ [])) x
topped_segments f g front w n x sound s grows u least ends live =
    let room : (segment_of f w).room ≡ PAGE_SIZE - (w.from + w.len) = ap (λ (b : Bool). if b then PAGE_SIZE - (w.from + w.len) else 0) grows in
    let roomy : (segment_of g (longer w n)).room ≡ PAGE_SIZE - (w.from + (w.len + n)) = ap (λ (b : Bool). if b then PAGE_SIZE - (w.from + (w.len + n)) else 0) grows in
    let number : n ≡ min (segment_of f w).room (length x) = least ∙ ap (λ (k : ℕ). min k (length x)) (last_room_at f front w) in
    let size : length (take n x) ≡ n = omega (arith, length-take n x) in
    let some : take n x ≡ take (segment_of f w).room x = ap (λ (k : ℕ). take k x) number ∙ take_min (segment_of f w).room x in
    let stay : map (segment_of g) front ≡ map (segment_of f) front = segments_stay f g front (λ q m.
    elim (cases_eq q w.frame) [
      | inl d ↦ let filled : g.bytes q ≡ (take (w.from + w.len) (f.bytes q) ++ take n x) ++ drop (w.from + w.len + length (take n x)) (f.bytes q) =
          subst (λ (k : ℕ). g.bytes k ≡ (take (w.from + w.len) (f.bytes k) ++ take n x) ++ drop (w.from + w.len + length (take n x)) (f.bytes k)) (sym d) u.filled in
          let lively : 0 < f.count q = subst (λ (k : ℕ). 0 < f.count k) (sym d) live in
          let before : reach q front ≤ w.from + w.len = omega (arith, s.apart q, reach-append q front (w ∷ []), limit-append q front (w ∷ []), own_open q w (sym d) grows) in
          ap (take (reach q front)) filled ∙ take_filled _ _ (f.bytes q) (take n x) _ before (omega (arith, sound.whole q lively))
      | inr d ↦ ap (take (reach q front)) (u.bytes q d (omega (arith, m, s.counted q, named-append q front (w ∷ []))))
    ]) in
    let bytes : (segment_of g (longer w n)).bytes ≡ (segment_of f w).bytes ++ take (segment_of f w).room x =
    longer_bytes w.from w.len n (w.from + w.len) (f.bytes w.frame) (g.bytes w.frame) (take n x) _ refl (omega (arith, sound.whole w.frame live)) size u.filled ∙ ap (λ (b : List ℕ). (segment_of f w).bytes ++ b) some in
    let last : segment_of g (longer w n) ≡ record { bytes = (segment_of f w).bytes ++ take (segment_of f w).room x; room = (segment_of f w).room - length x } =
    same_segment _ _ bytes (roomy ∙ omega (arith, room, number)) in
    map-append (segment_of g) front (longer w n ∷ []) ∙ ((λ i. stay i ++ last i ∷ [])
    ∙ (sym (topped_push (map (segment_of f) front) (segment_of f w) x) ∙ ap (λ (l : List Segment). topped_up l x) (sym (map-append (segment_of f) front (w ∷ [])))))

-- no segment is empty, so nothing goes with no byte
pub without_none : (f : Live) (ws : List Window) → IsSound f → Stands f ws → without_front 0 (map (segment_of f) ws) ≡ map (segment_of f) ws
without_none f [] s t = refl
without_none f (w ∷ ws) s t = without_part 0 (segment_of f w) (map (segment_of f) ws) (omega (arith, window_whole f w ws s t, t.some.0))

pub cut_segments : (f : Live) (w : Window) (ws : List Window) (n : ℕ) → IsSound f → Stands f (w ∷ ws) → n < w.len → map (segment_of f) (shorter w n ∷ ws) ≡ without_front n (map (segment_of f) (w ∷ ws))
cut_segments f w ws n s t l =
    let whole : w.len ≡ n + (w.len - n) = omega arith in
    let bytes : take (w.len - n) (drop (w.from + n) (f.bytes w.frame)) ≡ drop n (take w.len (drop w.from (f.bytes w.frame))) =
    sym (ap (λ (k : ℕ). drop n (take k (drop w.from (f.bytes w.frame)))) whole ∙ (drop-take n (w.len - n) (drop w.from (f.bytes w.frame)) ∙ ap (take (w.len - n)) (drop-drop n w.from (f.bytes w.frame)))) in
    let ends : w.from + n + (w.len - n) ≡ w.from + w.len = omega arith in
    let here : segment_of f (shorter w n) ≡ record { bytes = drop n (segment_of f w).bytes; room = (segment_of f w).room } =
    same_segment _ _ bytes (ap (λ (k : ℕ). if w.grows then PAGE_SIZE - k else 0) ends) in
    ap (λ (x : Segment). x ∷ map (segment_of f) ws) here ∙ sym (without_part n (segment_of f w) (map (segment_of f) ws) (omega (arith, window_whole f w ws s t)))

pub gone_segments : (f : Live) (w : Window) (ws : List Window) (n : ℕ) → IsSound f → Stands f (w ∷ ws) → n ≡ w.len → map (segment_of f) ws ≡ without_front n (map (segment_of f) (w ∷ ws))
gone_segments f w ws n s t e =
    let size : length (segment_of f w).bytes ≡ w.len = window_whole f w ws s t in
    sym (without_all n (segment_of f w) (map (segment_of f) ws) (omega arith) ∙ (ap (λ (k : ℕ). without_front k (map (segment_of f) ws)) (omega arith) ∙ without_none f ws s (stands_rest f w ws t)))

-- the first window loses some of its bytes, or goes with all
pub cut_first : (f : Live) (w : Window) (ws : List Window) (n : ℕ) → IsSound f → Stands f (w ∷ ws) → n < w.len → Cut n (w ∷ ws) (shorter w n ∷ ws) f f
cut_first f w ws n s t l = record { drops = cut_drops f w ws n t l; segments = cut_segments f w ws n s t l; bytes = omega (arith, l) }

pub gone_first : (f g : Live) (old new : List Window) (w : Window) (n : ℕ) → IsSound f → Stands f old → First f old w → n ≡ w.len → new ≡ drop 1 old → Drops old new f g → Cut n old new f g
gone_first f g old new w n s t first e is d = record {
  drops = d;
  segments = drops_show f g old new t d ∙ (ap (shown f) is ∙ (gone_segments f w (drop 1 old) n s first.stands e ∙ ap (λ (ws : List Window). without_front n (shown f ws)) (sym first.split)));
  bytes = let whole : bytes_in old ≡ w.len + bytes_in (drop 1 old) = ap bytes_in first.split in let left : bytes_in new ≡ bytes_in (drop 1 old) = ap bytes_in is in omega (arith, whole, left, e);
}
