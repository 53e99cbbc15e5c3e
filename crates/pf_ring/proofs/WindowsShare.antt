-- Windows that are put on the frames of another ring's windows: one, and as many as a loop puts.

use Rattle.std.proofs.Common.{◌≡◌, ◌⊎◌, ℕ, zero, suc, ◌+◌, ◌-◌, ◌<◌, ◌≤◌, min, false, List, ◌∷◌, ◌++◌, length, get_or, take, drop, refl, sym, ◌∙◌, ap, subst, inl, inr, append_assoc, arith, []}
use Rattle.std.proofs.lemmas.Bool.{cases_eq, cases_lt}
use Rattle.std.proofs.lemmas.Bool.Decides.{nat_tests}
use Rattle.std.proofs.lemmas.List.{map-append, append-nil, get_or-drop, drop_all, drop-drop, take-take, take_min, length-drop, length-append, length-map}
use Rattle.pf_base.specs.declared.TheConstants.{PAGE_SIZE}
use Rattle.pf_machine.specs.Queue.{Segment, joined, free_of, copied, tee_number, after_tee}
use Rattle.pf_machine.proofs.QueueLaws.{joined-append}
use Rattle.pf_frame.specs.Live.{Live, IsSound, Shares}
use Rattle.pf_ring.specs.declared.ring.Window.{Window}
use Rattle.pf_ring.specs.Calls.{Gets}
use Rattle.pf_ring.specs.Ring.{Ring, segment_of, shown, queue_of}
use Rattle.pf_ring.specs.Steps.{Copies}
use Rattle.pf_ring.specs.Windows.{named, reach, opens, limit, bytes_in, Stands, Keeps, Moves}
use Rattle.pf_ring.proofs.WindowLaws.{named-append, opens-append, reach-append, limit-append, limit_le, NoEmpty-append, bytes_in-append, reach_here, reach_tail, segments_same, segments_length, window_whole, keeps_then, keeps_same, stands_first, stands_second, stands_rest, both_stand, reach_first}
use Rattle.pf_ring.proofs.Changes.{First, is_first, own, other}
use Rattle.pf_ring.proofs.Queues.{same_segment, copied_step, copied_no_slot, copied_no_byte, copied_no_segment}

-- a window on the first n bytes of another, with no room
abbrev pub copy_of : Window → ℕ → Window
copy_of w n = record { frame = w.frame; from = w.from; len = n; grows = false }

pub closed : (q : ℕ) (w : Window) → w.grows ≡ false → (opens q (w ∷ []) ≡ 0) × (limit q (w ∷ []) ≡ PAGE_SIZE)
closed q w e = (grind (arith, nat_tests), grind (arith, nat_tests))

-- where a copy of one of the windows src ends, and how often it names a frame
pub copy_reach : (q : ℕ) (src : List Window) (w : Window) (n : ℕ) → w.from + n ≤ reach w.frame src → reach q (copy_of w n ∷ []) ≤ reach q src
copy_reach q src w n ends = elim (cases_eq w.frame q) [
  | inl e ↦ let at : reach w.frame src ≡ reach q src = ap (λ (k : ℕ). reach k src) e in omega (arith, own q (copy_of w n) e, at, ends)
  | inr d ↦ omega (arith, other q (copy_of w n) d)
]

-- one window more on a frame of the windows src
copy_keeps : (f g : Live) (src old : List Window) (w : Window) (n : ℕ) → Stands f (src ++ old) → Shares f g w.frame → 0 < f.count w.frame → 0 < n → w.from + n ≤ reach w.frame src
    → Keeps src old (old ++ copy_of w n ∷ []) f g
copy_keeps f g src old w n s h live some ends =
    let v : List Window = copy_of w n ∷ [] in
    let both : Stands f old = stands_second f src old s in
    record {
      reservation = h.reserved;
      counts = λ q. elim (cases_eq q w.frame) [
        | inl d ↦ let more : g.count q ≡ f.count q + 1 = ap g.count d ∙ (h.shared ∙ ap (λ (k : ℕ). f.count k + 1) (sym d)) in
            omega (arith, more, named-append q old v, own q (copy_of w n) (sym d))
        | inr d ↦ omega (arith, h.counts q d, named-append q old v, other q (copy_of w n) (λ z. d (sym z)))
      ];
      total = omega (arith, h.shares, length-append old v);
      contents = λ q a b. ap (take (limit q old)) (h.bytes q a);
      opened = λ q a. omega (arith, opens-append q old v, closed q (copy_of w n) refl);
      reached = λ q a o. omega (arith, reach-append q old v, copy_reach q src w n ends);
      limits = λ q a. omega (arith, limit-append q old v, limit_le q old, closed q (copy_of w n) refl);
      within = λ q. omega (arith, reach-append q old v, copy_reach q src w n ends, both.within q, (stands_first f src old s).within q);
      single = λ q. omega (arith, opens-append q old v, closed q (copy_of w n) refl, both.single q);
      apart = λ q. omega (
        arith,
        reach-append q old v,
        limit-append q old v,
        limit_le q old,
        closed q (copy_of w n) refl,
        copy_reach q src w n ends,
        both.apart q,
        (reach_first f src old s q).1,
      );
      some = NoEmpty-append old v both.some (some, tt);
    }

copy_one : (f g : Live) (src old : List Window) (w : Window) (n : ℕ) → Stands f (src ++ old) → Shares f g w.frame → 0 < f.count w.frame → 0 < n → w.from + n ≤ reach w.frame src
    → Copies n src old (old ++ copy_of w n ∷ []) f g
copy_one f g src old w n s h live some ends = record {
  keeps = copy_keeps f g src old w n s h live some ends;
  more = λ q. elim (cases_eq q w.frame) [
    | inl d ↦ let more : g.count q ≡ f.count q + 1 = ap g.count d ∙ (h.shared ∙ ap (λ (k : ℕ). f.count k + 1) (sym d)) in omega (arith, more)
    | inr d ↦ omega (arith, h.counts q d)
  ];
  live = λ q a. elim (cases_eq q w.frame) [
    | inl d ↦ subst (λ (k : ℕ). 0 < f.count k) (sym d) live
    | inr d ↦ omega (arith, a, h.counts q d)
  ];
  same = λ q a. h.bytes q a;
  held = h.held;
  bytes = omega (arith, bytes_in-append old (copy_of w n ∷ []));
}

copies_nothing : (f : Live) (src old : List Window) → Stands f old → Copies 0 src old old f f
copies_nothing f src old s = record {
  keeps = keeps_same f src old s;
  more = λ q. omega arith;
  live = λ q a. a;
  same = λ q a. refl;
  held = refl;
  bytes = omega arith;
}

copies_then : (f g h : Live) (src old mid new : List Window) (m n : ℕ) → Copies m src old mid f g → Copies n src mid new g h → Copies (m + n) src old new f h
copies_then f g h src old mid new m n c d = record {
  keeps = keeps_then f g h src old mid new c.more c.keeps d.keeps;
  more = λ q. omega (arith, c.more q, d.more q);
  live = λ q a. c.live q (d.live q a);
  same = λ q a. d.same q (omega (arith, a, c.more q)) ∙ c.same q a;
  held = d.held ∙ c.held;
  bytes = omega (arith, c.bytes, d.bytes);
}

drop_reach : (q n : ℕ) (ws : List Window) → reach q (drop n ws) ≤ reach q ws
drop_reach q zero ws = omega arith
drop_reach q (suc n) [] = omega arith
drop_reach q (suc n) (w ∷ ws) = omega (arith, drop_reach q n ws, reach_tail q w ws)

stands_drop : (f : Live) (n : ℕ) (ws : List Window) → Stands f ws → Stands f (drop n ws)
stands_drop f zero ws s = s
stands_drop f (suc n) [] s = s
stands_drop f (suc n) (w ∷ ws) s = stands_drop f n ws (stands_rest f w ws s)

-- what is known of the window at a place of src
pub record Source (f : Live) (src : List Window) (place : ℕ) (w : Window) : Type 0 where
  pub split : drop place src ≡ w ∷ drop (place + 1) src
  pub some : 0 < w.len
  pub live : 0 < f.count w.frame
  pub ends : w.from + w.len ≤ reach w.frame src
  pub size : length (segment_of f w).bytes ≡ w.len

pub is_source : (f : Live) (src : List Window) (place : ℕ) (w : Window) → IsSound f → Stands f src → place < length src → w ≡ get_or src place w → Source f src place w
is_source f src place w sound s l h =
    let at : get_or src place w ≡ get_or (drop place src) 0 w = ap (λ (k : ℕ). get_or src k w) (omega arith) ∙ sym (get_or-drop place src 0 w) in
    let first : First f (drop place src) w = is_first f (drop place src) w sound (stands_drop f place src s) (omega (arith, l, length-drop place src)) (h ∙ at) in
    let next : drop 1 (drop place src) ≡ drop (place + 1) src = drop-drop 1 place src in
    let far : w.from + w.len ≤ reach w.frame (drop place src) = subst (λ (ws : List Window). w.from + w.len ≤ reach w.frame ws) (sym first.split) (reach_here w (drop 1 (drop place src))).1 in
    record {
      split = first.split ∙ ap (λ (ws : List Window). w ∷ ws) next;
      some = first.stands.some.0;
      live = first.live;
      ends = omega (arith, far, drop_reach w.frame place src);
      size = window_whole f w (drop 1 (drop place src)) sound first.stands;
    }

-- copying that has come to this place of src, with so many bytes done; target: the segments after it
pub record Sharing (f0 f : Live) (src ws0 ws : List Window) (slots n place done : ℕ) (target : List Segment) : Type 0 where
  pub number : length ws ≡ length ws0 + place
  pub within : done ≤ n
  pub copies : Copies done src ws0 ws f0 f
  pub stands : Stands f (src ++ ws)
  pub segments : shown f ws ++ copied (slots - length ws) (n - done) (shown f0 (drop place src)) ≡ target

pub sharing_none : (f : Live) (src ws : List Window) (slots n used : ℕ) → Stands f (src ++ ws) → used ≡ length ws → Sharing f f src ws ws slots n 0 0 (shown f ws ++ copied (slots - used) n (shown f src))
sharing_none f src ws slots n used s e = record {
  number = omega arith;
  within = omega arith;
  copies = copies_nothing f src ws (stands_second f src ws s);
  stands = s;
  segments =
      let slot : slots - length ws ≡ slots - used = omega (arith, e) in
      let all : n - 0 ≡ n = omega arith in
      λ i. shown f ws ++ copied (slot i) (all i) (shown f src);
}

-- the first bytes of a segment that a copy shows
pub copy_segment : (f0 g : Live) (w : Window) (m n : ℕ) → length (segment_of f0 w).bytes ≡ w.len → g.bytes w.frame ≡ f0.bytes w.frame → n ≡ min w.len m → segment_of g (copy_of w n) ≡ record { bytes = take m (segment_of f0 w).bytes; room = 0 }
copy_segment f0 g w m n size same least =
    let swap : n ≡ min m (length (segment_of f0 w).bytes) = omega (arith, size, least) in
    let front : take n (take w.len (drop w.from (f0.bytes w.frame))) ≡ take n (drop w.from (f0.bytes w.frame)) = take-take n w.len (drop w.from (f0.bytes w.frame)) (omega (arith, least)) in
    same_segment _ _
    (ap (λ (b : List ℕ). take n (drop w.from b)) same ∙ (sym front ∙ (ap (λ (k : ℕ). take k (segment_of f0 w).bytes) swap ∙ take_min m (segment_of f0 w).bytes)))
    refl

pub sharing_more : (f0 f g : Live) (src ws0 ws new : List Window) (slots n place done m : ℕ) (target : List Segment) (w : Window) → IsSound f0 → Stands f0 src → Sharing f0 f src ws0 ws slots n place done target
    → place < length src → length ws < slots → done < n → w ≡ get_or src place w → m ≡ min w.len (n - done) → Shares f g w.frame → new ≡ ws ++ copy_of w m ∷ []
    → Sharing f0 g src ws0 new slots n (place + 1) (done + m) target
sharing_more f0 f g src ws0 ws new slots n place done m target w sound stood a here free left h least shares is =
    let at : Source f0 src place w = is_source f0 src place w sound stood here h in
    let s : Segment = segment_of f0 w in
    let v : Window = copy_of w m in
    let live : 0 < f.count w.frame = omega (arith, at.live, a.copies.more w.frame) in
    let ends : w.from + m ≤ reach w.frame src = omega (arith, at.ends, least) in
    let one : Copies m src ws (ws ++ v ∷ []) f g = copy_one f g src ws w m a.stands shares live (omega (arith, at.some, least, left)) ends in
    let size : length (ws ++ v ∷ []) ≡ length ws + 1 = omega (arith, length-append ws (v ∷ [])) in
    let stay : shown g ws ≡ shown f ws = segments_same f g ws (λ q named. shares.bytes q (omega (arith, named, (stands_second f src ws a.stands).counted q))) in
    let bytes : g.bytes w.frame ≡ f0.bytes w.frame = shares.bytes w.frame live ∙ a.copies.same w.frame at.live in
    let put : segment_of g v ≡ record { bytes = take (n - done) s.bytes; room = 0 } = copy_segment f0 g w (n - done) m at.size bytes least in
    let step : copied (slots - length ws) (n - done) (shown f0 (drop place src)) ≡ record { bytes = take (n - done) s.bytes; room = 0 } ∷ copied (slots - length ws - 1) (n - done - length s.bytes) (shown f0 (drop (place + 1) src)) =
    ap (λ (us : List Window). copied (slots - length ws) (n - done) (shown f0 us)) at.split ∙ copied_step (slots - length ws) (n - done) s (shown f0 (drop (place + 1) src)) (omega (arith, free)) (omega (arith, left)) in
    let slot : slots - length (ws ++ v ∷ []) ≡ slots - length ws - 1 = omega (arith, size) in
    let rest : n - (done + m) ≡ n - done - length s.bytes = omega (arith, at.size, least) in
    let tail : segment_of g v ∷ copied (slots - length (ws ++ v ∷ [])) (n - (done + m)) (shown f0 (drop (place + 1) src)) ≡ copied (slots - length ws) (n - done) (shown f0 (drop place src)) =
    (λ i. put i ∷ copied (slot i) (rest i) (shown f0 (drop (place + 1) src))) ∙ sym step in
    subst (λ (us : List Window). Sharing f0 g src ws0 us slots n (place + 1) (done + m) target) (sym is)
    (record {
      number = omega (arith, size, a.number);
      within = omega (arith, least, left);
      copies = copies_then f0 f g src ws0 ws (ws ++ v ∷ []) done m a.copies one;
      stands = both_stand f g src ws (ws ++ v ∷ []) a.stands one.keeps;
      segments = ap (λ (us : List Segment). us ++ copied (slots - length (ws ++ v ∷ [])) (n - (done + m)) (shown f0 (drop (place + 1) src))) (map-append (segment_of g) ws (v ∷ []) ∙ ap (λ (us : List Segment). us ++ segment_of g v ∷ []) stay)
          ∙ (append_assoc (shown f ws) (segment_of g v ∷ []) (copied (slots - length (ws ++ v ∷ [])) (n - (done + m)) (shown f0 (drop (place + 1) src)))
          ∙ (ap (λ (us : List Segment). shown f ws ++ us) tail ∙ a.segments));
    })

-- copying that is at its end: no byte is left to copy, no slot, or no window
pub sharing_end : (f0 f : Live) (src ws0 ws : List Window) (slots n place done : ℕ) (target : List Segment) → Sharing f0 f src ws0 ws slots n place done target
    → (n ≡ done) ⊎ ((slots ≤ length ws) ⊎ (length src ≤ place)) → shown f ws ≡ target
sharing_end f0 f src ws0 ws slots n place done target a end =
    let none : copied (slots - length ws) (n - done) (shown f0 (drop place src)) ≡ [] = elim end [
      | inl e ↦ let left : n - done ≡ 0 = omega (arith, e) in ap (λ (k : ℕ). copied (slots - length ws) k (shown f0 (drop place src))) left ∙ copied_no_byte (slots - length ws) (shown f0 (drop place src))
      | inr r ↦ elim r [
        | inl e ↦ let free : slots - length ws ≡ 0 = omega (arith, e) in ap (λ (k : ℕ). copied k (n - done) (shown f0 (drop place src))) free ∙ copied_no_slot (n - done) (shown f0 (drop place src))
        | inr e ↦ ap (λ (us : List Window). copied (slots - length ws) (n - done) (shown f0 us)) (drop_all place src e) ∙ copied_no_segment (slots - length ws) (n - done)
      ]
    ] in
    sym (append-nil (shown f ws)) ∙ (ap (λ (us : List Segment). shown f ws ++ us) (sym none) ∙ a.segments)

-- no slot is left, or no window
pub all_or_full : (src ws0 ws slots place : ℕ) → ws ≡ ws0 + place → min src (slots - ws0) ≤ place → (slots ≤ ws) ⊎ (src ≤ place)
all_or_full src ws0 ws slots place e most = elim (cases_lt ws slots) [
  | inl l ↦ inr (omega (arith, e, most, l))
  | inr full ↦ inl full
]

-- a ring that gets windows on the first bytes of another shows them, and this is their number
pub gets : (f g : Live) (source sink source' sink' : Ring) (new : List Window) (used n m : ℕ)
    → source ≡ source' → sink ≡ sink' → IsSound f → IsSound g → Stands f (source'.segments ++ sink'.segments)
    → (Stands f (source.segments ++ sink.segments) → Stands g new) → used ≡ length sink.segments
    → length new ≤ sink.capacity → bytes_in new ≡ bytes_in sink.segments + m
    → shown g new ≡ shown f sink.segments ++ copied (sink.capacity - used) n (shown f source.segments)
    → Gets f g source' sink' (record { capacity = sink.capacity; segments = new }) n m
gets f g source sink source' sink' new used n m source_is sink_is before after s stand e fits bytes shows =
    let both : Stands f (source.segments ++ sink.segments) =
    subst (λ (r : Ring). Stands f (r.segments ++ sink.segments)) (sym source_is)
    (subst (λ (r : Ring). Stands f (source'.segments ++ r.segments)) (sym sink_is) s) in
    let old : List Segment = shown f sink.segments in
    let free : sink.capacity - used ≡ free_of (queue_of f sink) =
    omega (arith, e, length-map sink.segments (segment_of f)) in
    let put : List Segment = copied (free_of (queue_of f sink)) n (shown f source.segments) in
    let now : shown g new ≡ old ++ put =
    shows ∙ ap (λ (k : ℕ). old ++ copied k n (shown f source.segments)) free in
    let all : length (joined (shown g new)) ≡ length (joined old ++ joined put) =
    ap (λ (ss : List Segment). length (joined ss)) now ∙ ap (λ (b : List ℕ). length b) (joined-append old put) in
    let number : m ≡ length (joined put) =
    omega (
      arith,
      bytes,
      all,
      length-append (joined old) (joined put),
      segments_length f sink.segments before (stands_second f source.segments sink.segments both),
      segments_length g new after (stand both),
    ) in
    record {
      number_is = number ∙ (λ i. tee_number (queue_of f (source_is i)) (queue_of f (sink_is i)) n);
      put = record {
        capacity = ap (λ (r : Ring). r.capacity) sink_is;
        fits = fits;
        queue = (λ i. record { capacity = sink.capacity; segments = now i })
            ∙ (λ i. after_tee (queue_of f (source_is i)) (queue_of f (sink_is i)) n);
      };
    }

-- windows that came stand, once the source has lost what they show
pub moves_stand : (f g : Live) (src src' old new : List Window) → Stands f (src ++ old) → Moves src src' old new f g → Stands g new
moves_stand f g src src' old new s m =
    let both : Stands m.between (src ++ new) = both_stand f m.between src old new s m.copied in
    record {
      counted = λ q. omega (arith, both.counted q, named-append q src new, m.dropped.counts q);
      within = m.copied.within;
      single = m.copied.single;
      apart = m.copied.apart;
      some = m.copied.some;
    }

-- the source shows what it showed
pub source_shows : (f g : Live) (r : Ring) → Stands f r.segments → ((q : ℕ) → 0 < f.count q → g.bytes q ≡ f.bytes q) → queue_of g r ≡ queue_of f r
source_shows f g r s same =
    let stay : shown g r.segments ≡ shown f r.segments = segments_same f g r.segments (λ q named. same q (omega (arith, named, s.counted q))) in
    λ i. record { capacity = r.capacity; segments = stay i }
