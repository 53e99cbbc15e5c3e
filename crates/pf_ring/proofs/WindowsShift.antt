-- Windows whose bytes go to the end of another ring's windows: one, and as many as a loop moves.

use Rattle.std.proofs.Common.{◌≡◌, ◌⊎◌, ℕ, ◌+◌, ◌-◌, ◌<◌, ◌≤◌, min, max, List, ◌∷◌, ◌++◌, length, get_or, drop, take, set, refl, sym, ◌∙◌, ap, subst, inl, inr, append_assoc, arith, []}
use Rattle.std.proofs.lemmas.Bool.{cases_eq, cases_lt}
use Rattle.std.proofs.lemmas.Bool.Decides.{nat_tests}
use Rattle.std.proofs.lemmas.List.{map-append, append-nil, length-append, nil_from_length}
use Rattle.pf_machine.specs.Queue.{Segment, copied, without_front}
use Rattle.pf_frame.specs.Live.{Live, IsSound, Shares}
use Rattle.pf_ring.specs.declared.ring.Window.{Window}
use Rattle.pf_ring.specs.Ring.{segment_of, shown}
use Rattle.pf_ring.specs.Steps.{Shifts}
use Rattle.pf_ring.specs.Windows.{named, reach, opens, limit, NoEmpty, bytes_in, Stands, Keeps, Drops}
use Rattle.pf_ring.proofs.WindowLaws.{named-append, opens-append, reach-append, limit-append, limit_le, NoEmpty-append, bytes_in-append, reach_here, named_tail, opens_tail, reach_tail, limit_tail, segments_same, window_whole, stands_first, stands_second, reach_first, drops_keep}
use Rattle.pf_ring.proofs.Changes.{First, is_first, own, other, shorter, cut_reach, cut_limit}
use Rattle.pf_ring.proofs.WindowsShare.{copy_of, closed, copy_reach, copy_segment}
use Rattle.pf_ring.proofs.Queues.{copied_step, copied_no_slot, copied_no_byte, copied_no_segment, without_more}
use Rattle.pf_ring.proofs.Segments.{without_none, cut_segments, gone_segments}

-- windows with no room, on the frames of the windows src and within them, stand at the end of the windows old
pub record Put (src old new : List Window) (n : ℕ) : Type 0 where
  pub opened : (q : ℕ) → opens q new ≡ opens q old
  pub limits : (q : ℕ) → limit q new ≡ limit q old
  pub reached : (q : ℕ) → reach q new ≤ max (reach q old) (reach q src)
  pub some : NoEmpty new
  pub bytes : bytes_in new ≡ bytes_in old + n

put_more : (src old new : List Window) (n m : ℕ) (w : Window) → Put src old new n → 0 < m → w.from + m ≤ reach w.frame src → Put src old (new ++ copy_of w m ∷ []) (n + m)
put_more src old new n m w p some ends =
    let v : List Window = copy_of w m ∷ [] in
    record {
      opened = λ q. omega (arith, opens-append q new v, closed q (copy_of w m) refl, p.opened q);
      limits = λ q. omega (arith, limit-append q new v, limit_le q new, closed q (copy_of w m) refl, p.limits q);
      reached = λ q. omega (arith, reach-append q new v, copy_reach q src w m ends, p.reached q);
      some = NoEmpty-append new v p.some (some, tt);
      bytes = omega (arith, bytes_in-append new v, p.bytes);
    }

-- how often windows name a frame, by the first of them
named_here : (q : ℕ) (w : Window) (ws : List Window) → w.frame ≡ q → named q (w ∷ ws) ≡ named q ws + 1
named_here q w ws e = grind (arith, nat_tests)

named_there : (q : ℕ) (w : Window) (ws : List Window) → (w.frame ≡ q → ⊥) → named q (w ∷ ws) ≡ named q ws
named_there q w ws d = grind (arith, nat_tests)

named_cut : (q : ℕ) (w : Window) (ws : List Window) (n : ℕ) → named q (shorter w n ∷ ws) ≡ named q (w ∷ ws)
named_cut q w ws n = refl

-- what is left of the windows src
pub record Less (src src' : List Window) (n : ℕ) : Type 0 where
  pub used : length src' ≤ length src
  pub fewer : (q : ℕ) → named q src' ≤ named q src
  pub opened : (q : ℕ) → opens q src' ≤ opens q src
  pub reached : (q : ℕ) → reach q src' ≤ reach q src
  pub limits : (q : ℕ) → limit q src ≤ limit q src'
  pub some : NoEmpty src'
  pub bytes : bytes_in src' + n ≡ bytes_in src

less_stands : (f : Live) (src src' : List Window) (n : ℕ) → Stands f src → Less src src' n → Stands f src'
less_stands f src src' n s l = record {
  counted = λ q. omega (arith, s.counted q, l.fewer q);
  within = λ q. omega (arith, s.within q, l.reached q);
  single = λ q. omega (arith, s.single q, l.opened q);
  apart = λ q. omega (arith, s.apart q, l.reached q, l.limits q);
  some = l.some;
}

less_then : (src mid new : List Window) (n m : ℕ) → Less src mid n → Less mid new m → Less src new (n + m)
less_then src mid new n m k l = record {
  used = omega (arith, k.used, l.used);
  fewer = λ q. omega (arith, k.fewer q, l.fewer q);
  opened = λ q. omega (arith, k.opened q, l.opened q);
  reached = λ q. omega (arith, k.reached q, l.reached q);
  limits = λ q. omega (arith, k.limits q, l.limits q);
  some = l.some;
  bytes = omega (arith, k.bytes, l.bytes);
}

-- the first window goes, or is cut
less_gone : (w : Window) (ws : List Window) → NoEmpty (w ∷ ws) → Less (w ∷ ws) ws w.len
less_gone w ws s = record {
  used = omega arith;
  fewer = λ q. named_tail q w ws;
  opened = λ q. opens_tail q w ws;
  reached = λ q. reach_tail q w ws;
  limits = λ q. limit_tail q w ws;
  some = s.1;
  bytes = omega arith;
}

less_cut : (w : Window) (ws : List Window) (n : ℕ) → NoEmpty (w ∷ ws) → n < w.len → Less (w ∷ ws) (shorter w n ∷ ws) n
less_cut w ws n s l = record {
  used = omega arith;
  fewer = λ q. omega arith;
  opened = λ q. omega arith;
  reached = λ q. cut_reach q w ws n l;
  limits = λ q. cut_limit q w ws n l;
  some = (omega (arith, l), s.1);
  bytes = omega (arith, l);
}

-- moving that has come so far; f is what the frames were at its beginning. target: the sink's segments after it
pub record Shifting (f g : Live) (src0 src ws0 ws : List Window) (slots n place done : ℕ) (target : List Segment) : Type 0 where
  pub number : length ws ≡ length ws0 + place
  pub left : length src0 ≤ length src + place
  pub gone : done < n → length src + place ≤ length src0
  pub within : done ≤ n
  pub put : Put src0 ws0 ws done
  pub less : Less src0 src done
  pub reserved : g.reserved ≡ f.reserved
  pub held : g.held ≡ f.held
  pub counts : (q : ℕ) → g.count q + (named q src0 + named q ws0) ≡ f.count q + (named q src + named q ws)
  pub total : g.shares + (length src0 + length ws0) ≡ f.shares + (length src + length ws)
  pub lives : (q : ℕ) → 0 < f.count q → 0 < g.count q
  pub lived : (q : ℕ) → 0 < g.count q → 0 < f.count q
  pub same : (q : ℕ) → 0 < f.count q → g.bytes q ≡ f.bytes q
  pub segments : shown f ws ++ copied (slots - length ws) (n - done) (shown f src) ≡ target
  pub source : shown f src ≡ without_front done (shown f src0)

pub shifting_none : (f : Live) (src ws : List Window) (slots n used : ℕ) → IsSound f → Stands f (src ++ ws) → used ≡ length ws → Shifting f f src src ws ws slots n 0 0 (shown f ws ++ copied (slots - used) n (shown f src))
shifting_none f src ws slots n used sound s e = record {
  number = omega arith;
  left = omega arith;
  gone = λ _. omega arith;
  within = omega arith;
  put = record { opened = λ q. refl; limits = λ q. refl; reached = λ q. omega arith; some = (stands_second f src ws s).some; bytes = omega arith };
  less = record { used = omega arith; fewer = λ q. omega arith; opened = λ q. omega arith; reached = λ q. omega arith; limits = λ q. omega arith; some = (stands_first f src ws s).some; bytes = omega arith };
  reserved = refl;
  held = refl;
  counts = λ q. refl;
  total = refl;
  lives = λ q a. a;
  lived = λ q a. a;
  same = λ q a. refl;
  segments =
      let slot : slots - length ws ≡ slots - used = omega (arith, e) in
      let all : n - 0 ≡ n = omega arith in
      λ i. shown f ws ++ copied (slot i) (all i) (shown f src);
  source = sym (without_none f src sound (stands_first f src ws s));
}

-- what is known of the first window that is left
module _ (f g : Live) (src0 src ws0 ws : List Window) (slots n place done : ℕ) (target : List Segment) (w : Window) (sound : IsSound f) (both : Stands f (src0 ++ ws0)) (a : Shifting f g src0 src ws0 ws slots n place done target)
    (here : place < length src0) (is : w ≡ get_or src 0 w) where
  stood : Stands f src
  stood = less_stands f src0 src done (stands_first f src0 ws0 both) a.less

  pub first : First f src w
  first = is_first f src w sound stood (omega (arith, here, a.left)) is

  abbrev rest : List Window
  rest = drop 1 src

  ends : w.from + w.len ≤ reach w.frame src0
  ends = omega (arith, a.less.reached w.frame, (reach_here w rest).1, ap (reach w.frame) first.split)

  size : length (segment_of f w).bytes ≡ w.len
  size = window_whole f w rest sound first.stands

  pub live_now : 0 < g.count w.frame
  live_now = a.lives w.frame first.live

  -- the segments after a window more
  module _ (m : ℕ) (least : m ≡ min w.len (n - done)) (free : length ws < slots) (more : done < n) (src' : List Window) (tail : copied (slots - (length ws + 1)) (n - (done + m)) (shown f src') ≡ copied (slots - length ws - 1) (n - done - w.len) (shown f rest)) where
    abbrev new : List Window
    new = ws ++ copy_of w m ∷ []

    pub now_length : length new ≡ length ws + 1
    now_length = omega (arith, length-append ws (copy_of w m ∷ []))

    now_segments : shown f new ++ copied (slots - length new) (n - (done + m)) (shown f src') ≡ target
    now_segments =
        let s : Segment = segment_of f w in
        let put : segment_of f (copy_of w m) ≡ record { bytes = take (n - done) s.bytes; room = 0 } = copy_segment f f w (n - done) m size refl least in
        let step : copied (slots - length ws) (n - done) (shown f src) ≡ record { bytes = take (n - done) s.bytes; room = 0 } ∷ copied (slots - length ws - 1) (n - done - length s.bytes) (shown f rest) =
        ap (λ (us : List Window). copied (slots - length ws) (n - done) (shown f us)) first.split ∙ copied_step (slots - length ws) (n - done) s (shown f rest) (omega (arith, free)) (omega (arith, more)) in
        let end : copied (slots - length new) (n - (done + m)) (shown f src') ≡ copied (slots - length ws - 1) (n - done - length s.bytes) (shown f rest) =
        ap (λ (k : ℕ). copied (slots - k) (n - (done + m)) (shown f src')) now_length ∙ tail ∙ ap (λ (k : ℕ). copied (slots - length ws - 1) (n - done - k) (shown f rest)) (sym size) in
        ap (λ (us : List Segment). us ++ copied (slots - length new) (n - (done + m)) (shown f src')) (map-append (segment_of f) ws (copy_of w m ∷ []))
        ∙ (append_assoc (shown f ws) (segment_of f (copy_of w m) ∷ []) (copied (slots - length new) (n - (done + m)) (shown f src'))
        ∙ (ap (λ (us : List Segment). shown f ws ++ us) ((λ i. put i ∷ end i) ∙ sym step) ∙ a.segments))

    now_named : (q : ℕ) → named q new ≡ named q ws + named q (copy_of w m ∷ [])
    now_named q = named-append q ws (copy_of w m ∷ [])

  -- a window goes whole
  pub shifting_whole : (m : ℕ) (src' new' : List Window) → m ≡ min w.len (n - done) → w.len ≤ m → length ws < slots → done < n → src' ≡ drop 1 src → new' ≡ ws ++ copy_of w m ∷ []
      → Shifting f g src0 src' ws0 new' slots n (place + 1) (done + m) target
  shifting_whole m src' new' least all free more gone is_new =
      let whole : m ≡ w.len = omega (arith, least, all) in
      let tail : copied (slots - (length ws + 1)) (n - (done + m)) (shown f rest) ≡ copied (slots - length ws - 1) (n - done - w.len) (shown f rest) =
      (let one : slots - (length ws + 1) ≡ slots - length ws - 1 = omega (arith, free) in let two : n - (done + m) ≡ n - done - w.len = omega (arith, whole) in λ i. copied (one i) (two i) (shown f rest)) in
      let now : Less src0 rest (done + m) =
      less_then src0 src rest done m a.less (subst (λ (k : ℕ). Less src rest k) (sym whole) (subst (λ (us : List Window). Less us rest w.len) (sym first.split) (less_gone w rest first.stands.some))) in
      let count : (q : ℕ) → named q src ≡ named q (w ∷ rest) = λ q. ap (named q) first.split in
      let many : length src ≡ length rest + 1 = ap (λ (us : List Window). length us) first.split ∙ omega arith in
      subst (λ (us : List Window). Shifting f g src0 us ws0 new' slots n (place + 1) (done + m) target) (sym gone)
      (subst (λ (us : List Window). Shifting f g src0 rest ws0 us slots n (place + 1) (done + m) target) (sym is_new)
      (record {
        number = omega (arith, now_length m least free more rest tail, a.number);
        left = omega (arith, a.left, many);
        gone = λ _. omega (arith, a.gone more, many);
        within = omega (arith, least, more);
        put = put_more src0 ws0 ws done m w a.put (omega (arith, whole, first.stands.some.0)) (omega (arith, ends, whole));
        less = now;
        reserved = a.reserved;
        held = a.held;
        counts = λ q. elim (cases_eq w.frame q) [
          | inl e ↦ omega (arith, a.counts q, count q, now_named m least free more rest tail q, own q (copy_of w m) e, named_here q w rest e)
          | inr d ↦ omega (arith, a.counts q, count q, now_named m least free more rest tail q, other q (copy_of w m) d, named_there q w rest d)
        ];
        total = omega (arith, a.total, many, now_length m least free more rest tail);
        lives = a.lives;
        lived = a.lived;
        same = a.same;
        segments = now_segments m least free more rest tail;
        source = gone_segments f w rest w.len sound first.stands refl
            ∙ ap (λ (us : List Window). without_front w.len (shown f us)) (sym first.split)
            ∙ (ap (without_front w.len) a.source ∙ without_more done w.len (shown f src0) ∙ ap (λ (k : ℕ). without_front (done + k) (shown f src0)) (sym whole));
      }))

  -- a window is cut: its frame is counted once more
  pub shifting_cut : (h : Live) (m : ℕ) (src' new' : List Window) → m ≡ min w.len (n - done) → m < w.len → length ws < slots → done < n → Shares g h w.frame → src' ≡ shorter w m ∷ drop 1 src → new' ≡ ws ++ copy_of w m ∷ []
      → Shifting f h src0 src' ws0 new' slots n (place + 1) (done + m) target
  shifting_cut h m src' new' least part free more shares gone is_new =
      let none : n - (done + m) ≡ 0 = omega (arith, least, part) in
      let over : n - done - w.len ≡ 0 = omega (arith, least, part) in
      let tail : copied (slots - (length ws + 1)) (n - (done + m)) (shown f (shorter w m ∷ rest)) ≡ copied (slots - length ws - 1) (n - done - w.len) (shown f rest) =
      (ap (λ (k : ℕ). copied (slots - (length ws + 1)) k (shown f (shorter w m ∷ rest))) none ∙ copied_no_byte (slots - (length ws + 1)) (shown f (shorter w m ∷ rest)))
      ∙ sym (ap (λ (k : ℕ). copied (slots - length ws - 1) k (shown f rest)) over ∙ copied_no_byte (slots - length ws - 1) (shown f rest)) in
      let now : Less src0 (shorter w m ∷ rest) (done + m) =
      less_then src0 src (shorter w m ∷ rest) done m a.less (subst (λ (us : List Window). Less us (shorter w m ∷ rest) m) (sym first.split) (less_cut w rest m first.stands.some part)) in
      let count : (q : ℕ) → named q src ≡ named q (w ∷ rest) = λ q. ap (named q) first.split in
      let many : length src ≡ length rest + 1 = ap (λ (us : List Window). length us) first.split ∙ omega arith in
      subst (λ (us : List Window). Shifting f h src0 us ws0 new' slots n (place + 1) (done + m) target) (sym gone)
      (subst (λ (us : List Window). Shifting f h src0 (shorter w m ∷ rest) ws0 us slots n (place + 1) (done + m) target) (sym is_new)
      (record {
        number = omega (arith, now_length m least free more (shorter w m ∷ rest) tail, a.number);
        left = omega (arith, a.left, many);
        gone = λ still. absurd (omega (arith, least, part, still));
        within = omega (arith, least, more);
        put = put_more src0 ws0 ws done m w a.put (omega (arith, least, more, first.stands.some.0)) (omega (arith, ends, part));
        less = now;
        reserved = shares.reserved ∙ a.reserved;
        held = shares.held ∙ a.held;
        counts = λ q. elim (cases_eq q w.frame) [
          | inl e ↦
              let one : h.count q ≡ g.count q + 1 = ap h.count e ∙ (shares.shared ∙ ap (λ (k : ℕ). g.count k + 1) (sym e)) in
              omega (arith, a.counts q, count q, one, now_named m least free more (shorter w m ∷ rest) tail q, own q (copy_of w m) (sym e), named_cut q w rest m)
          | inr d ↦ omega (arith, a.counts q, count q, shares.counts q d, now_named m least free more (shorter w m ∷ rest) tail q, other q (copy_of w m) (λ z. d (sym z)), named_cut q w rest m)
        ];
        total = omega (arith, a.total, many, shares.shares, now_length m least free more (shorter w m ∷ rest) tail);
        lives = λ q b. elim (cases_eq q w.frame) [
          | inl e ↦ let one : h.count q ≡ g.count q + 1 = ap h.count e ∙ (shares.shared ∙ ap (λ (k : ℕ). g.count k + 1) (sym e)) in omega (arith, one)
          | inr d ↦ omega (arith, a.lives q b, shares.counts q d)
        ];
        lived = λ q b. elim (cases_eq q w.frame) [
          | inl e ↦ subst (λ (k : ℕ). 0 < f.count k) (sym e) first.live
          | inr d ↦ a.lived q (omega (arith, b, shares.counts q d))
        ];
        same = λ q b. shares.bytes q (a.lives q b) ∙ a.same q b;
        segments = now_segments m least free more (shorter w m ∷ rest) tail;
        source = cut_segments f w rest m sound first.stands part
            ∙ ap (λ (us : List Window). without_front m (shown f us)) (sym first.split)
            ∙ (ap (without_front m) a.source ∙ without_more done m (shown f src0));
      }))

-- moving that is at its end
pub shifting_end : (f g : Live) (src0 src ws0 ws : List Window) (slots n place done : ℕ) (target : List Segment) → Shifting f g src0 src ws0 ws slots n place done target
    → (n ≡ done) ⊎ ((slots ≤ length ws) ⊎ (length src ≡ 0)) → shown f ws ≡ target
shifting_end f g src0 src ws0 ws slots n place done target a end =
    let none : copied (slots - length ws) (n - done) (shown f src) ≡ [] = elim end [
      | inl e ↦ let left : n - done ≡ 0 = omega (arith, e) in ap (λ (k : ℕ). copied (slots - length ws) k (shown f src)) left ∙ copied_no_byte (slots - length ws) (shown f src)
      | inr r ↦ elim r [
        | inl e ↦ let free : slots - length ws ≡ 0 = omega (arith, e) in ap (λ (k : ℕ). copied k (n - done) (shown f src)) free ∙ copied_no_slot (n - done) (shown f src)
        | inr e ↦ ap (λ (us : List Window). copied (slots - length ws) (n - done) (shown f us)) (nil_from_length src e) ∙ copied_no_segment (slots - length ws) (n - done)
      ]
    ] in
    sym (append-nil (shown f ws)) ∙ (ap (λ (us : List Segment). shown f ws ++ us) (sym none) ∙ a.segments)

-- what it comes to
module _ (f g : Live) (src0 src ws0 ws : List Window) (slots n place done : ℕ) (target : List Segment) (both : Stands f (src0 ++ ws0)) (a : Shifting f g src0 src ws0 ws slots n place done target) where
  sources : Stands f src0
  sources = stands_first f src0 ws0 both

  sinks : Stands f ws0
  sinks = stands_second f src0 ws0 both

  -- the frames as they would be with all windows put and none dropped
  abbrev middle : Live
  middle = record { reserved = f.reserved; held = f.held; shares = f.shares + length ws - length ws0; count = λ q. f.count q + named q ws - named q ws0; bytes = f.bytes }

  put_keeps : Keeps src0 ws0 ws f middle
  put_keeps = record {
    reservation = refl;
    counts = λ q. omega (arith, sinks.counted q);
    total = omega (arith, a.number);
    contents = λ q x y. refl;
    opened = λ q x. omega (arith, a.put.opened q);
    reached = λ q x y. a.put.reached q;
    limits = λ q x. omega (arith, a.put.limits q);
    within = λ q. omega (arith, a.put.reached q, sinks.within q, sources.within q);
    single = λ q. omega (arith, a.put.opened q, sinks.single q);
    apart = λ q. omega (arith, a.put.reached q, a.put.limits q, sinks.apart q, (reach_first f src0 ws0 both q).1);
    some = a.put.some;
  }

  source_in_middle : Stands middle src0
  source_in_middle = record {
    counted = λ q. omega (arith, sources.counted q, sinks.counted q, both_counted q);
    within = sources.within;
    single = sources.single;
    apart = sources.apart;
    some = sources.some;
  }
    where
      both_counted : (q : ℕ) → named q src0 + named q ws0 ≤ f.count q
      both_counted q = omega (arith, both.counted q, named-append q src0 ws0)

  dropped : Drops src0 src middle g
  dropped = record {
    reservation = a.reserved;
    counts = λ q. omega (arith, a.counts q, sinks.counted q);
    total = omega (arith, a.total, a.number);
    contents = λ q x. a.same q (a.lived q x);
    held = omega (arith, a.held);
    used = a.less.used;
    fewer = a.less.fewer;
    opened = a.less.opened;
    reached = a.less.reached;
    limits = a.less.limits;
    some = a.less.some;
  }

  shows_same : (us : List Window) → ((q : ℕ) → 0 < named q us → 0 < f.count q) → shown g us ≡ shown f us
  shows_same us lives = segments_same f g us (λ q x. a.same q (lives q x))

  pub sink_shown : shown g ws ≡ shown f ws
  sink_shown = shows_same ws (λ q x. a.lived q (omega (arith, x, a.counts q, both.counted q, named-append q src0 ws0)))

  pub shifted : Shifts done src0 src ws0 ws f g
  shifted = record {
    moves = record { between = middle; copied = put_keeps; dropped = drops_keep middle g src0 src source_in_middle dropped };
    left = shows_same src (λ q x. omega (arith, x, a.less.fewer q, sources.counted q)) ∙ a.source;
    held = a.held;
    same = λ q x. a.same q (a.lived q x);
    bytes = a.put.bytes;
    rest = a.less.bytes;
    fewer = a.less.used;
  }

-- the first window with others in its place
pub set_first : (f : Live) (src : List Window) (w v : Window) → First f src w → set src 0 v ≡ v ∷ drop 1 src
set_first f src w v first = ap (λ (us : List Window). set us 0 v) first.split

-- no byte is left to move, no slot, or no window
pub moved_all : (f g : Live) (src0 src ws0 ws : List Window) (slots n place done : ℕ) (target : List Segment) → Shifting f g src0 src ws0 ws slots n place done target
    → min (length src0) (slots - length ws0) ≤ place → (n ≡ done) ⊎ ((slots ≤ length ws) ⊎ (length src ≡ 0))
moved_all f g src0 src ws0 ws slots n place done target a most = elim (cases_lt done n) [
  | inl more ↦ elim (cases_lt (length ws) slots) [
    | inl l ↦ inr (inr (omega (arith, a.number, a.gone more, most, l)))
    | inr full ↦ inr (inl full)
  ]
  | inr all ↦ inl (omega (arith, a.within, all))
]
