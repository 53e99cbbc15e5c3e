-- Laws of windows.

use Rattle.std.proofs.Common.{◌≡◌, ℕ, ◌+◌, ◌-◌, ◌*◌, ◌<◌, ◌≤◌, min, max, List, [], ◌∷◌, ◌++◌, length, map, take, drop, refl, sym, ◌∙◌, ap, subst, inl, inr, arith}
use Rattle.std.proofs.lemmas.List.{take-take, drop-drop, drop-take, length-take, length-drop, length-append}
use Rattle.std.proofs.lemmas.Bool.{cases_lt}
use Rattle.std.proofs.lemmas.Bool.Decides.{nat_tests}
use Rattle.pf_base.specs.declared.TheConstants.{PAGE_SIZE}
use Rattle.pf_machine.specs.Queue.{Segment, joined}
use Rattle.pf_frame.specs.Live.{Live, IsSound}
use Rattle.pf_ring.specs.declared.ring.Window.{Window}
use Rattle.pf_ring.specs.Ring.{segment_of, shown}
use Rattle.pf_ring.specs.Windows.{named, reach, opens, limit, NoEmpty, bytes_in, Stands, Keeps, PutsBehind, Drops}

pub named-append : (q : ℕ) (xs ys : List Window) → named q (xs ++ ys) ≡ named q xs + named q ys
named-append q [] ys = omega arith
named-append q (x ∷ xs) ys = grind (arith, nat_tests, named-append q xs ys)

pub opens-append : (q : ℕ) (xs ys : List Window) → opens q (xs ++ ys) ≡ opens q xs + opens q ys
opens-append q [] ys = omega arith
opens-append q (x ∷ xs) ys = grind (arith, nat_tests, opens-append q xs ys)

pub reach-append : (q : ℕ) (xs ys : List Window) → reach q (xs ++ ys) ≡ max (reach q xs) (reach q ys)
reach-append q [] ys = omega arith
reach-append q (x ∷ xs) ys = grind (arith, nat_tests, reach-append q xs ys)

pub limit_le : (q : ℕ) (ws : List Window) → limit q ws ≤ PAGE_SIZE
limit_le q [] = omega arith
limit_le q (w ∷ ws) = grind (arith, nat_tests, limit_le q ws)

pub limit-append : (q : ℕ) (xs ys : List Window) → limit q (xs ++ ys) ≡ min (limit q xs) (limit q ys)
limit-append q [] ys = omega (arith, limit_le q ys)
limit-append q (x ∷ xs) ys = grind (arith, nat_tests, limit-append q xs ys)

pub opens_le_named : (q : ℕ) (ws : List Window) → opens q ws ≤ named q ws
opens_le_named q [] = omega arith
opens_le_named q (w ∷ ws) = grind (arith, nat_tests, opens_le_named q ws)

pub reach_unnamed : (q : ℕ) (ws : List Window) → named q ws ≡ 0 → reach q ws ≡ 0
reach_unnamed q [] h = refl
reach_unnamed q (w ∷ ws) h = grind (arith, nat_tests, reach_unnamed q ws)

pub limit_closed : (q : ℕ) (ws : List Window) → opens q ws ≡ 0 → limit q ws ≡ PAGE_SIZE
limit_closed q [] h = refl
limit_closed q (w ∷ ws) h = grind (arith, nat_tests, limit_closed q ws)

pub NoEmpty-append : (xs ys : List Window) → NoEmpty xs → NoEmpty ys → NoEmpty (xs ++ ys)
NoEmpty-append [] ys h k = k
NoEmpty-append (x ∷ xs) ys h k = (h.0, NoEmpty-append xs ys h.1 k)

pub bytes_in-append : (xs ys : List Window) → bytes_in (xs ++ ys) ≡ bytes_in xs + bytes_in ys
bytes_in-append [] ys = omega arith
bytes_in-append (x ∷ xs) ys = omega (arith, bytes_in-append xs ys)

-- one window before others
pub reach_here : (w : Window) (ws : List Window) → (0 < named w.frame (w ∷ ws)) × (w.from + w.len ≤ reach w.frame (w ∷ ws))
reach_here w ws = (grind (arith, nat_tests), grind (arith, nat_tests))

pub reach_more : (q : ℕ) (w : Window) (ws : List Window) → 0 < named q ws → (0 < named q (w ∷ ws)) × (reach q ws ≤ reach q (w ∷ ws))
reach_more q w ws h = (grind (arith, nat_tests), grind (arith, nat_tests))

pub named_tail : (q : ℕ) (w : Window) (ws : List Window) → named q ws ≤ named q (w ∷ ws)
named_tail q w ws = grind (arith, nat_tests)

pub reach_tail : (q : ℕ) (w : Window) (ws : List Window) → reach q ws ≤ reach q (w ∷ ws)
reach_tail q w ws = grind (arith, nat_tests)

pub opens_tail : (q : ℕ) (w : Window) (ws : List Window) → opens q ws ≤ opens q (w ∷ ws)
opens_tail q w ws = grind (arith, nat_tests)

pub limit_tail : (q : ℕ) (w : Window) (ws : List Window) → limit q (w ∷ ws) ≤ limit q ws
limit_tail q w ws = grind (arith, nat_tests)

-- a shorter part of two lists whose longer parts are the same
pub take_less : (m n : ℕ) (xs ys : List ℕ) → m ≤ n → take n xs ≡ take n ys → take m xs ≡ take m ys
take_less m n xs ys h e = sym (take-take m n xs h) ∙ ap (take m) e ∙ take-take m n ys h

-- a window shows the same wherever its frame has the same bytes up to its end
pub window_same : (f g : Live) (w : Window) → take (w.from + w.len) (g.bytes w.frame) ≡ take (w.from + w.len) (f.bytes w.frame) → segment_of g w ≡ segment_of f w
window_same f g w e = ap (λ (b : List ℕ). let s : Segment = record { bytes = b; room = (segment_of f w).room } in s)
    (sym (drop-take w.from w.len (g.bytes w.frame)) ∙ ap (drop w.from) e ∙ drop-take w.from w.len (f.bytes w.frame))

-- windows show the same wherever their frames have the same bytes as far as the windows reach
pub segments_stay : (f g : Live) (ws : List Window) → ((q : ℕ) → 0 < named q ws → take (reach q ws) (g.bytes q) ≡ take (reach q ws) (f.bytes q))
    → map (segment_of g) ws ≡ map (segment_of f) ws
segments_stay f g [] h = refl
segments_stay f g (w ∷ ws) h =
    let at : (0 < named w.frame (w ∷ ws)) × (w.from + w.len ≤ reach w.frame (w ∷ ws)) = reach_here w ws in
    let here : segment_of g w ≡ segment_of f w = window_same f g w (take_less _ _ _ _ at.1 (h w.frame at.0)) in
    let rest : map (segment_of g) ws ≡ map (segment_of f) ws =
    segments_stay f g ws (λ q n. let up : (0 < named q (w ∷ ws)) × (reach q ws ≤ reach q (w ∷ ws)) = reach_more q w ws n in take_less _ _ _ _ up.1 (h q up.0)) in
    λ i. here i ∷ rest i

pub segments_same : (f g : Live) (ws : List Window) → ((q : ℕ) → 0 < named q ws → g.bytes q ≡ f.bytes q) → map (segment_of g) ws ≡ map (segment_of f) ws
segments_same f g ws h = segments_stay f g ws (λ q n. ap (take (reach q ws)) (h q n))

-- a ring stands after a change
pub keeps_stands : (f g : Live) (src old new : List Window) → Stands f old → Keeps src old new f g → Stands g new
keeps_stands f g src old new s k = record {
  counted = λ q. omega (arith, s.counted q, k.counts q);
  within = k.within;
  single = k.single;
  apart = k.apart;
  some = k.some;
}

-- two changes in a row, where no frame goes in between
pub keeps_then : (f g h : Live) (src old mid new : List Window) → ((q : ℕ) → f.count q ≤ g.count q) → Keeps src old mid f g → Keeps src mid new g h → Keeps src old new f h
keeps_then f g h src old mid new m k l = record {
  reservation = l.reservation ∙ k.reservation;
  counts = λ q. omega (arith, k.counts q, l.counts q);
  total = omega (arith, k.total, l.total);
  contents = λ q a b. let c : 0 < g.count q = omega (arith, m q) in
      take_less _ _ _ _ (k.limits q a) (l.contents q c b) ∙ k.contents q a c;
  opened = λ q a. omega (arith, m q, k.opened q a, l.opened q (omega (arith, m q)));
  reached = λ q a o. omega (arith, k.opened q a, k.reached q a o, l.reached q (omega (arith, m q)) (omega (arith, k.opened q a)));
  limits = λ q a. omega (arith, m q, k.limits q a, l.limits q (omega (arith, m q)));
  within = l.within;
  single = l.single;
  apart = l.apart;
  some = l.some;
}

-- a longer rest of two lists whose shorter rests are the same
drop_further : (m n : ℕ) (xs ys : List ℕ) → m ≤ n → drop m xs ≡ drop m ys → drop n xs ≡ drop n ys
drop_further m n xs ys h e =
    let far : m + (n - m) ≡ n = omega (arith, h) in
    subst (λ (k : ℕ). drop k xs ≡ drop k ys) far (sym (drop-drop (n - m) m xs) ∙ ap (drop (n - m)) e ∙ drop-drop (n - m) m ys)

-- bytes put behind some windows, and then in frames that were not live
pub behind_nothing : (f : Live) (ws : List Window) → PutsBehind ws 0 f f
behind_nothing f ws = record { others = λ q a h. refl; behind = λ q a. refl }

pub behind_then : (f g h : Live) (ws : List Window) (m n : ℕ) → PutsBehind ws m f g → ((q : ℕ) → f.count q ≤ g.count q) → PutsBehind [] n g h → PutsBehind ws (m + n) f h
behind_then f g h ws m n p more r = record {
  others = λ q a e. r.others q (omega (arith, more q)) refl ∙ p.others q a e;
  behind = λ q a. ap (drop (limit q ws + (m + n))) (r.others q (omega (arith, more q)) refl)
      ∙ drop_further (limit q ws + m) (limit q ws + (m + n)) (g.bytes q) (f.bytes q) (omega arith) (p.behind q a);
}

-- a change that only drops
pub drops_keep : (f g : Live) (old new : List Window) → Stands f old → Drops old new f g → Keeps [] old new f g
drops_keep f g old new s d = record {
  reservation = d.reservation;
  counts = d.counts;
  total = d.total;
  contents = λ q a b. ap (take (limit q old)) (d.contents q b);
  opened = λ q a. d.opened q;
  reached = λ q a o. omega (arith, d.reached q);
  limits = λ q a. d.limits q;
  within = λ q. omega (arith, d.reached q, s.within q);
  single = λ q. omega (arith, d.opened q, s.single q);
  apart = λ q. omega (arith, d.reached q, d.limits q, s.apart q);
  some = d.some;
}

pub drops_then : (f g h : Live) (old mid new : List Window) → Drops old mid f g → Drops mid new g h → Drops old new f h
drops_then f g h old mid new d e = record {
  reservation = e.reservation ∙ d.reservation;
  counts = λ q. omega (arith, d.counts q, e.counts q);
  total = omega (arith, d.total, e.total);
  contents = λ q a. e.contents q a ∙ d.contents q (omega (arith, e.counts q, e.fewer q));
  held = omega (arith, d.held, e.held);
  used = omega (arith, d.used, e.used);
  fewer = λ q. omega (arith, d.fewer q, e.fewer q);
  opened = λ q. omega (arith, d.opened q, e.opened q);
  reached = λ q. omega (arith, d.reached q, e.reached q);
  limits = λ q. omega (arith, d.limits q, e.limits q);
  some = e.some;
}

pub drops_nothing : (f : Live) (ws : List Window) → NoEmpty ws → Drops ws ws f f
drops_nothing f ws s = record {
  reservation = refl;
  counts = λ q. refl;
  total = refl;
  contents = λ q a. refl;
  held = omega arith;
  used = omega arith;
  fewer = λ q. omega arith;
  opened = λ q. omega arith;
  reached = λ q. omega arith;
  limits = λ q. omega arith;
  some = s;
}

-- what is left shows what it showed
pub drops_show : (f g : Live) (old new : List Window) → Stands f old → Drops old new f g → shown g new ≡ shown f new
drops_show f g old new s d = segments_same f g new (λ q n. d.contents q (omega (arith, n, d.counts q, s.counted q)))

-- under a page at most a window has as many bytes as it says
pub window_length : (f : Live) (w : Window) → length (f.bytes w.frame) ≡ PAGE_SIZE → w.from + w.len ≤ PAGE_SIZE → length (segment_of f w).bytes ≡ w.len
window_length f w p h = simp (length-take, length-drop) (omega (arith, p))

pub window_whole : (f : Live) (w : Window) (ws : List Window) → IsSound f → Stands f (w ∷ ws) → length (segment_of f w).bytes ≡ w.len
window_whole f w ws s t =
    let at : (0 < named w.frame (w ∷ ws)) × (w.from + w.len ≤ reach w.frame (w ∷ ws)) = reach_here w ws in
    window_length f w (s.whole w.frame (omega (arith, at.0, t.counted w.frame))) (omega (arith, at.1, t.within w.frame))

pub stands_rest : (f : Live) (w : Window) (ws : List Window) → Stands f (w ∷ ws) → Stands f ws
stands_rest f w ws t = record {
  counted = λ q. omega (arith, named_tail q w ws, t.counted q);
  within = λ q. omega (arith, reach_tail q w ws, t.within q);
  single = λ q. omega (arith, opens_tail q w ws, t.single q);
  apart = λ q. omega (arith, reach_tail q w ws, limit_tail q w ws, t.apart q);
  some = t.some.1;
}

-- the segments together have as many bytes as the windows
pub segments_length : (f : Live) (ws : List Window) → IsSound f → Stands f ws → length (joined (map (segment_of f) ws)) ≡ bytes_in ws
segments_length f [] s t = refl
segments_length f (w ∷ ws) s t =
    let here : length (segment_of f w).bytes ≡ w.len = window_whole f w ws s t in
    simp length-append (omega (arith, here, segments_length f ws s (stands_rest f w ws t)))

-- the windows show at most a page each
pub bytes_in_le : (ws : List Window) → ((q : ℕ) → reach q ws ≤ PAGE_SIZE) → bytes_in ws ≤ PAGE_SIZE * length ws
bytes_in_le [] h = omega arith
bytes_in_le (w ∷ ws) h =
    let at : (0 < named w.frame (w ∷ ws)) × (w.from + w.len ≤ reach w.frame (w ∷ ws)) = reach_here w ws in
    omega (arith, at.1, h w.frame, bytes_in_le ws (λ q. omega (arith, reach_tail q w ws, h q)))

-- two rings whose windows stand in the frames together

pub stands_first : (f : Live) (xs ys : List Window) → Stands f (xs ++ ys) → Stands f xs
stands_first f xs ys s = record {
  counted = λ q. omega (arith, named-append q xs ys, s.counted q);
  within = λ q. omega (arith, reach-append q xs ys, s.within q);
  single = λ q. omega (arith, opens-append q xs ys, s.single q);
  apart = λ q. omega (arith, reach-append q xs ys, limit-append q xs ys, s.apart q);
  some = some_first xs ys s.some;
}
  where
    some_first : (us vs : List Window) → NoEmpty (us ++ vs) → NoEmpty us
    some_first [] vs h = tt
    some_first (u ∷ us) vs h = (h.0, some_first us vs h.1)

pub stands_second : (f : Live) (xs ys : List Window) → Stands f (xs ++ ys) → Stands f ys
stands_second f xs ys s = record {
  counted = λ q. omega (arith, named-append q xs ys, s.counted q);
  within = λ q. omega (arith, reach-append q xs ys, s.within q);
  single = λ q. omega (arith, opens-append q xs ys, s.single q);
  apart = λ q. omega (arith, reach-append q xs ys, limit-append q xs ys, s.apart q);
  some = some_second xs ys s.some;
}
  where
    some_second : (us vs : List Window) → NoEmpty (us ++ vs) → NoEmpty vs
    some_second [] vs h = h
    some_second (u ∷ us) vs h = some_second us vs h.1

-- what the second may reach of the first, and the first of the second
pub reach_first : (f : Live) (xs ys : List Window) → Stands f (xs ++ ys) → (q : ℕ) → (reach q ys ≤ limit q xs) × (reach q xs ≤ limit q ys)
reach_first f xs ys s q = (
  omega (arith, reach-append q xs ys, limit-append q xs ys, s.apart q),
  omega (arith, reach-append q xs ys, limit-append q xs ys, s.apart q),
)

-- windows of the first are copied to the end of the second: they still stand together
both_limit : (f g : Live) (src old new : List Window) → Stands f (src ++ old) → Keeps src old new f g → (q : ℕ) → reach q new ≤ limit q src
both_limit f g src old new s k q = elim (cases_lt 0 (opens q src)) [
  | inl some ↦
      let live : 0 < f.count q = omega (arith, some, opens_le_named q src, named-append q src old, s.counted q) in
      let shut : opens q old ≡ 0 = omega (arith, some, opens-append q src old, s.single q) in
      omega (arith, k.reached q live shut, (reach_first f src old s q).0, (stands_first f src old s).apart q)
  | inr none ↦ omega (arith, limit_closed q src (omega (arith, none)), k.within q)
]

both_reach : (f g : Live) (src old new : List Window) → Stands f (src ++ old) → Keeps src old new f g → (q : ℕ) → reach q src ≤ limit q new
both_reach f g src old new s k q = elim (cases_lt 0 (f.count q)) [
  | inl live ↦ omega (arith, k.limits q live, (reach_first f src old s q).1)
  | inr none ↦ omega (arith, none, reach_unnamed q src (omega (arith, none, named-append q src old, s.counted q)))
]

both_single : (f g : Live) (src old new : List Window) → Stands f (src ++ old) → Keeps src old new f g → (q : ℕ) → opens q src + opens q new ≤ 1
both_single f g src old new s k q = elim (cases_lt 0 (f.count q)) [
  | inl live ↦ omega (arith, k.opened q live, opens-append q src old, s.single q)
  | inr none ↦ omega (arith, none, k.single q, opens_le_named q src, named-append q src old, s.counted q)
]

pub both_stand : (f g : Live) (src old new : List Window) → Stands f (src ++ old) → Keeps src old new f g → Stands g (src ++ new)
both_stand f g src old new s k = record {
  counted = λ q. omega (arith, named-append q src old, named-append q src new, s.counted q, k.counts q);
  within = λ q. omega (arith, reach-append q src new, (stands_first f src old s).within q, k.within q);
  single = λ q. omega (arith, opens-append q src new, both_single f g src old new s k q);
  apart = λ q. omega (arith, reach-append q src new, limit-append q src new, (stands_first f src old s).apart q, k.apart q, both_reach f g src old new s k q, both_limit f g src old new s k q);
  some = NoEmpty-append src new (stands_first f src old s).some k.some;
}

-- nothing has changed
pub keeps_same : (f : Live) (src ws : List Window) → Stands f ws → Keeps src ws ws f f
keeps_same f src ws s = record {
  reservation = refl;
  counts = λ q. refl;
  total = refl;
  contents = λ q a b. refl;
  opened = λ q a. omega arith;
  reached = λ q a o. omega arith;
  limits = λ q a. omega arith;
  within = s.within;
  single = s.single;
  apart = s.apart;
  some = s.some;
}
