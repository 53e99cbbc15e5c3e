-- What each step of a ring's calls does to the windows and the frames.

use Rattle.std.proofs.Common.{◌≡◌, ℕ, ◌+◌, ◌-◌, ◌<◌, ◌≤◌, ◌==◌, ◌&&◌, min, Bool, true, false, List, [], ◌∷◌, ◌++◌, length, take, drop, set, get_or, map, if◌then◌else◌, refl, sym, ◌∙◌, ap, subst, inl, inr, arith}
use Rattle.std.proofs.lemmas.Bool.{cases_eq}
use Rattle.std.proofs.lemmas.Bool.Decides.{nat_tests}
use Rattle.std.proofs.lemmas.Slice.{drop-append-drop}
use Rattle.std.proofs.lemmas.List.{map-append, take-take, take-append-le, take_all, take_more, take_more_set, length-take, length-append, length-set}
use Rattle.pf_base.specs.declared.TheConstants.{PAGE_SIZE}
use Rattle.pf_machine.specs.Queue.{last_room}
use Rattle.pf_frame.specs.Live.{Live, IsSound, Takes, Fills}
use Rattle.pf_ring.specs.declared.ring.Window.{Window}
use Rattle.pf_ring.specs.Ring.{segment_of}
use Rattle.pf_ring.proofs.Queues.{last_room_push}
use Rattle.pf_ring.specs.Steps.{Puts}
use Rattle.pf_ring.specs.Windows.{named, reach, opens, limit, last_grows, NoEmpty, Stands, Keeps, PutsBehind, Drops}
use Rattle.pf_ring.proofs.WindowLaws.{named-append, opens-append, reach-append, limit-append, limit_le, opens_le_named, reach_unnamed, limit_closed, NoEmpty-append, bytes_in-append, reach_here, behind_nothing, drops_keep, drops_nothing}

-- a window alone, by whether it is on the frame q
pub own : (q : ℕ) (w : Window) → w.frame ≡ q → (named q (w ∷ []) ≡ 1) × (reach q (w ∷ []) ≡ w.from + w.len)
own q w e = (grind (arith, nat_tests), grind (arith, nat_tests))

pub own_open : (q : ℕ) (w : Window) → w.frame ≡ q → w.grows ≡ true → (opens q (w ∷ []) ≡ 1) × (limit q (w ∷ []) ≡ min (w.from + w.len) PAGE_SIZE)
own_open q w e g = (grind (arith, nat_tests), grind (arith, nat_tests))

pub other : (q : ℕ) (w : Window) → (w.frame ≡ q → ⊥) → (named q (w ∷ []) ≡ 0) × (reach q (w ∷ []) ≡ 0) × (opens q (w ∷ []) ≡ 0) × (limit q (w ∷ []) ≡ PAGE_SIZE)
other q w n = (grind (arith, nat_tests), grind (arith, nat_tests), grind (arith, nat_tests), grind (arith, nat_tests))

pub NoEmpty_front : (xs ys : List Window) → NoEmpty (xs ++ ys) → NoEmpty xs
NoEmpty_front [] ys h = tt
NoEmpty_front (x ∷ xs) ys h = (h.0, NoEmpty_front xs ys h.1)

pub NoEmpty_end : (xs ys : List Window) → NoEmpty (xs ++ ys) → NoEmpty ys
NoEmpty_end [] ys h = h
NoEmpty_end (x ∷ xs) ys h = NoEmpty_end xs ys h.1

-- a window at the start of a frame
abbrev pub fresh : ℕ → ℕ → Window
fresh frame n = record { frame = frame; from = 0; len = n; grows = true }

-- a fresh frame with bytes, named by one more window at the end
piece_keeps : (f g h : Live) (ws : List Window) (frame n : ℕ) (xs : List ℕ) → Stands f ws → Takes f g frame → Fills g h frame 0 xs → length xs ≡ n → 0 < n → n ≤ PAGE_SIZE
    → Keeps [] ws (ws ++ fresh frame n ∷ []) f h
piece_keeps f g h ws frame n xs s t u e some fits =
    let w : Window = fresh frame n in
    let unnamed : (q : ℕ) → q ≡ frame → (f.count q ≡ 0) × (named q ws ≡ 0) = λ q d.
    let z : f.count q ≡ 0 = ap f.count d ∙ t.fresh in (z, omega (arith, z, s.counted q)) in
    record {
      reservation = u.reserved ∙ t.reserved;
      counts = λ q. elim (cases_eq q frame) [
        | inl d ↦ let one : h.count q ≡ 1 = u.counts q ∙ (ap g.count d ∙ t.taken) in omega (arith, one, unnamed q d, named-append q ws (w ∷ []), own q w (sym d))
        | inr d ↦ omega (arith, u.counts q, t.counts q d, named-append q ws (w ∷ []), other q w (λ z. d (sym z)))
      ];
      total = omega (arith, u.shares, t.shares, length-append ws (w ∷ []));
      contents = λ q a b. elim (cases_eq q frame) [
        | inl d ↦ absurd (omega (arith, unnamed q d))
        | inr d ↦ ap (take (limit q ws)) (u.bytes q d (omega (arith, t.counts q d)) ∙ t.bytes q a)
      ];
      opened = λ q a. elim (cases_eq q frame) [
        | inl d ↦ absurd (omega (arith, unnamed q d))
        | inr d ↦ omega (arith, opens-append q ws (w ∷ []), other q w (λ z. d (sym z)))
      ];
      reached = λ q a o. elim (cases_eq q frame) [
        | inl d ↦ absurd (omega (arith, unnamed q d))
        | inr d ↦ omega (arith, reach-append q ws (w ∷ []), other q w (λ z. d (sym z)))
      ];
      limits = λ q a. elim (cases_eq q frame) [
        | inl d ↦ absurd (omega (arith, unnamed q d))
        | inr d ↦ omega (arith, limit-append q ws (w ∷ []), limit_le q ws, other q w (λ z. d (sym z)))
      ];
      within = λ q. elim (cases_eq q frame) [
        | inl d ↦ omega (arith, reach-append q ws (w ∷ []), own q w (sym d), s.within q)
        | inr d ↦ omega (arith, reach-append q ws (w ∷ []), other q w (λ z. d (sym z)), s.within q)
      ];
      single = λ q. elim (cases_eq q frame) [
        | inl d ↦ omega (arith, opens-append q ws (w ∷ []), own_open q w (sym d) refl, opens_le_named q ws, unnamed q d)
        | inr d ↦ omega (arith, opens-append q ws (w ∷ []), other q w (λ z. d (sym z)), s.single q)
      ];
      apart = λ q. elim (cases_eq q frame) [
        | inl d ↦ omega (
          arith,
          reach-append q ws (w ∷ []),
          limit-append q ws (w ∷ []),
          own q w (sym d),
          own_open q w (sym d) refl,
          reach_unnamed q ws (unnamed q d).1,
          limit_closed q ws (omega (arith, opens_le_named q ws, unnamed q d)),
        )
        | inr d ↦ omega (arith, reach-append q ws (w ∷ []), limit-append q ws (w ∷ []), other q w (λ z. d (sym z)), s.apart q, limit_le q ws)
      ];
      some = NoEmpty-append ws (w ∷ []) s.some (some, tt);
    }

-- bytes before the place of a fill
pub take_filled : (m at : ℕ) (old xs ys : List ℕ) → m ≤ at → at ≤ length old → take m ((take at old ++ xs) ++ ys) ≡ take m old
take_filled m at old xs ys h l =
    let front : m ≤ length (take at old) = omega (arith, length-take at old) in
    let both : m ≤ length (take at old ++ xs) = omega (arith, length-append (take at old) xs) in
    take-append-le m (take at old ++ xs) ys both ∙ (take-append-le m (take at old) xs front ∙ take-take m at old h)

-- and behind it
pub drop_filled : (m at : ℕ) (old xs : List ℕ) → at ≤ length old → at + length xs ≤ m → drop m ((take at old ++ xs) ++ drop (at + length xs) old) ≡ drop m old
drop_filled m at old xs l h = drop-append-drop (at + length xs) old (take at old ++ xs) m h (omega (arith, length-append (take at old) xs, length-take at old))

-- a window that shows n more bytes
abbrev pub longer : Window → ℕ → Window
longer w n = record { frame = w.frame; from = w.from; len = w.len + n; grows = w.grows }

-- the last window grows, and bytes are filled in behind it
topped_keeps : (f g : Live) (front : List Window) (w : Window) (n : ℕ) (xs : List ℕ) → IsSound f → Stands f (front ++ w ∷ []) → w.grows ≡ true → Fills f g w.frame (w.from + w.len) xs
    → w.from + w.len + n ≤ PAGE_SIZE → Keeps [] (front ++ w ∷ []) (front ++ longer w n ∷ []) f g
topped_keeps f g front w n xs sound s grows u fits =
    let old : List Window = w ∷ [] in
    let new : List Window = longer w n ∷ [] in
    record {
      reservation = u.reserved;
      counts = λ q. omega (arith, u.counts q, named-append q front old, named-append q front new);
      total = omega (arith, u.shares, length-append front old, length-append front new);
      contents = λ q a b. elim (cases_eq q w.frame) [
        | inl d ↦ let before : limit q (front ++ old) ≤ w.from + w.len = omega (arith, limit-append q front old, own_open q w (sym d) grows) in
            let filled : g.bytes q ≡ (take (w.from + w.len) (f.bytes q) ++ xs) ++ drop (w.from + w.len + length xs) (f.bytes q) =
            subst (λ (k : ℕ). g.bytes k ≡ (take (w.from + w.len) (f.bytes k) ++ xs) ++ drop (w.from + w.len + length xs) (f.bytes k)) (sym d) u.filled in
            ap (take (limit q (front ++ old))) filled ∙ take_filled _ _ (f.bytes q) xs _ before (omega (arith, sound.whole q a))
        | inr d ↦ ap (take (limit q (front ++ old))) (u.bytes q d a)
      ];
      opened = λ q a. omega (arith, opens-append q front old, opens-append q front new);
      reached = λ q a o. elim (cases_eq q w.frame) [
        | inl d ↦ absurd (omega (arith, opens-append q front old, own_open q w (sym d) grows))
        | inr d ↦ omega (arith, reach-append q front old, reach-append q front new, other q w (λ z. d (sym z)), other q (longer w n) (λ z. d (sym z)))
      ];
      limits = λ q a. elim (cases_eq q w.frame) [
        | inl d ↦ omega (arith, limit-append q front old, limit-append q front new, own_open q w (sym d) grows, own_open q (longer w n) (sym d) grows)
        | inr d ↦ omega (arith, limit-append q front old, limit-append q front new, other q w (λ z. d (sym z)), other q (longer w n) (λ z. d (sym z)))
      ];
      within = λ q. elim (cases_eq q w.frame) [
        | inl d ↦ omega (arith, reach-append q front old, reach-append q front new, own q (longer w n) (sym d), s.within q)
        | inr d ↦ omega (arith, reach-append q front old, reach-append q front new, other q (longer w n) (λ z. d (sym z)), s.within q)
      ];
      single = λ q. omega (arith, opens-append q front old, opens-append q front new, s.single q);
      apart = λ q. elim (cases_eq q w.frame) [
        | inl d ↦ let shut : opens q front ≡ 0 = omega (arith, opens-append q front old, own_open q w (sym d) grows, s.single q) in
            omega (
              arith,
              reach-append q front old,
              reach-append q front new,
              limit-append q front old,
              limit-append q front new,
              own q w (sym d),
              own q (longer w n) (sym d),
              own_open q w (sym d) grows,
              own_open q (longer w n) (sym d) grows,
              limit_closed q front shut,
              s.apart q,
            )
        | inr d ↦ omega (arith, reach-append q front old, reach-append q front new, limit-append q front old, limit-append q front new, other q w (λ z. d (sym z)), other q (longer w n) (λ z. d (sym z)), s.apart q)
      ];
      some = NoEmpty-append front new (NoEmpty_front front old s.some) (omega (arith, (NoEmpty_end front old s.some).0), tt);
    }

last_grows_push : (q : ℕ) (front : List Window) (w : Window) → last_grows q (front ++ w ∷ []) ≡ w.grows && (w.frame == q)
last_grows_push q [] w = refl
last_grows_push q (a ∷ []) w = refl
last_grows_push q (a ∷ b ∷ front) w = last_grows_push q (b ∷ front) w

grows_on : (b : Bool) (n q : ℕ) → n ≡ q → b ≡ true → b && (n == q) ≡ false → ⊥
grows_on b n q e t f = grind (arith, nat_tests)

-- and no byte is changed but those
topped_behind : (f g : Live) (front : List Window) (w : Window) (n : ℕ) (xs : List ℕ) → IsSound f → Stands f (front ++ w ∷ []) → w.grows ≡ true → Fills f g w.frame (w.from + w.len) xs
    → w.from + w.len ≤ PAGE_SIZE → length xs ≤ n → PutsBehind (front ++ w ∷ []) n f g
topped_behind f g front w n xs sound s grows u ends least = record {
  others = λ q a h. elim (cases_eq q w.frame) [
    | inl d ↦ absurd (grows_on w.grows w.frame q (sym d) grows (sym (last_grows_push q front w) ∙ h))
    | inr d ↦ u.bytes q d a
  ];
  behind = λ q a. elim (cases_eq q w.frame) [
    | inl d ↦ let filled : g.bytes q ≡ (take (w.from + w.len) (f.bytes q) ++ xs) ++ drop (w.from + w.len + length xs) (f.bytes q) =
        subst (λ (k : ℕ). g.bytes k ≡ (take (w.from + w.len) (f.bytes k) ++ xs) ++ drop (w.from + w.len + length xs) (f.bytes k)) (sym d) u.filled in
        let last : w.from + w.len ≤ limit q (front ++ w ∷ []) = omega (arith, reach-append q front (w ∷ []), own q w (sym d), s.apart q) in
        ap (drop (limit q (front ++ w ∷ []) + n)) filled ∙ drop_filled _ _ (f.bytes q) xs (omega (arith, sound.whole q a)) (omega (arith, last, least))
    | inr d ↦ ap (drop (limit q (front ++ w ∷ []) + n)) (u.bytes q d a)
  ];
}

pub topped_puts : (f g : Live) (front : List Window) (w : Window) (n : ℕ) (xs : List ℕ) → IsSound f → Stands f (front ++ w ∷ []) → w.grows ≡ true → Fills f g w.frame (w.from + w.len) xs
    → w.from + w.len + n ≤ PAGE_SIZE → length xs ≡ n → Puts n (front ++ w ∷ []) (front ++ w ∷ []) (front ++ longer w n ∷ []) f g
topped_puts f g front w n xs sound s grows u fits size = record {
  keeps = topped_keeps f g front w n xs sound s grows u fits;
  puts_behind = topped_behind f g front w n xs sound s grows u (omega (arith, fits)) (omega (arith, size));
  more = λ q. omega (arith, u.counts q);
  takes = omega (arith, u.held, length-append front (w ∷ []), length-append front (longer w n ∷ []));
  bytes = omega (arith, bytes_in-append front (w ∷ []), bytes_in-append front (longer w n ∷ []));
}

-- nothing is put
pub puts_nothing : (f : Live) (ws : List Window) → Stands f ws → Puts 0 ws ws ws f f
puts_nothing f ws s = record {
  keeps = drops_keep f f ws ws s (drops_nothing f ws s.some);
  puts_behind = behind_nothing f ws;
  more = λ q. omega arith;
  takes = refl;
  bytes = omega arith;
}

-- a piece of its own
pub piece_puts : (f g h : Live) (ws : List Window) (frame n : ℕ) (xs : List ℕ) → Stands f ws → Takes f g frame → Fills g h frame 0 xs → length xs ≡ n → 0 < n → n ≤ PAGE_SIZE
    → Puts n [] ws (ws ++ fresh frame n ∷ []) f h
piece_puts f g h ws frame n xs s t u e some fits =
    let other_frame : (q : ℕ) → 0 < f.count q → q ≡ frame → ⊥ = λ q a d. let z : f.count q ≡ 0 = ap f.count d ∙ t.fresh in omega (arith, z, a) in
    let stay : (q : ℕ) → 0 < f.count q → h.bytes q ≡ f.bytes q = λ q a. u.bytes q (other_frame q a) (omega (arith, t.counts q (other_frame q a), a)) ∙ t.bytes q a in
    record {
      keeps = piece_keeps f g h ws frame n xs s t u e some fits;
      puts_behind = record { others = λ q a l. stay q a; behind = λ q a. ap (drop (limit q [] + n)) (stay q a) };
      more = λ q. elim (cases_eq q frame) [
        | inl d ↦ let z : f.count q ≡ 0 = ap f.count d ∙ t.fresh in omega (arith, z)
        | inr d ↦ omega (arith, t.counts q d, u.counts q)
      ];
      takes = omega (arith, t.held, u.held, length-append ws (fresh frame n ∷ []));
      bytes = omega (arith, bytes_in-append ws (fresh frame n ∷ []));
    }

-- the first window without its first n bytes
abbrev pub shorter : Window → ℕ → Window
shorter w n = record { frame = w.frame; from = w.from + n; len = w.len - n; grows = w.grows }

-- where a cut window ends
pub cut_reach : (q : ℕ) (w : Window) (ws : List Window) (n : ℕ) → n < w.len → reach q (shorter w n ∷ ws) ≤ reach q (w ∷ ws)
cut_reach q w ws n l = grind (arith, nat_tests)

pub cut_limit : (q : ℕ) (w : Window) (ws : List Window) (n : ℕ) → n < w.len → limit q (w ∷ ws) ≤ limit q (shorter w n ∷ ws)
cut_limit q w ws n l = grind (arith, nat_tests)

pub cut_drops : (f : Live) (w : Window) (ws : List Window) (n : ℕ) → Stands f (w ∷ ws) → n < w.len → Drops (w ∷ ws) (shorter w n ∷ ws) f f
cut_drops f w ws n s l = record {
  reservation = refl;
  counts = λ q. refl;
  total = refl;
  contents = λ q a. refl;
  held = omega arith;
  used = omega arith;
  fewer = λ q. omega arith;
  opened = λ q. omega arith;
  reached = λ q. cut_reach q w ws n l;
  limits = λ q. cut_limit q w ws n l;
  some = (omega arith, s.some.1);
}

-- the last window of some
pub split_last : (ws : List Window) (n : ℕ) (w : Window) → length ws ≡ n + 1 → w ≡ get_or ws n w → ws ≡ take n ws ++ w ∷ []
split_last ws n w e h = sym (take_all (n + 1) ws (omega arith)) ∙ (take_more ws n w (omega arith) ∙ ap (λ (v : Window). take n ws ++ v ∷ []) (sym h))

pub set_last : (ws : List Window) (n : ℕ) (w : Window) → length ws ≡ n + 1 → set ws n w ≡ take n ws ++ w ∷ []
set_last ws n w e = sym (take_all (n + 1) (set ws n w) (omega (arith, length-set ws n w))) ∙ take_more_set ws n w (omega arith)

-- the first window of some
pub split_first : (ws : List Window) (w : Window) → 0 < length ws → w ≡ get_or ws 0 w → ws ≡ w ∷ drop 1 ws
split_first [] w l h = absurd (omega arith)
split_first (v ∷ ws) w l h = ap (λ (x : Window). x ∷ ws) (sym h)

-- what is known of the first window
pub record First (f : Live) (ws : List Window) (w : Window) : Type 0 where
  pub split : ws ≡ w ∷ drop 1 ws
  pub stands : Stands f (w ∷ drop 1 ws)
  pub live : 0 < f.count w.frame
  pub ends : w.from + w.len ≤ PAGE_SIZE
  pub whole : length (f.bytes w.frame) ≡ PAGE_SIZE

pub is_first : (f : Live) (ws : List Window) (w : Window) → IsSound f → Stands f ws → 0 < length ws → w ≡ get_or ws 0 w → First f ws w
is_first f ws w s t l h =
    let split : ws ≡ w ∷ drop 1 ws = split_first ws w l h in
    let stands : Stands f (w ∷ drop 1 ws) = subst (λ (v : List Window). Stands f v) split t in
    let at : (0 < named w.frame (w ∷ drop 1 ws)) × (w.from + w.len ≤ reach w.frame (w ∷ drop 1 ws)) = reach_here w (drop 1 ws) in
    let live : 0 < f.count w.frame = omega (arith, at.0, stands.counted w.frame) in
    record { split = split; stands = stands; live = live; ends = omega (arith, at.1, stands.within w.frame); whole = s.whole w.frame live }

-- and of the last
pub record Last (f : Live) (ws : List Window) (n : ℕ) (w : Window) : Type 0 where
  pub split : ws ≡ take n ws ++ w ∷ []
  pub stands : Stands f (take n ws ++ w ∷ [])
  pub live : 0 < f.count w.frame
  pub ends : w.from + w.len ≤ PAGE_SIZE
  pub whole : length (f.bytes w.frame) ≡ PAGE_SIZE

pub is_last : (f : Live) (ws : List Window) (n : ℕ) (w : Window) → IsSound f → Stands f ws → length ws ≡ n + 1 → w ≡ get_or ws n w → Last f ws n w
is_last f ws n w s t l h =
    let split : ws ≡ take n ws ++ w ∷ [] = split_last ws n w l h in
    let stands : Stands f (take n ws ++ w ∷ []) = subst (λ (v : List Window). Stands f v) split t in
    let live : 0 < f.count w.frame = omega (arith, stands.counted w.frame, named-append w.frame (take n ws) (w ∷ []), own w.frame w refl) in
    record { split = split; stands = stands; live = live; ends = omega (arith, stands.within w.frame, reach-append w.frame (take n ws) (w ∷ []), own w.frame w refl); whole = s.whole w.frame live }

-- the last room of some windows
pub last_room_at : (f : Live) (front : List Window) (w : Window) → last_room (map (segment_of f) (front ++ w ∷ [])) ≡ (segment_of f w).room
last_room_at f front w = ap last_room (map-append (segment_of f) front (w ∷ [])) ∙ last_room_push (map (segment_of f) front) (segment_of f w)

-- what is known of the last window where it takes some of a write
pub record Top (f : Live) (ws : List Window) (n : ℕ) (w : Window) (number : ℕ) : Type 0 where
  pub last : Last f ws n w
  pub grows : w.grows ≡ true
  pub fits : w.from + w.len + number ≤ PAGE_SIZE

room_grows : (b : Bool) (n : ℕ) → 0 < (if b then n else 0) → b ≡ true
room_grows true n h = refl
room_grows false n h = absurd (omega arith)

pub room_some : (f : Live) (ws : List Window) → 0 < last_room (map (segment_of f) ws) → 0 < length ws
room_some f [] h = absurd (omega arith)
room_some f (w ∷ ws) h = omega arith

pub is_top : (f : Live) (ws : List Window) (used number : ℕ) (w : Window) (x : List ℕ) → IsSound f → Stands f ws → length ws ≡ used → number ≡ min (last_room (map (segment_of f) ws)) (length x) → 0 < number
    → w ≡ get_or ws (used - 1) w → Top f ws (used - 1) w number
is_top f ws used number w x s t l least some h =
    let any : 0 < length ws = room_some f ws (omega arith) in
    let last : Last f ws (used - 1) w = is_last f ws (used - 1) w s t (omega arith) h in
    let room : last_room (map (segment_of f) ws) ≡ (segment_of f w).room = ap (λ (v : List Window). last_room (map (segment_of f) v)) last.split ∙ last_room_at f (take (used - 1) ws) w in
    let grows : w.grows ≡ true = room_grows w.grows (PAGE_SIZE - (w.from + w.len)) (omega (arith, room, least, some)) in
    let left : (segment_of f w).room ≡ PAGE_SIZE - (w.from + w.len) = ap (λ (b : Bool). if b then PAGE_SIZE - (w.from + w.len) else 0) grows in
    record { last = last; grows = grows; fits = omega (arith, room, left, least, last.ends) }
