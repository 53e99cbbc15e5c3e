-- A table of rings in the frames of one door: what a call on one of them is to the others.

use Rattle.std.proofs.Common.{◌≡◌, ◌≢◌, ℕ, zero, suc, ◌+◌, ◌-◌, ◌<◌, ◌≤◌, List, ◌∷◌, ◌++◌, length, map, set, refl, sym, ◌∙◌, ap, subst, inl, inr, arith, []}
use Rattle.std.proofs.lemmas.Bool.{cases_lt, cases_eq}
use Rattle.std.proofs.lemmas.Bool.Decides.{nat_tests}
use Rattle.std.proofs.lemmas.List.{get_or_past, get_or-set_same, get_or-set_other, set_past, nil_from_length, length-map}
use Rattle.std.proofs.lemmas.List.Sums.{sum_by-cons, sum_by-set, sum_by_push, get_or-le-sum_by, sum_by-le-sum_by}
use Rattle.std.specs.Prelude.{slice_index_or}
use Rattle.std.specs.List.{sum_by}
use Rattle.pf_base.specs.declared.TheConstants.{PAGE_SIZE}
use Rattle.pf_machine.specs.Queue.{Segment, Queue, IsSegment, IsQueue, joined, bytes_of}
use Rattle.pf_frame.specs.Live.{Live, IsSound}
use Rattle.pf_ring.specs.declared.ring.Window.{Window}
use Rattle.pf_ring.specs.Ring.{Ring, segment_of, queue_of, no_ring}
use Rattle.pf_ring.specs.Windows.{named, reach, opens, limit, NoEmpty, bytes_in, Stands, Keeps}
use Rattle.pf_ring.proofs.WindowLaws.{NoEmpty-append, named-append, opens-append, reach-append, limit-append, opens_le_named, reach_unnamed, limit_closed, reach_here, take_less, segments_stay, window_whole, stands_rest, segments_length}
use Rattle.pf_ring.specs.Table.{ring_at, named_by, opens_by, slots_of, slots_used, Joined}

-- what is 0 at no ring is, at one ring or at two, at most its sum
at_le : (h : Ring → ℕ) (rings : List Ring) (i : ℕ) → h no_ring ≡ 0 → h (ring_at rings i) ≤ sum_by h rings
at_le h rings i e = elim (cases_lt i (length rings)) [
  | inl l ↦ get_or-le-sum_by h rings i no_ring l
  | inr g ↦ let past : h (ring_at rings i) ≡ 0 = ap h (get_or_past rings i no_ring g) ∙ e in omega arith
]

two_le : (h : Ring → ℕ) (rings : List Ring) (i j : ℕ) → h no_ring ≡ 0 → j ≢ i → h (ring_at rings i) + h (ring_at rings j) ≤ sum_by h rings
two_le h rings i j e n = elim (cases_lt i (length rings)) [
  | inl l ↦ let other : h (ring_at (set rings i no_ring) j) ≡ h (ring_at rings j) = ap h (get_or-set_other rings i j no_ring no_ring n) in
      omega (arith, other, sum_by-set h rings i no_ring no_ring l, at_le h (set rings i no_ring) j e, e)
  | inr g ↦ let past : h (ring_at rings i) ≡ 0 = ap h (get_or_past rings i no_ring g) ∙ e in omega (arith, at_le h rings j e)
]

-- what holds of each ring of a changed table
set_all : (P : Ring → Type 0) (rings : List Ring) (k : ℕ) (r : Ring) (i : ℕ) → k < length rings → P r → (i ≢ k → P (ring_at rings i)) → P (ring_at (set rings k r) i)
set_all P rings k r i l here there = elim (cases_eq i k) [
  | inl e ↦ subst (λ (n : ℕ). P (ring_at (set rings k r) n)) (sym e) (subst P (sym (get_or-set_same rings k r no_ring l)) here)
  | inr n ↦ subst P (sym (get_or-set_other rings k i r no_ring n)) (there n)
]

push_all : (P : Ring → Type 0) (rings : List Ring) (r : Ring) (i : ℕ) → P r → P no_ring → ((n : ℕ) → P (ring_at rings n)) → P (ring_at (rings ++ r ∷ []) i)
push_all P [] r zero a b h = a
push_all P [] r (suc i) a b h = b
push_all P (x ∷ xs) r zero a b h = h 0
push_all P (x ∷ xs) r (suc i) a b h = push_all P xs r i a b (λ n. h (suc n))

-- two functions that are the same at each ring, or at each but one
map_same : (F G : Ring → Queue) (rings : List Ring) → ((i : ℕ) → F (ring_at rings i) ≡ G (ring_at rings i)) → map F rings ≡ map G rings
map_same F G [] h = refl
map_same F G (r ∷ rings) h = λ i. h 0 i ∷ map_same F G rings (λ n. h (suc n)) i

set_same : (F G : Ring → Queue) (rings : List Ring) (k : ℕ) (x : Queue) → ((i : ℕ) → i ≢ k → F (ring_at rings i) ≡ G (ring_at rings i)) → set (map F rings) k x ≡ set (map G rings) k x
set_same F G [] k x h = refl
set_same F G (r ∷ rings) zero x h = λ i. x ∷ map_same F G rings (λ n. h (suc n) (λ e. omega arith)) i
set_same F G (r ∷ rings) (suc k) x h = λ i. h 0 (λ e. omega arith) i ∷ set_same F G rings k x (λ n d. h (suc n) (λ e. d (omega arith))) i

-- the free slots of one ring are within what all slots leave
used_le : (rings : List Ring) → ((i : ℕ) → slots_used (ring_at rings i) ≤ slots_of (ring_at rings i)) → sum_by slots_used rings ≤ sum_by slots_of rings
used_le [] h = omega arith
used_le (r ∷ rings) h = omega (arith, sum_by-cons slots_used r rings, sum_by-cons slots_of r rings, h 0, used_le rings (λ n. h (suc n)))

slack : (rings : List Ring) (k : ℕ) → ((i : ℕ) → slots_used (ring_at rings i) ≤ slots_of (ring_at rings i))
    → sum_by slots_used rings + (slots_of (ring_at rings k) - slots_used (ring_at rings k)) ≤ sum_by slots_of rings
slack [] k h = omega arith
slack (r ∷ rings) zero h = omega (arith, sum_by-cons slots_used r rings, sum_by-cons slots_of r rings, h 0, used_le rings (λ n. h (suc n)))
slack (r ∷ rings) (suc k) h = omega (arith, sum_by-cons slots_used r rings, sum_by-cons slots_of r rings, h 0, slack rings k (λ n. h (suc n)))

-- a ring's windows stand in the frames
pub ring_stands : (f : Live) (rings : List Ring) (k : ℕ) → Joined f rings → Stands f (ring_at rings k).segments
ring_stands f rings k j = record {
  counted = λ q. omega (arith, at_le (named_by q) rings k refl, j.counts q);
  within = λ q. j.within q k;
  single = λ q. omega (arith, at_le (opens_by q) rings k refl, j.single q);
  apart = λ q. j.apart q k k;
  some = j.some k;
}

-- each free slot of a ring has a credit
pub credits_for : (f : Live) (rings : List Ring) (k : ℕ) → IsSound f → Joined f rings → f.held + (slots_of (ring_at rings k) - slots_used (ring_at rings k)) ≤ f.reserved
credits_for f rings k s j = omega (arith, s.spread, j.total, slack rings k j.fits, j.reserve)

-- a frame that was not live is named by no ring
not_named : (f : Live) (rings : List Ring) (q i : ℕ) → Joined f rings → f.count q ≡ 0 → named q (ring_at rings i).segments ≡ 0
not_named f rings q i j e = omega (arith, at_le (named_by q) rings i refl, j.counts q)

not_open : (f : Live) (rings : List Ring) (q i : ℕ) → Joined f rings → f.count q ≡ 0 → opens q (ring_at rings i).segments ≡ 0
not_open f rings q i j e = omega (arith, not_named f rings q i j e, opens_le_named q (ring_at rings i).segments)

opens_le_names : (rings : List Ring) (q : ℕ) → sum_by (opens_by q) rings ≤ sum_by (named_by q) rings
opens_le_names rings q = sum_by-le-sum_by (opens_by q) (named_by q) rings (λ r. opens_le_named q r.segments)

-- the parts of joined_after that speak of two rings
after_single : (f g : Live) (rings : List Ring) (k : ℕ) (r : Ring) (src : List Window) (q : ℕ) → k < length rings → Joined f rings
    → Keeps src (ring_at rings k).segments r.segments f g → sum_by (opens_by q) (set rings k r) ≤ 1
after_single f g rings k r src q l j c = elim (cases_lt 0 (f.count q)) [
  | inl p ↦ omega (arith, sum_by-set (opens_by q) rings k r no_ring l, j.single q, c.opened q p)
  | inr z ↦ omega (arith, sum_by-set (opens_by q) rings k r no_ring l, opens_le_names rings q, j.counts q, c.single q)
]

after_reach : (f g : Live) (rings : List Ring) (k : ℕ) (r : Ring) (src : List Window) (q b : ℕ) → b ≢ k → Joined f rings → reach q src ≤ limit q (ring_at rings b).segments
    → Keeps src (ring_at rings k).segments r.segments f g → reach q r.segments ≤ limit q (ring_at rings b).segments
after_reach f g rings k r src q b n j s c = elim (cases_lt 0 (f.count q)) [
  | inl p ↦ elim (cases_lt 0 (opens q (ring_at rings k).segments)) [
    | inl o ↦ let shut : opens q (ring_at rings b).segments ≡ 0 = omega (arith, two_le (opens_by q) rings k b refl n, j.single q) in
        omega (arith, limit_closed q (ring_at rings b).segments shut, c.within q)
    | inr z ↦ omega (arith, c.reached q p (omega arith), j.apart q k b, s)
  ]
  | inr z ↦ omega (arith, limit_closed q (ring_at rings b).segments (not_open f rings q b j (omega arith)), c.within q)
]

after_limit : (f g : Live) (rings : List Ring) (k : ℕ) (r : Ring) (src : List Window) (q a : ℕ) → Joined f rings
    → Keeps src (ring_at rings k).segments r.segments f g → reach q (ring_at rings a).segments ≤ limit q r.segments
after_limit f g rings k r src q a j c = elim (cases_lt 0 (f.count q)) [
  | inl p ↦ omega (arith, j.apart q a k, c.limits q p)
  | inr z ↦ omega (arith, reach_unnamed q (ring_at rings a).segments (not_named f rings q a j (omega arith)))
]

-- a call on ring k. src: windows that were copied into it ([] for append, take_into and clear)
pub joined_after : (f g : Live) (rings : List Ring) (k : ℕ) (r : Ring) (src : List Window) → k < length rings → Joined f rings
    → ((q j : ℕ) → reach q src ≤ limit q (ring_at rings j).segments) → Keeps src (ring_at rings k).segments r.segments f g
    → slots_of r ≡ slots_of (ring_at rings k) → slots_used r ≤ slots_of r → Joined g (set rings k r)
joined_after f g rings k r src l j s c e u = record {
  counts = λ q. omega (arith, sum_by-set (named_by q) rings k r no_ring l, j.counts q, c.counts q);
  total = omega (arith, sum_by-set slots_used rings k r no_ring l, j.total, c.total);
  single = λ q. after_single f g rings k r src q l j c;
  within = λ q i. set_all (λ (x : Ring). reach q x.segments ≤ PAGE_SIZE) rings k r i l (c.within q) (λ n. j.within q i);
  apart = λ q a b. set_all (λ (x : Ring). reach q x.segments ≤ limit q (ring_at (set rings k r) b).segments) rings k r a l
      (set_all (λ (y : Ring). reach q r.segments ≤ limit q y.segments) rings k r b l (c.apart q) (λ n. after_reach f g rings k r src q b n j (s q b) c))
      (λ m. set_all (λ (y : Ring). reach q (ring_at rings a).segments ≤ limit q y.segments) rings k r b l (after_limit f g rings k r src q a j c) (λ n. j.apart q a b));
  some = λ i. set_all (λ (x : Ring). NoEmpty x.segments) rings k r i l c.some (λ n. j.some i);
  fits = λ i. set_all (λ (x : Ring). slots_used x ≤ slots_of x) rings k r i l u (λ n. j.fits i);
  reserve = omega (arith, sum_by-set slots_of rings k r no_ring l, j.reserve, e, c.reservation);
}

with_segments : (n : ℕ) {xs ys : List Segment} → xs ≡ ys → let a : Queue = record { capacity = n; segments = xs } in let b : Queue = record { capacity = n; segments = ys } in a ≡ b
with_segments n e = λ i. record { capacity = n; segments = e i }

-- the queue of every other ring stays

pub queue_stays : (f g : Live) (rings : List Ring) (k i : ℕ) (r : Ring) (src : List Window) → Joined f rings
    → Keeps src (ring_at rings k).segments r.segments f g → i ≢ k → queue_of g (ring_at rings i) ≡ queue_of f (ring_at rings i)
queue_stays f g rings k i r src j c n =
    let same : map (segment_of g) (ring_at rings i).segments ≡ map (segment_of f) (ring_at rings i).segments = segments_stay f g (ring_at rings i).segments (λ q m.
    let both : named q (ring_at rings k).segments + named q (ring_at rings i).segments ≤ f.count q = omega (arith, two_le (named_by q) rings k i refl n, j.counts q) in
    take_less _ _ _ _ (j.apart q i k) (c.contents q (omega (arith, both, m)) (omega (arith, both, m, c.counts q)))) in
    with_segments (ring_at rings i).capacity same

-- a ring with other slots, as many as are in use at least, where all slots stay within the reservation
pub joined_resized : (f : Live) (rings : List Ring) (k slots : ℕ) → k < length rings → Joined f rings → slots_used (ring_at rings k) ≤ slots
    → sum_by slots_of rings + slots ≤ f.reserved + slots_of (ring_at rings k) → Joined f (set rings k (record { capacity = slots; segments = (ring_at rings k).segments }))
joined_resized f rings k slots l j u within =
    let r : Ring = record { capacity = slots; segments = (ring_at rings k).segments } in
    record {
      counts = λ q. omega (arith, sum_by-set (named_by q) rings k r no_ring l, j.counts q);
      total = omega (arith, sum_by-set slots_used rings k r no_ring l, j.total);
      single = λ q. omega (arith, sum_by-set (opens_by q) rings k r no_ring l, j.single q);
      within = λ q i. set_all (λ (x : Ring). reach q x.segments ≤ PAGE_SIZE) rings k r i l (j.within q k) (λ n. j.within q i);
      apart = λ q a b. set_all (λ (x : Ring). reach q x.segments ≤ limit q (ring_at (set rings k r) b).segments) rings k r a l
          (set_all (λ (y : Ring). reach q r.segments ≤ limit q y.segments) rings k r b l (j.apart q k k) (λ n. j.apart q k b))
          (λ m. set_all (λ (y : Ring). reach q (ring_at rings a).segments ≤ limit q y.segments) rings k r b l (j.apart q a k) (λ n. j.apart q a b));
      some = λ i. set_all (λ (x : Ring). NoEmpty x.segments) rings k r i l (j.some k) (λ n. j.some i);
      fits = λ i. set_all (λ (x : Ring). slots_used x ≤ slots_of x) rings k r i l u (λ n. j.fits i);
      reserve = omega (arith, sum_by-set slots_of rings k r no_ring l, within);
    }

-- what joined_after asks of src
pub no_source : (rings : List Ring) (q j : ℕ) → reach q [] ≤ limit q (ring_at rings j).segments
no_source rings q j = omega arith

pub source_at : (f : Live) (rings : List Ring) (i : ℕ) → Joined f rings → (q j : ℕ) → reach q (ring_at rings i).segments ≤ limit q (ring_at rings j).segments
source_at f rings i j q k = j.apart q i k

-- Two rings of a table

-- their windows stand in the frames together
pub rings_stand : (f : Live) (rings : List Ring) (i j : ℕ) → j ≢ i → Joined f rings → Stands f ((ring_at rings i).segments ++ (ring_at rings j).segments)
rings_stand f rings i j n is =
    let a : List Window = (ring_at rings i).segments in
    let b : List Window = (ring_at rings j).segments in
    record {
      counted = λ q. omega (arith, named-append q a b, two_le (named_by q) rings i j refl n, is.counts q);
      within = λ q. omega (arith, reach-append q a b, is.within q i, is.within q j);
      single = λ q. omega (arith, opens-append q a b, two_le (opens_by q) rings i j refl n, is.single q);
      apart = λ q. omega (arith, reach-append q a b, limit-append q a b, is.apart q i i, is.apart q i j, is.apart q j i, is.apart q j j);
      some = NoEmpty-append a b (is.some i) (is.some j);
    }

-- an empty table in frames of which none is live
pub joined_nothing : (f : Live) → ((q : ℕ) → f.count q ≡ 0) → f.shares ≡ 0 → Joined f []
joined_nothing f c s = record {
  counts = λ q. sym (c q);
  total = sym s;
  single = λ q. omega arith;
  within = λ q i. omega arith;
  apart = λ q i j. omega arith;
  some = λ i. tt;
  fits = λ i. omega arith;
  reserve = omega arith;
}

-- a new ring with nothing in it
pub joined_pushed : (f : Live) (rings : List Ring) (c : ℕ) → Joined f rings → sum_by slots_of rings + c ≤ f.reserved
    → Joined f (rings ++ record { capacity = c; segments = [] } ∷ [])
joined_pushed f rings c j l =
    let r : Ring = record { capacity = c; segments = [] } in
    record {
      counts = λ q. omega (arith, sum_by_push (named_by q) rings r, j.counts q);
      total = omega (arith, sum_by_push slots_used rings r, j.total);
      single = λ q. omega (arith, sum_by_push (opens_by q) rings r, j.single q);
      within = λ q i. push_all (λ (x : Ring). reach q x.segments ≤ PAGE_SIZE) rings r i (omega arith) (omega arith) (j.within q);
      apart = λ q a b. push_all (λ (x : Ring). reach q x.segments ≤ limit q (ring_at (rings ++ r ∷ []) b).segments) rings r a (omega arith) (omega arith)
          (λ n. push_all (λ (y : Ring). reach q (ring_at rings n).segments ≤ limit q y.segments) rings r b (j.within q n) (j.within q n) (λ m. j.apart q n m));
      some = λ i. push_all (λ (x : Ring). NoEmpty x.segments) rings r i tt tt j.some;
      fits = λ i. push_all (λ (x : Ring). slots_used x ≤ slots_of x) rings r i (omega arith) (omega arith) j.fits;
      reserve = omega (arith, sum_by_push slots_of rings r, l);
    }

cleared : (f : Live) (rings : List Ring) (k : ℕ) → k < length rings → Joined f rings → (ring_at rings k).segments ≡ [] → Joined f (set rings k no_ring)
cleared f rings k l j e = record {
  counts = λ q. let z : named_by q (ring_at rings k) ≡ 0 = ap (named q) e in omega (arith, z, sum_by-set (named_by q) rings k no_ring no_ring l, j.counts q);
  total = let z : slots_used (ring_at rings k) ≡ 0 = ap (λ (w : List Window). length w) e in omega (arith, z, sum_by-set slots_used rings k no_ring no_ring l, j.total);
  single = λ q. omega (arith, sum_by-set (opens_by q) rings k no_ring no_ring l, j.single q);
  within = λ q i. set_all (λ (x : Ring). reach q x.segments ≤ PAGE_SIZE) rings k no_ring i l (omega arith) (λ n. j.within q i);
  apart = λ q a b. set_all (λ (x : Ring). reach q x.segments ≤ limit q (ring_at (set rings k no_ring) b).segments) rings k no_ring a l (omega arith)
      (λ m. set_all (λ (y : Ring). reach q (ring_at rings a).segments ≤ limit q y.segments) rings k no_ring b l (j.within q a) (λ n. j.apart q a b));
  some = λ i. set_all (λ (x : Ring). NoEmpty x.segments) rings k no_ring i l tt (λ n. j.some i);
  fits = λ i. set_all (λ (x : Ring). slots_used x ≤ slots_of x) rings k no_ring i l (omega arith) (λ n. j.fits i);
  reserve = omega (arith, sum_by-set slots_of rings k no_ring no_ring l, j.reserve);
}

pub joined_cleared : (f : Live) (rings : List Ring) (k : ℕ) → Joined f rings → (ring_at rings k).segments ≡ [] → Joined f (set rings k no_ring)
joined_cleared f rings k j e = elim (cases_lt k (length rings)) [
  | inl l ↦ cleared f rings k l j e
  | inr g ↦ subst (λ (xs : List Ring). Joined f xs) (sym (set_past rings k no_ring g)) j
]

-- there are no more live frames than slots in use, and there are none only if no ring has a window
pub held_le_used : (f : Live) (rings : List Ring) → IsSound f → Joined f rings → f.held ≤ sum_by slots_used rings
held_le_used f rings s j = omega (arith, s.spread, j.total)

pub none_held : (f : Live) (rings : List Ring) → IsSound f → Joined f rings → f.held ≡ 0 → (i : ℕ) → (ring_at rings i).segments ≡ []
none_held f rings s j h i = nil_from_length (ring_at rings i).segments (omega (arith, at_le slots_used rings i refl, j.total, s.none h))

-- the same of the bytes of the queues
pub none_held_bytes : (f : Live) (rings : List Ring) → IsSound f → Joined f rings → f.held ≡ 0 → (i : ℕ) → bytes_of (queue_of f (ring_at rings i)) ≡ []
none_held_bytes f rings s j h i = ap (λ (w : List Window). joined (map (segment_of f) w)) (none_held f rings s j h i)

is_segment : (f : Live) (w : Window) (ws : List Window) → IsSound f → Stands f (w ∷ ws) → IsSegment (segment_of f w)
is_segment f w ws s t =
    let len : length (segment_of f w).bytes ≡ w.len = window_whole f w ws s t in
    let at : (0 < named w.frame (w ∷ ws)) × (w.from + w.len ≤ reach w.frame (w ∷ ws)) = reach_here w ws in
    let room : (segment_of f w).room ≤ PAGE_SIZE - (w.from + w.len) = grind (arith, nat_tests) in
    record { some = omega (arith, len, t.some.0); fits = omega (arith, len, room, at.1, t.within w.frame) }

each_segment : (f : Live) (ws : List Window) → IsSound f → Stands f ws → (k : ℕ) (d : Segment) → k < length (map (segment_of f) ws) → IsSegment (slice_index_or (map (segment_of f) ws) k d)
each_segment f [] s t k d h = absurd (omega arith)
each_segment f (w ∷ ws) s t zero d h = is_segment f w ws s t
each_segment f (w ∷ ws) s t (suc k) d h = each_segment f ws s (stands_rest f w ws t) k d (omega arith)

-- what a ring shows is a queue, and its bytes are as many as its windows show
pub ring_queue : (f : Live) (r : Ring) → IsSound f → Stands f r.segments → slots_used r ≤ slots_of r → IsQueue (queue_of f r)
ring_queue f r s t u = record { each = each_segment f r.segments s t; slots = omega (arith, length-map r.segments (segment_of f), u) }

pub bytes_number : (f : Live) (r : Ring) → IsSound f → Stands f r.segments → length (bytes_of (queue_of f r)) ≡ bytes_in r.segments
bytes_number f r s t = segments_length f r.segments s t
