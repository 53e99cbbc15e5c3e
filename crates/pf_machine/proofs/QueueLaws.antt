-- Laws of queues: what put, take, tee and a new capacity do to the bytes, the segments and the room.

use Rattle.std.proofs.Common.{ℕ, zero, suc, ◌+◌, ◌-◌, ◌*◌, ◌<◌, ◌≤◌, ◌≡◌, Bool, true, false, List, ◌∷◌, ◌++◌, length, take, drop, refl, ap, sym, ◌∙◌, subst, ◌⊎◌, inl, inr, ⊎_elim, arith, append-nil, append_assoc, length-append, length-take, length-drop, []}
use Rattle.std.proofs.lemmas.Bool.{leb-true, leb-false, le-leb, lt-leb, cases_lt}
use Rattle.std.proofs.lemmas.List.{take-append-drop, take_all, take-append-le, drop_all, drop-append-le, nil_from_length}
use Rattle.std.proofs.lemmas.List.Elements.{All-nil, All-cons, All-head, All-tail, All-append}
use Rattle.std.proofs.Math.Seq.{drop-append-add, take-append-add}
use Rattle.std.specs.Prelude.{All, nat_le, if◌then◌else◌}
use Rattle.pf_machine.specs.Queue.{Segment, Queue, IsSegment, IsQueue, joined, bytes_of, free_of, last_room, room_of, topped_up, pieces, put, without_front, taken, after_take, copied, tee_number, after_tee}
use Rattle.pf_machine.specs.Progress.{portion}
use Rattle.pf_base.specs.declared.TheConstants.{PAGE_SIZE}

-- Segments in a row

pub joined-append : (ss ts : List Segment) → joined (ss ++ ts) ≡ joined ss ++ joined ts
joined-append [] ts = refl
joined-append (s ∷ ss) ts = ap (λ x. s.bytes ++ x) (joined-append ss ts) ∙ sym (append_assoc s.bytes (joined ss) (joined ts))

-- a segment's room shows only where it is the last
pub last_room-cons : (s : Segment) (ss : List Segment) → 0 < length ss → last_room (s ∷ ss) ≡ last_room ss
last_room-cons s [] l = absurd (omega (arith, l))
last_room-cons s (t ∷ ss) l = refl

pub last_room-append : (ss ts : List Segment) → 0 < length ts → last_room (ss ++ ts) ≡ last_room ts
last_room-append [] ts l = refl
last_room-append (s ∷ ss) ts l =
    last_room-cons s (ss ++ ts) (omega (arith, l, length-append ss ts)) ∙ last_room-append ss ts l

-- Pieces

pub pieces-nil : (k : ℕ) → pieces k [] ≡ []
pieces-nil zero = refl
pieces-nil (suc k) = refl

pub pieces-some : (k : ℕ) (x : List ℕ) → 0 < k → 0 < length x → 0 < length (pieces k x)
pieces-some zero x k l = absurd (omega (arith, k))
pieces-some (suc k) [] h l = absurd (omega (arith, l))
pieces-some (suc k) (b ∷ x) h l = omega arith

-- their bytes are the bytes, where so many pages hold them
pub joined-pieces : (k : ℕ) (x : List ℕ) → length x ≤ PAGE_SIZE * k → joined (pieces k x) ≡ x
joined-pieces zero x l = sym (nil_from_length x (omega (arith, l)))
joined-pieces (suc k) [] l = refl
joined-pieces (suc k) (b ∷ x) l =
    ap (λ y. take PAGE_SIZE (b ∷ x) ++ y) (joined-pieces k (drop PAGE_SIZE (b ∷ x)) (omega (arith, l, length-drop PAGE_SIZE (b ∷ x))))
    ∙ take-append-drop PAGE_SIZE (b ∷ x)

-- each is a full page but for the last one's room
pub length-pieces : (k : ℕ) (x : List ℕ) → length x ≤ PAGE_SIZE * k → length x + last_room (pieces k x) ≡ PAGE_SIZE * length (pieces k x)
length-pieces zero x l = omega (arith, l)
length-pieces (suc k) [] l = refl
length-pieces (suc k) (b ∷ x) l =
    let rest : List ℕ = drop PAGE_SIZE (b ∷ x) in
    let head : Segment = record { bytes = take PAGE_SIZE (b ∷ x); room = PAGE_SIZE - length (b ∷ x) } in
    let left : length rest ≡ length (b ∷ x) - PAGE_SIZE = length-drop PAGE_SIZE (b ∷ x) in
    let later : length rest + last_room (pieces k rest) ≡ PAGE_SIZE * length (pieces k rest) = length-pieces k rest (omega (arith, l, left)) in
    ⊎_elim
    (λ more.
    let some : 0 < length (pieces k rest) = pieces-some k rest (omega (arith, l, more)) (omega (arith, left, more)) in
    omega (arith, later, left, more, last_room-cons head (pieces k rest) some))
    (λ one.
    let none : pieces k rest ≡ [] = ap (pieces k) (drop_all PAGE_SIZE (b ∷ x) one) ∙ pieces-nil k in
    subst (λ (ps : List Segment). length (b ∷ x) + last_room (head ∷ ps) ≡ PAGE_SIZE * length (head ∷ ps)) (sym none) (omega (arith, one)))
    (cases_lt PAGE_SIZE (length (b ∷ x)))

pub length-pieces-le : (k : ℕ) (x : List ℕ) → length (pieces k x) ≤ k
length-pieces-le zero x = omega arith
length-pieces-le (suc k) [] = omega arith
length-pieces-le (suc k) (b ∷ x) = omega (arith, length-pieces-le k (drop PAGE_SIZE (b ∷ x)))

pub IsSegment-pieces : (k : ℕ) (x : List ℕ) → All IsSegment (pieces k x)
IsSegment-pieces zero x = All-nil IsSegment
IsSegment-pieces (suc k) [] = All-nil IsSegment
IsSegment-pieces (suc k) (b ∷ x) =
    All-cons IsSegment (record { bytes = take PAGE_SIZE (b ∷ x); room = PAGE_SIZE - length (b ∷ x) }) (pieces k (drop PAGE_SIZE (b ∷ x)))
    (record { some = omega (arith, length-take PAGE_SIZE (b ∷ x)); fits = omega (arith, length-take PAGE_SIZE (b ∷ x)) })
    (IsSegment-pieces k (drop PAGE_SIZE (b ∷ x)))

-- The last segment topped up

pub joined-topped_up : (ss : List Segment) (x : List ℕ) → joined (topped_up ss x) ≡ joined ss ++ take (last_room ss) x
joined-topped_up [] x = refl
joined-topped_up (s ∷ []) x = append-nil (s.bytes ++ take s.room x) ∙ ap (λ y. y ++ take s.room x) (sym (append-nil s.bytes))
joined-topped_up (s ∷ t ∷ ss) x =
    ap (λ y. s.bytes ++ y) (joined-topped_up (t ∷ ss) x) ∙ sym (append_assoc s.bytes (joined (t ∷ ss)) (take (last_room (t ∷ ss)) x))

pub length-topped_up : (ss : List Segment) (x : List ℕ) → length (topped_up ss x) ≡ length ss
length-topped_up [] x = refl
length-topped_up (s ∷ []) x = refl
length-topped_up (s ∷ t ∷ ss) x = ap (λ n. suc n) (length-topped_up (t ∷ ss) x)

pub last_room-topped_up : (ss : List Segment) (x : List ℕ) → last_room (topped_up ss x) ≡ last_room ss - length x
last_room-topped_up [] x = omega arith
last_room-topped_up (s ∷ []) x = refl
last_room-topped_up (s ∷ t ∷ ss) x =
    last_room-cons s (topped_up (t ∷ ss) x) (omega (arith, length-topped_up (t ∷ ss) x)) ∙ last_room-topped_up (t ∷ ss) x

pub IsSegment-topped_up : (ss : List Segment) (x : List ℕ) → All IsSegment ss → All IsSegment (topped_up ss x)
IsSegment-topped_up [] x each = All-nil IsSegment
IsSegment-topped_up (s ∷ []) x each =
    let is : IsSegment s = All-head IsSegment s [] each in
    All-cons IsSegment (record { bytes = s.bytes ++ take s.room x; room = s.room - length x }) []
    (record {
      some = omega (arith, is.some, length-append s.bytes (take s.room x));
      fits = omega (arith, is.fits, length-append s.bytes (take s.room x), length-take s.room x);
    })
    (All-nil IsSegment)
IsSegment-topped_up (s ∷ t ∷ ss) x each =
    All-cons IsSegment s (topped_up (t ∷ ss) x) (All-head IsSegment s (t ∷ ss) each) (IsSegment-topped_up (t ∷ ss) x (All-tail IsSegment s (t ∷ ss) each))

-- Put

-- the bytes stand behind what was there
pub bytes_of-put : (q : Queue) (x : List ℕ) → length x ≤ room_of q → bytes_of (put q x) ≡ bytes_of q ++ x
bytes_of-put q x fits =
    let room : ℕ = last_room q.segments in
    joined-append (topped_up q.segments x) (pieces (free_of q) (drop room x))
    ∙ ap (λ y. joined (topped_up q.segments x) ++ y) (joined-pieces (free_of q) (drop room x) (omega (arith, fits, length-drop room x)))
    ∙ ap (λ y. y ++ drop room x) (joined-topped_up q.segments x)
    ∙ append_assoc (joined q.segments) (take room x) (drop room x)
    ∙ ap (λ y. joined q.segments ++ y) (take-append-drop room x)

-- how many segments there are: one more for each page that is begun behind the last room
pub length-put : (q : Queue) (x : List ℕ) → length (put q x).segments ≡ length q.segments + length (pieces (free_of q) (drop (last_room q.segments) x))
length-put q x =
    length-append (topped_up q.segments x) (pieces (free_of q) (drop (last_room q.segments) x))
    ∙ ap (λ n. n + length (pieces (free_of q) (drop (last_room q.segments) x))) (length-topped_up q.segments x)

-- the room falls by the number of bytes
pub room_of-put : (q : Queue) (x : List ℕ) → length x ≤ room_of q → room_of (put q x) ≡ room_of q - length x
room_of-put q x fits =
    let room : ℕ = last_room q.segments in
    let rest : List ℕ = drop room x in
    let ps : List Segment = pieces (free_of q) rest in
    let left : length rest ≡ length x - room = length-drop room x in
    let many : length (put q x).segments ≡ length q.segments + length ps = length-put q x in
    let pages : length rest + last_room ps ≡ PAGE_SIZE * length ps = length-pieces (free_of q) rest (omega (arith, fits, left)) in
    ⊎_elim
    (λ more.
    let some : 0 < length ps = pieces-some (free_of q) rest (omega (arith, fits, more)) (omega (arith, left, more)) in
    let last : last_room (put q x).segments ≡ last_room ps = last_room-append (topped_up q.segments x) ps some in
    omega (arith, fits, left, many, pages, more, last, length-pieces-le (free_of q) rest))
    (λ one.
    let none : ps ≡ [] = ap (pieces (free_of q)) (drop_all room x one) ∙ pieces-nil (free_of q) in
    let last : last_room (put q x).segments ≡ room - length x =
    ap (λ (ts : List Segment). last_room (topped_up q.segments x ++ ts)) none ∙ ap last_room (append-nil (topped_up q.segments x)) ∙ last_room-topped_up q.segments x in
    omega (arith, fits, many, one, last, ap (λ (ts : List Segment). length ts) none))
    (cases_lt room (length x))

pub IsQueue-put : (q : Queue) (x : List ℕ) → IsQueue q → IsQueue (put q x)
IsQueue-put q x is = record {
  each = All-append IsSegment (topped_up q.segments x) (pieces (free_of q) (drop (last_room q.segments) x)) (IsSegment-topped_up q.segments x is.each) (IsSegment-pieces (free_of q) (drop (last_room q.segments) x));
  slots = omega (arith, is.slots, length-put q x, length-pieces-le (free_of q) (drop (last_room q.segments) x));
}

-- Take

drop-past : (n : ℕ) (xs ys : List ℕ) → length xs ≤ n → drop n (xs ++ ys) ≡ drop (n - length xs) ys
drop-past n xs ys l = ap (λ m. drop m (xs ++ ys)) (omega (arith, l)) ∙ drop-append-add xs ys (n - length xs)

pub joined-without_front : (n : ℕ) (ss : List Segment) → joined (without_front n ss) ≡ drop n (joined ss)
joined-without_front n [] = sym (drop_all n [] (omega arith))
joined-without_front n (s ∷ ss) =
    elim (nat_le (length s.bytes) n) as (λ t. nat_le (length s.bytes) n ≡ t → joined (if t then without_front (n - length s.bytes) ss else record s { bytes = drop n s.bytes } ∷ ss) ≡ drop n (s.bytes ++ joined ss)) [
      | true ↦ λ e. joined-without_front (n - length s.bytes) ss ∙ sym (drop-past n s.bytes (joined ss) (leb-true (length s.bytes) n e))
      | false ↦ λ e. sym (drop-append-le n s.bytes (joined ss) (omega (arith, leb-false (length s.bytes) n e)))
    ] refl

-- what is taken is no longer there
pub bytes_of-after_take : (q : Queue) (n : ℕ) → bytes_of (after_take q n) ≡ drop n (bytes_of q)
bytes_of-after_take q n = joined-without_front n q.segments

-- what is taken and what is left are what there was
pub taken-bytes_of : (q : Queue) (n : ℕ) → taken q n ++ bytes_of (after_take q n) ≡ bytes_of q
taken-bytes_of q n = ap (λ x. taken q n ++ x) (bytes_of-after_take q n) ∙ take-append-drop n (bytes_of q)

pub length-without_front : (n : ℕ) (ss : List Segment) → length (without_front n ss) ≤ length ss
length-without_front n [] = omega arith
length-without_front n (s ∷ ss) =
    elim (nat_le (length s.bytes) n) as (λ t. length (if t then without_front (n - length s.bytes) ss else record s { bytes = drop n s.bytes } ∷ ss) ≤ length (s ∷ ss)) [
      | true ↦ omega (arith, length-without_front (n - length s.bytes) ss)
      | false ↦ omega arith
    ]

pub IsSegment-without_front : (n : ℕ) (ss : List Segment) → All IsSegment ss → All IsSegment (without_front n ss)
IsSegment-without_front n [] each = All-nil IsSegment
IsSegment-without_front n (s ∷ ss) each =
    elim (nat_le (length s.bytes) n) as (λ t. nat_le (length s.bytes) n ≡ t → All IsSegment (if t then without_front (n - length s.bytes) ss else record s { bytes = drop n s.bytes } ∷ ss)) [
      | true ↦ λ e. IsSegment-without_front (n - length s.bytes) ss (All-tail IsSegment s ss each)
      | false ↦ λ e.
          let is : IsSegment s = All-head IsSegment s ss each in
          All-cons IsSegment (record s { bytes = drop n s.bytes }) ss
          (record { some = omega (arith, leb-false (length s.bytes) n e, length-drop n s.bytes); fits = omega (arith, is.fits, length-drop n s.bytes) })
          (All-tail IsSegment s ss each)
    ] refl

pub IsQueue-after_take : (q : Queue) (n : ℕ) → IsQueue q → IsQueue (after_take q n)
IsQueue-after_take q n is = record {
  each = IsSegment-without_front n q.segments is.each;
  slots = omega (arith, is.slots, length-without_front n q.segments);
}

-- a cut segment keeps its room
pub without_front-cut : (n : ℕ) (s : Segment) (ss : List Segment) → n < length s.bytes → without_front n (s ∷ ss) ≡ record s { bytes = drop n s.bytes } ∷ ss
without_front-cut n s ss l =
    ap (λ t. if t then without_front (n - length s.bytes) ss else record s { bytes = drop n s.bytes } ∷ ss) (lt-leb (length s.bytes) n l)

-- an emptied one goes
pub without_front-emptied : (n : ℕ) (s : Segment) (ss : List Segment) → length s.bytes ≤ n → without_front n (s ∷ ss) ≡ without_front (n - length s.bytes) ss
without_front-emptied n s ss l =
    ap (λ t. if t then without_front (n - length s.bytes) ss else record s { bytes = drop n s.bytes } ∷ ss) (le-leb (length s.bytes) n l)

pub without_front-all : (n : ℕ) (ss : List Segment) → length (joined ss) ≤ n → without_front n ss ≡ []
without_front-all n [] l = refl
without_front-all n (s ∷ ss) l =
    let all : length s.bytes + length (joined ss) ≤ n = subst (λ m. m ≤ n) (length-append s.bytes (joined ss)) l in
    without_front-emptied n s ss (omega (arith, all)) ∙ without_front-all (n - length s.bytes) ss (omega (arith, all))

-- the last segment keeps its room as long as a byte is left
pub last_room-without_front : (n : ℕ) (ss : List Segment) → n < length (joined ss) → last_room (without_front n ss) ≡ last_room ss
last_room-without_front n [] l = refl
last_room-without_front n (s ∷ []) l =
    ap last_room (without_front-cut n s [] (omega (arith, l, length-append s.bytes [])))
last_room-without_front n (s ∷ t ∷ ss) l =
    elim (nat_le (length s.bytes) n) as (λ b. nat_le (length s.bytes) n ≡ b → last_room (if b then without_front (n - length s.bytes) (t ∷ ss) else record s { bytes = drop n s.bytes } ∷ t ∷ ss) ≡ last_room (t ∷ ss)) [
      | true ↦ λ e. last_room-without_front (n - length s.bytes) (t ∷ ss) (omega (arith, l, length-append s.bytes (joined (t ∷ ss)), leb-true (length s.bytes) n e))
      | false ↦ λ e. refl
    ] refl

-- the room grows by a page for each segment that was emptied
pub room_of-after_take : (q : Queue) (n : ℕ) → IsQueue q → n < length (bytes_of q) → room_of (after_take q n) ≡ room_of q + PAGE_SIZE * (length q.segments - length (after_take q n).segments)
room_of-after_take q n is l =
    omega (arith, is.slots, last_room-without_front n q.segments l, length-without_front n q.segments)

-- an emptied queue has the room of all its slots
pub room_of-emptied : (q : Queue) (n : ℕ) → length (bytes_of q) ≤ n → room_of (after_take q n) ≡ PAGE_SIZE * q.capacity
room_of-emptied q n l =
    ap (λ (ss : List Segment). room_of (record q { segments = ss })) (without_front-all n q.segments l) ∙ omega arith

-- Tee and splice

copied-none : (k : ℕ) (ss : List Segment) → copied k 0 ss ≡ []
copied-none zero ss = refl
copied-none (suc k) ss = refl

-- what is copied is the front of the bytes
pub joined-copied : (k n : ℕ) (ss : List Segment) → joined (copied k n ss) ≡ take (length (joined (copied k n ss))) (joined ss)
joined-copied zero n ss = refl
joined-copied (suc k) zero ss = refl
joined-copied (suc k) (suc n) [] = refl
joined-copied (suc k) (suc n) (s ∷ ss) =
    let more : List Segment = copied k (suc n - length s.bytes) ss in
    ⊎_elim
    (λ cut.
    let end : suc n - length s.bytes ≡ 0 = omega (arith, cut) in
    let none : joined more ≡ [] = ap (λ m. joined (copied k m ss)) end ∙ ap joined (copied-none k ss) in
    let front : take (suc n) s.bytes ++ joined more ≡ take (suc n) s.bytes = ap (λ y. take (suc n) s.bytes ++ y) none ∙ append-nil (take (suc n) s.bytes) in
    let count : suc n ≡ length (take (suc n) s.bytes ++ joined more) = omega (arith, cut, ap (λ (y : List ℕ). length y) front, length-take (suc n) s.bytes) in
    front
    ∙ sym (take-append-le (suc n) s.bytes (joined ss) (omega (arith, cut)))
    ∙ ap (λ m. take m (s.bytes ++ joined ss)) count)
    (λ whole.
    let all : take (suc n) s.bytes ≡ s.bytes = take_all (suc n) s.bytes whole in
    subst (λ (y : List ℕ). y ++ joined more ≡ take (length (y ++ joined more)) (s.bytes ++ joined ss)) (sym all)
    (ap (λ y. s.bytes ++ y) (joined-copied k (suc n - length s.bytes) ss)
    ∙ sym (take-append-add s.bytes (joined ss) (length (joined more)))
    ∙ ap (λ m. take m (s.bytes ++ joined ss)) (sym (length-append s.bytes (joined more)))))
    (cases_lt (suc n) (length s.bytes))

-- at most n bytes
pub length-joined-copied : (k n : ℕ) (ss : List Segment) → length (joined (copied k n ss)) ≤ n
length-joined-copied zero n ss = omega arith
length-joined-copied (suc k) zero ss = omega arith
length-joined-copied (suc k) (suc n) [] = omega arith
length-joined-copied (suc k) (suc n) (s ∷ ss) =
    omega (arith, length-append (take (suc n) s.bytes) (joined (copied k (suc n - length s.bytes) ss)), length-take (suc n) s.bytes, length-joined-copied k (suc n - length s.bytes) ss)

-- at most k segments
pub length-copied : (k n : ℕ) (ss : List Segment) → length (copied k n ss) ≤ k
length-copied zero n ss = omega arith
length-copied (suc k) zero ss = omega arith
length-copied (suc k) (suc n) [] = omega arith
length-copied (suc k) (suc n) (s ∷ ss) = omega (arith, length-copied k (suc n - length s.bytes) ss)

pub last_room-copied : (k n : ℕ) (ss : List Segment) → last_room (copied k n ss) ≡ 0
last_room-copied zero n ss = refl
last_room-copied (suc k) zero ss = refl
last_room-copied (suc k) (suc n) [] = refl
last_room-copied (suc k) (suc n) (s ∷ ss) =
    let head : Segment = record { bytes = take (suc n) s.bytes; room = 0 } in
    let more : List Segment = copied k (suc n - length s.bytes) ss in
    elim more as (λ (ts : List Segment). last_room ts ≡ 0 → last_room (head ∷ ts) ≡ 0) [ [] ↦ λ _. refl | t ∷ ts ↦ λ e. e ] (last_room-copied k (suc n - length s.bytes) ss)

pub IsSegment-copied : (k n : ℕ) (ss : List Segment) → All IsSegment ss → All IsSegment (copied k n ss)
IsSegment-copied zero n ss each = All-nil IsSegment
IsSegment-copied (suc k) zero ss each = All-nil IsSegment
IsSegment-copied (suc k) (suc n) [] each = All-nil IsSegment
IsSegment-copied (suc k) (suc n) (s ∷ ss) each =
    let is : IsSegment s = All-head IsSegment s ss each in
    All-cons IsSegment (record { bytes = take (suc n) s.bytes; room = 0 }) (copied k (suc n - length s.bytes) ss)
    (record { some = omega (arith, is.some, length-take (suc n) s.bytes); fits = omega (arith, is.fits, length-take (suc n) s.bytes) })
    (IsSegment-copied k (suc n - length s.bytes) ss (All-tail IsSegment s ss each))

-- the sink gets the source's front, so many bytes as the tee's number says
pub bytes_of-after_tee : (source sink : Queue) (n : ℕ) → bytes_of (after_tee source sink n) ≡ bytes_of sink ++ taken source (tee_number source sink n)
bytes_of-after_tee source sink n =
    joined-append sink.segments (copied (free_of sink) n source.segments)
    ∙ ap (λ x. bytes_of sink ++ x) (joined-copied (free_of sink) n source.segments)

-- where something was put, only free slots are room
pub room_of-after_tee : (source sink : Queue) (n : ℕ) → 0 < tee_number source sink n → room_of (after_tee source sink n) ≡ PAGE_SIZE * free_of (after_tee source sink n)
room_of-after_tee source sink n put =
    let ts : List Segment = copied (free_of sink) n source.segments in
    let some : 0 < length ts = elim ts as (λ (us : List Segment). 0 < length (joined us) → 0 < length us) [ [] ↦ λ l. l | u ∷ us ↦ λ _. omega arith ] put in
    ap (λ m. m + PAGE_SIZE * free_of (after_tee source sink n)) (last_room-append sink.segments ts some ∙ last_room-copied (free_of sink) n source.segments)
    ∙ omega arith

pub IsQueue-after_tee : (source sink : Queue) (n : ℕ) → IsQueue source → IsQueue sink → IsQueue (after_tee source sink n)
IsQueue-after_tee source sink n is-source is-sink = record {
  each = All-append IsSegment sink.segments (copied (free_of sink) n source.segments) is-sink.each (IsSegment-copied (free_of sink) n source.segments is-source.each);
  slots = omega (arith, is-sink.slots, length-append sink.segments (copied (free_of sink) n source.segments), length-copied (free_of sink) n source.segments);
}

-- Capacities

-- What goes in at once

-- what fits goes whole
pub portion-fits : (whole : Bool) (n room : ℕ) → n ≤ room → portion whole n room ≡ n
portion-fits true n room fits = ap (λ t. if t then n else 0) (le-leb n room fits)
portion-fits false n room fits = omega (arith, fits)

-- bytes that are to stay whole and don't fit don't go at all
pub portion-short : (n room : ℕ) → room < n → portion true n room ≡ 0
portion-short n room short = ap (λ t. if t then n else 0) (lt-leb n room short)

-- all or none where they are to stay whole
pub portion-whole : (n room : ℕ) → (portion true n room ≡ n) ⊎ (portion true n room ≡ 0)
portion-whole n room =
    ⊎_elim (λ short. inr (portion-short n room short)) (λ fits. inl (portion-fits true n room fits)) (cases_lt room n)

pub portion-le_room : (whole : Bool) (n room : ℕ) → portion whole n room ≤ room
portion-le_room true n room =
    ⊎_elim (λ short. omega (arith, portion-short n room short)) (λ fits. omega (arith, fits, portion-fits true n room fits)) (cases_lt room n)
portion-le_room false n room = omega arith

pub portion-le : (whole : Bool) (n room : ℕ) → portion whole n room ≤ n
portion-le true n room =
    ⊎_elim (λ short. omega (arith, portion-short n room short)) (λ fits. omega (arith, fits, portion-fits true n room fits)) (cases_lt room n)
portion-le false n room = omega arith

-- What segments say of the bytes

pub length-joined-le : (ss : List Segment) → All IsSegment ss → length (joined ss) + last_room ss ≤ PAGE_SIZE * length ss
length-joined-le [] each = omega arith
length-joined-le (s ∷ []) each =
    omega (arith, (All-head IsSegment s [] each).fits, length-append s.bytes [])
length-joined-le (s ∷ t ∷ ss) each =
    omega (arith, (All-head IsSegment s (t ∷ ss) each).fits, length-append s.bytes (joined (t ∷ ss)), length-joined-le (t ∷ ss) (All-tail IsSegment s (t ∷ ss) each))
