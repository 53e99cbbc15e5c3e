-- Laws of the queue's definitions.

use Rattle.std.proofs.Common.{◌≡◌, ℕ, zero, suc, ◌+◌, ◌-◌, ◌<◌, ◌≤◌, min, Bool, List, [], ◌∷◌, ◌++◌, length, take, drop, if◌then◌else◌, refl, sym, ◌∙◌, ap, inl, inr, arith}
use Rattle.std.proofs.lemmas.Bool.Decides.{leb_tells}
use Rattle.std.proofs.lemmas.List.{append-nil, take_min, drop-drop, length-drop, length-append}
use Rattle.pf_base.specs.declared.TheConstants.{PAGE_SIZE}
use Rattle.pf_machine.specs.Queue.{Segment, joined, last_room, topped_up, pieces, without_front, copied}

-- two segments are the same by their parts
pub same_segment : (s t : Segment) → s.bytes ≡ t.bytes → s.room ≡ t.room → s ≡ t
same_segment s t b r = λ i. record { bytes = b i; room = r i }

-- a queue's last room, and what topping up does to the last segment
pub last_room_push : (ss : List Segment) (s : Segment) → last_room (ss ++ s ∷ []) ≡ s.room
last_room_push [] s = refl
last_room_push (a ∷ []) s = refl
last_room_push (a ∷ b ∷ ss) s = last_room_push (b ∷ ss) s

pub topped_push : (ss : List Segment) (s : Segment) (x : List ℕ) → topped_up (ss ++ s ∷ []) x ≡ ss ++ record { bytes = s.bytes ++ take s.room x; room = s.room - length x } ∷ []
topped_push [] s x = refl
topped_push (a ∷ []) s x = refl
topped_push (a ∷ b ∷ ss) s x = ap (λ (t : List Segment). a ∷ t) (topped_push (b ∷ ss) s x)

-- with no bytes, or with no room, nothing is topped up
pub topped_none : (ss : List Segment) (x : List ℕ) → min (last_room ss) (length x) ≡ 0 → topped_up ss x ≡ ss
topped_none [] x e = refl
topped_none (s ∷ []) x e = ap (λ (t : Segment). t ∷ []) (same_segment _ s (ap (λ (b : List ℕ). s.bytes ++ b) (sym (take_min s.room x) ∙ ap (λ (n : ℕ). take n x) e) ∙ append-nil s.bytes) (omega arith))
topped_none (s ∷ t ∷ ss) x e = ap (λ (l : List Segment). s ∷ l) (topped_none (t ∷ ss) x e)

-- an emptied segment goes, a cut one stays
pub without_all : (n : ℕ) (s : Segment) (ss : List Segment) → length s.bytes ≤ n → without_front n (s ∷ ss) ≡ without_front (n - length s.bytes) ss
without_all n s ss h = elim (leb_tells (length s.bytes) n) [
  | inl p ↦ ap (λ (b : Bool). if b then without_front (n - length s.bytes) ss else record { bytes = drop n s.bytes; room = s.room } ∷ ss) p.0
  | inr p ↦ absurd (omega (arith, p.1))
]

pub without_part : (n : ℕ) (s : Segment) (ss : List Segment) → n < length s.bytes → without_front n (s ∷ ss) ≡ record { bytes = drop n s.bytes; room = s.room } ∷ ss
without_part n s ss h = elim (leb_tells (length s.bytes) n) [
  | inl p ↦ absurd (omega (arith, p.1))
  | inr p ↦ ap (λ (b : Bool). if b then without_front (n - length s.bytes) ss else record { bytes = drop n s.bytes; room = s.room } ∷ ss) p.0
]

without_cut : (a b : ℕ) (s : Segment) (ss : List Segment) → a < length s.bytes → without_front b (record { bytes = drop a s.bytes; room = s.room } ∷ ss) ≡ without_front (a + b) (s ∷ ss)
without_cut a b s ss l =
    let c : Segment = record { bytes = drop a s.bytes; room = s.room } in
    let size : length c.bytes ≡ length s.bytes - a = length-drop a s.bytes in
    elim (leb_tells (length s.bytes) (a + b)) [
      | inl p ↦ without_all b c ss (omega (arith, p.1, size)) ∙ (ap (λ (k : ℕ). without_front k ss) (omega (arith, size, p.1)) ∙ sym (without_all (a + b) s ss p.1))
      | inr p ↦ without_part b c ss (omega (arith, p.1, size)) ∙ (ap (λ (x : List ℕ). let t : Segment = record { bytes = x; room = s.room } in t ∷ ss) (drop-drop b a s.bytes) ∙ sym (without_part (a + b) s ss p.1))
    ]

-- takes one after the other
pub without_more : (a b : ℕ) (ss : List Segment) → without_front b (without_front a ss) ≡ without_front (a + b) ss
without_more a b [] = refl
without_more a b (s ∷ ss) = elim (leb_tells (length s.bytes) a) [
  | inl p ↦ ap (without_front b) (without_all a s ss p.1) ∙ (without_more (a - length s.bytes) b ss ∙ (ap (λ (k : ℕ). without_front k ss) (omega (arith, p.1)) ∙ sym (without_all (a + b) s ss (omega (arith, p.1)))))
  | inr p ↦ ap (without_front b) (without_part a s ss p.1) ∙ without_cut a b s ss p.1
]

-- all go where so many might
pub without_rest : (n : ℕ) (ss : List Segment) → length (joined ss) ≤ n → without_front n ss ≡ []
without_rest n [] h = refl
without_rest n (s ∷ ss) h =
    let size : length (s.bytes ++ joined ss) ≡ length s.bytes + length (joined ss) = length-append s.bytes (joined ss) in
    without_all n s ss (omega (arith, h, size)) ∙ without_rest (n - length s.bytes) ss (omega (arith, h, size))

-- pieces of some bytes, and of none
pub pieces_step : (k : ℕ) (x : List ℕ) → 0 < k → 0 < length x → pieces k x ≡ record { bytes = take PAGE_SIZE x; room = PAGE_SIZE - length x } ∷ pieces (k - 1) (drop PAGE_SIZE x)
pieces_step zero x h l = absurd (omega arith)
pieces_step (suc k) [] h l = absurd (omega arith)
pieces_step (suc k) (b ∷ x) h l =
    let e : k ≡ suc k - 1 = omega arith in
    ap (λ (n : ℕ). let s : Segment = record { bytes = take PAGE_SIZE (b ∷ x); room = PAGE_SIZE - length (b ∷ x) } in s ∷ pieces n (drop PAGE_SIZE (b ∷ x))) e

pub pieces_none : (k : ℕ) (x : List ℕ) → length x ≡ 0 → pieces k x ≡ []
pieces_none zero x h = refl
pieces_none (suc k) [] h = refl
pieces_none (suc k) (b ∷ x) h = absurd (omega arith)

-- a copied segment is in front of the others
pub copied_step : (k n : ℕ) (s : Segment) (ss : List Segment) → 0 < k → 0 < n → copied k n (s ∷ ss) ≡ record { bytes = take n s.bytes; room = 0 } ∷ copied (k - 1) (n - length s.bytes) ss
copied_step zero n s ss h l = absurd (omega arith)
copied_step (suc k) zero s ss h l = absurd (omega arith)
copied_step (suc k) (suc n) s ss h l = let e : k ≡ suc k - 1 = omega arith in ap (λ (m : ℕ). let t : Segment = record { bytes = take (suc n) s.bytes; room = 0 } in t ∷ copied m (suc n - length s.bytes) ss) e

-- no segment is copied where no slot is free, no byte is left, or no segment
pub copied_no_slot : (n : ℕ) (ss : List Segment) → copied 0 n ss ≡ []
copied_no_slot n ss = refl

pub copied_no_byte : (k : ℕ) (ss : List Segment) → copied k 0 ss ≡ []
copied_no_byte zero ss = refl
copied_no_byte (suc k) ss = refl

pub copied_no_segment : (k n : ℕ) → copied k n [] ≡ []
copied_no_segment zero n = refl
copied_no_segment (suc k) zero = refl
copied_no_segment (suc k) (suc n) = refl
