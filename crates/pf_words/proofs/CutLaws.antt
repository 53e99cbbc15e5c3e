-- The first piece of a text, by the place of the first byte that cuts.

use Rattle.std.proofs.Common.{◌≡◌, ℕ, ◌+◌, ◌<◌, List, [], ◌∷◌, ◌++◌, length, take, drop, get_or, Some, None, refl, arith, map, append_assoc, Bor, subst, ◌∙◌}
use Rattle.std.proofs.lemmas.List.{map-append, append-nil}
use Rattle.std.specs.Prelude.{zero, suc, Bool, true, false, ◌==◌, if◌then◌else◌}
use Rattle.memchr.specs.Find.{IsFirstByte, is_byte}
use Rattle.pf_words.specs.Words.{pieces_of, onto_first}
use Rattle.std.proofs.Math.Seq.{drop-cons}

-- an element and those behind it
pub next_of : {A : Type 0} (xs : List A) (i : ℕ) (d : A) → i < length xs → drop i xs ≡ get_or xs i d ∷ drop (i + 1) xs
next_of xs i d high =
    let step : suc i ≡ i + 1 = omega arith in
    rw (← step) (drop-cons xs i d high)

-- without a cut there is one piece
pub whole : (cut : ℕ) (cs : List ℕ) → IsFirstByte (is_byte cut) cs None → pieces_of cut cs ≡ cs ∷ []
unfolding pieces_of
whole cut [] found = refl
whole cut (c ∷ cs) found =
    let rest = whole cut cs (λ k low high is. found (suc k) (omega arith) (omega arith) is) in
    elim (c == cut) as (λ b. (c == cut) ≡ b → (if b then [] ∷ pieces_of cut cs else onto_first c (pieces_of cut cs)) ≡ (c ∷ cs) ∷ []) [
      | true ↦ λ is. absurd (found 0 (omega arith) (omega arith) is)
      | false ↦ λ is. rw rest refl
    ] refl

-- the piece before the first cut, whatever follows
pub front_before : (cut : ℕ) (cs more : List ℕ) (k : ℕ) → IsFirstByte (is_byte cut) cs (Some k) → pieces_of cut (cs ++ more) ≡ take k cs ∷ pieces_of cut (drop (k + 1) cs ++ more)
unfolding pieces_of
front_before cut [] more k found = absurd (omega (arith, found.0.high))
front_before cut (c ∷ cs) more zero found = rw found.1 refl
front_before cut (c ∷ cs) more (suc k) found =
    let step : suc k + 1 ≡ suc (k + 1) = omega arith in
    let rest = front_before cut cs more k (record { low = omega arith; high = omega (arith, found.0.high); before = λ j low high is. found.0.before (suc j) (omega arith) (omega arith) is }, found.1) in
    rw step (elim (c == cut) as (λ b. (c == cut) ≡ b → (if b then [] ∷ pieces_of cut (cs ++ more) else onto_first c (pieces_of cut (cs ++ more))) ≡ (c ∷ take k cs) ∷ pieces_of cut (drop (k + 1) cs ++ more)) [
      | true ↦ λ is. absurd (found.0.before 0 (omega arith) (omega arith) is)
      | false ↦ λ is. rw rest refl
    ] refl)

pub front : (cut : ℕ) (cs : List ℕ) (k : ℕ) → IsFirstByte (is_byte cut) cs (Some k) → pieces_of cut cs ≡ take k cs ∷ pieces_of cut (drop (k + 1) cs)
front cut cs k found =
    subst (λ t. pieces_of cut cs ≡ take k cs ∷ pieces_of cut t) (append-nil (drop (k + 1) cs))
    (subst (λ t. pieces_of cut t ≡ take k cs ∷ pieces_of cut (drop (k + 1) cs ++ [])) (append-nil cs) (front_before cut cs [] k found))

-- a piece more was found
pub goes_on : (cut : ℕ) (found : List (Bor (List ℕ))) (piece : Bor (List ℕ)) (rest : List ℕ) (k : ℕ) (all : List (List ℕ)) →
    IsFirstByte (is_byte cut) rest (Some k) → piece.now ≡ take k rest →
    map (λ w. w.now) found ++ pieces_of cut rest ≡ all → map (λ w. w.now) (found ++ piece ∷ []) ++ pieces_of cut (drop (k + 1) rest) ≡ all
goes_on cut found piece rest k all first is same =
    rw (map-append (λ (w : Bor (List ℕ)). w.now) found (piece ∷ []), append_assoc (map (λ (w : Bor (List ℕ)). w.now) found) (piece.now ∷ []) (pieces_of cut (drop (k + 1) rest)), is, ← front cut rest k first) same

-- the last piece
pub ends : (cut : ℕ) (found : List (Bor (List ℕ))) (piece : Bor (List ℕ)) (all : List (List ℕ)) →
    IsFirstByte (is_byte cut) piece.now None → map (λ w. w.now) found ++ pieces_of cut piece.now ≡ all → map (λ w. w.now) (found ++ piece ∷ []) ≡ all
ends cut found piece all none same =
    rw (map-append (λ (w : Bor (List ℕ)). w.now) found (piece ∷ []), ← whole cut piece.now none) same

-- there is a piece
pub some_piece : (cut : ℕ) (cs : List ℕ) → (piece : List ℕ) × (pieces : List (List ℕ)) × (pieces_of cut cs ≡ piece ∷ pieces)
unfolding pieces_of
some_piece cut [] = ([], [], refl)
some_piece cut (c ∷ cs) =
    let rest = some_piece cut cs in
    elim (c == cut) as (λ b. (piece : List ℕ) × (pieces : List (List ℕ)) × ((if b then [] ∷ pieces_of cut cs else onto_first c (pieces_of cut cs)) ≡ piece ∷ pieces)) [
      | true ↦ ([], pieces_of cut cs, refl)
      | false ↦ (c ∷ rest.0, rest.1, rw rest.2 refl)
    ]

one_on : (cut c : ℕ) (cs ys : List ℕ) (b : Bool) → pieces_of cut ys ≡ ys ∷ [] →
    (pieces_of cut cs ≡ cs ∷ [] → pieces_of cut (cs ++ ys) ≡ (cs ++ ys) ∷ []) →
    (if b then [] ∷ pieces_of cut cs else onto_first c (pieces_of cut cs)) ≡ (c ∷ cs) ∷ [] →
    (if b then [] ∷ pieces_of cut (cs ++ ys) else onto_first c (pieces_of cut (cs ++ ys))) ≡ (c ∷ (cs ++ ys)) ∷ []
one_on cut c cs ys true one joined is = absurd (cc)
one_on cut c cs ys false one joined is =
    let rest = some_piece cut cs in
    let first = rw rest.2 at is in
    let piece : rest.0 ≡ cs = cc in
    let none : rest.1 ≡ [] = cc in
    rw (joined (rest.2 ∙ rw (piece, none) refl)) refl

-- two texts without a cut are one piece
pub joined : (cut : ℕ) (xs ys : List ℕ) → pieces_of cut xs ≡ xs ∷ [] → pieces_of cut ys ≡ ys ∷ [] → pieces_of cut (xs ++ ys) ≡ (xs ++ ys) ∷ []
unfolding pieces_of
joined cut [] ys one two = two
joined cut (c ∷ cs) ys one two = one_on cut c cs ys (c == cut) two (λ is. joined cut cs ys is two) one
