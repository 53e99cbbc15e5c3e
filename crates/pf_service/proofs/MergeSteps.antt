-- One event on, in a list.

use Rattle.std.proofs.Common.{◌≡◌, ℕ, ◌+◌, ◌-◌, ◌<◌, ◌≤◌, ◌++◌, inl, inr, [], ◌∷◌, List, length, map, take, drop, get_or, ap, sym, ◌∙◌, arith}
use Rattle.std.proofs.lemmas.Bool.{cases_lt}
use Rattle.std.proofs.lemmas.List.{take_more, drop_more, take-append-drop, append_assoc, get_or-map}

-- the list, as what came before, the element, and what comes after
pub split_at : {X : Type 0} (done xs rest : List X) (i : ℕ) (x : X) → i < length xs → x ≡ get_or xs i x
    → (done ++ xs) ++ rest ≡ (done ++ take i xs) ++ x ∷ (drop (i + 1) xs ++ rest)
split_at {X} done xs rest i x within is =
    let here : drop i xs ≡ x ∷ drop (i + 1) xs = drop_more xs i x within ∙ ap (λ (y : X). y ∷ drop (i + 1) xs) (sym is) in
    let whole : xs ≡ take i xs ++ x ∷ drop (i + 1) xs = sym (take-append-drop i xs) ∙ ap (λ (ys : List X). take i xs ++ ys) here in
    ap (λ (ys : List X). (done ++ ys) ++ rest) whole
    ∙ ap (λ (ys : List X). ys ++ rest) (sym (append_assoc done (take i xs) (x ∷ drop (i + 1) xs)))
    ∙ append_assoc (done ++ take i xs) (x ∷ drop (i + 1) xs) rest

pub take_one : {X : Type 0} (done xs : List X) (i : ℕ) (x : X) → i < length xs → x ≡ get_or xs i x
    → (done ++ take i xs) ++ x ∷ [] ≡ done ++ take (i + 1) xs
take_one {X} done xs i x within is =
    append_assoc done (take i xs) (x ∷ [])
    ∙ ap (λ (y : X). done ++ (take i xs ++ y ∷ [])) is
    ∙ ap (λ (ys : List X). done ++ ys) (sym (take_more xs i x within))

pub at_map : {X : Type 0} (f : X → ℕ) (xs : List X) (i : ℕ) (x : X) → i < length xs → x ≡ get_or xs i x → get_or (map f xs) i 0 ≡ f x
at_map f xs i x within is = get_or-map f xs i x 0 within ∙ ap f (sym is)

pub rises_more : (ps : List ℕ) (n least p : ℕ) → ((k : ℕ) → k + 1 < n → get_or ps k 0 < get_or ps (k + 1) 0)
    → (0 < n → least ≡ get_or ps (n - 1) 0 + 1) → get_or ps n 0 ≡ p → least ≤ p
    → (k : ℕ) → k + 1 < n + 1 → get_or ps k 0 < get_or ps (k + 1) 0
rises_more ps n least p so last here le k within =
    elim (cases_lt (k + 1) n) [
      | inl below ↦ so k below
      | inr up ↦
          let e : n ≡ k + 1 = omega arith in
          let m : n - 1 ≡ k = omega arith in
          let was : least ≡ get_or ps k 0 + 1 = last (omega arith) ∙ ap (λ (j : ℕ). get_or ps j 0 + 1) m in
          let now : get_or ps (k + 1) 0 ≡ p = ap (λ (j : ℕ). get_or ps j 0) (sym e) ∙ here in
          omega arith
    ]

-- an event below the least that may come next
pub falls : (ps : List ℕ) (n least p : ℕ) → n < length ps → ((k : ℕ) → k + 1 < length ps → get_or ps k 0 < get_or ps (k + 1) 0)
    → (n ≡ 0 → least ≡ 0) → (0 < n → least ≡ get_or ps (n - 1) 0 + 1) → get_or ps n 0 ≡ p → p < least → ⊥
falls ps n least p within rises none last here lt =
    elim (cases_lt 0 n) [
      | inl some ↦
          let e : n - 1 + 1 ≡ n = omega arith in
          let was : least ≡ get_or ps (n - 1) 0 + 1 = last some in
          let up : get_or ps (n - 1) 0 < get_or ps (n - 1 + 1) 0 = rises (n - 1) (omega arith) in
          let now : get_or ps (n - 1 + 1) 0 ≡ p = ap (λ (j : ℕ). get_or ps j 0) e ∙ here in
          absurd (omega arith)
      | inr zero' ↦
          let z : least ≡ 0 = none (omega arith) in
          absurd (omega arith)
    ]
