-- The digits of a number and of the next.

use Rattle.std.proofs.Common.{◌≡◌, ℕ, ◌+◌, ◌/◌, ◌%◌, ◌^◌, ◌<◌, ◌≤◌, ◌⊎◌, inl, inr, List, [], ◌∷◌, ◌++◌, length, length-append, refl, ap, sym, ◌∙◌, arith}
use Rattle.std.specs.Prelude.{decimal}
use Rattle.std.proofs.lemmas.Bool.{cases_order}
use Rattle.std.proofs.lemmas.Fmt.{decimal_digit, decimal_step, length-decimal-le}

-- two lists that are the same have the same last
ends_same : (xs ys : List ℕ) (x y : ℕ) → xs ++ x ∷ [] ≡ ys ++ y ∷ [] → (xs ≡ ys) × (x ≡ y)
ends_same [] [] x y same = (refl, cc)
ends_same [] (b ∷ ys) x y same = absurd (omega (arith, length-append ys (y ∷ []), ap length same))
ends_same (a ∷ xs) [] x y same = absurd (omega (arith, length-append xs (x ∷ []), ap length same))
ends_same (a ∷ xs) (b ∷ ys) x y same =
    let head : a ≡ b = cc in
    let tail : xs ++ x ∷ [] ≡ ys ++ y ∷ [] = cc in
    let rest = ends_same xs ys x y tail in
    (rw (head, rest.0) refl, rest.1)

small : (n : ℕ) (front : List ℕ) (last : ℕ) → n < 10 → decimal n ≡ front ++ last ∷ [] → last < 57 →
    decimal (n + 1) ≡ front ++ (last + 1) ∷ []
small n front last low is room =
    let same = ends_same [] front (48 + n) last (sym (decimal_digit n low) ∙ is) in
    let next : n + 1 < 10 = omega (arith, same.1) in
    let digit : 48 + (n + 1) ≡ last + 1 = omega (arith, same.1) in
    decimal_digit (n + 1) next ∙ rw (← same.0, digit) refl

large : (n : ℕ) (front : List ℕ) (last : ℕ) → 10 ≤ n → n + 1 < 2 ^ 64 → decimal n ≡ front ++ last ∷ [] → last < 57 →
    decimal (n + 1) ≡ front ++ (last + 1) ∷ []
large n front last high fits is room =
    let same = ends_same (decimal (n / 10)) front (48 + n % 10) last (sym (decimal_step n high (omega arith)) ∙ is) in
    let tens : (n + 1) / 10 ≡ n / 10 = omega (arith, same.1) in
    let digit : 48 + (n + 1) % 10 ≡ last + 1 = omega (arith, same.1) in
    decimal_step (n + 1) (omega arith) fits ∙ rw (tens, same.0, digit) refl

-- where the last digit isn't a nine, the next number has a greater one in its place
pub grown : (n : ℕ) (front : List ℕ) (last : ℕ) → n + 1 < 2 ^ 64 → decimal n ≡ front ++ last ∷ [] → last < 57 →
    decimal (n + 1) ≡ front ++ (last + 1) ∷ []
grown n front last fits is room = by (cases_order n 10)
  where
    by : (n ≡ 10) ⊎ ((n < 10) ⊎ (10 < n)) → decimal (n + 1) ≡ front ++ (last + 1) ∷ []
    by (inl same) = large n front last (omega (arith, same)) fits is room
    by (inr (inl low)) = small n front last low is room
    by (inr (inr high)) = large n front last (omega (arith, high)) fits is room

-- there are at most twenty digits
pub short : (n : ℕ) → n < 2 ^ 64 → length (decimal n) ≤ 20
short n fits = length-decimal-le 20 n (omega arith) (omega arith) (omega arith)
