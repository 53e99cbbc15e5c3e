-- Names of more bytes than a name may have, before a path is cut.

use Rattle.std.proofs.Common.{◌≡◌, ℕ, zero, suc, ◌<◌, ◌≤◌, Bool, true, false, List, [], ◌∷◌, ◌++◌, length, nat_eq, nat_lt, refl, ap, ◌∙◌, arith, cond}
use Rattle.std.specs.Prelude.{filter, ◌||◌}
use Rattle.std.specs.List.{list_any, slice_split, onto_first}
use Rattle.std.proofs.lemmas.Bool.Decides.{nat_tests}
use Rattle.pf_machine.specs.FileMap.{Name, Path}
use Rattle.pf_machine.specs.Paths.{components, is_component}
use Rattle.pf_walk.specs.Walks.{named}
use Rattle.pf_walk.proofs.Steps.{first_false, second_false}

abbrev pub are_long : ℕ → List Name → Bool
are_long k ns = list_any (λ n. nat_lt k (length n)) ns

both_false : (a b : Bool) → a ≡ false → b ≡ false → (a || b) ≡ false
both_false a b x y = ap (λ z. z || b) x ∙ y

not_longer : (k n : ℕ) → nat_lt k n ≡ false → nat_lt (suc k) n ≡ false
not_longer k n h = grind (arith, nat_tests)

none_more : (k : ℕ) (ns : List Name) → are_long k ns ≡ false → are_long (suc k) ns ≡ false
none_more k [] h = refl
none_more k (n ∷ ns) h =
    both_false _ _ (not_longer k (length n) (first_false (nat_lt k (length n)) (are_long k ns) h))
    (none_more k ns (second_false (nat_lt k (length n)) (are_long k ns) h))

longer_first : (k b : ℕ) (ns : List Name) → are_long k ns ≡ false → are_long (suc k) (onto_first b ns) ≡ false
longer_first k b [] h = grind (arith, nat_tests)
longer_first k b (n ∷ ns) h =
    let low : nat_lt k (length n) ≡ false = first_false (nat_lt k (length n)) (are_long k ns) h in
    let first : nat_lt (suc k) (suc (length n)) ≡ false = grind (arith, nat_tests) in
    both_false _ _ first (none_more k ns (second_false (nat_lt k (length n)) (are_long k ns) h))

-- no part of a text has more bytes than the text
short_parts : (k : ℕ) (bs : List ℕ) → length bs ≤ k → are_long k (slice_split (λ b. nat_eq b 47) bs) ≡ false
short_parts k [] low = grind (arith, nat_tests)
short_parts zero (b ∷ bs) low = absurd (omega (arith, low))
short_parts (suc k) (b ∷ bs) low =
    let h = short_parts k bs (omega (arith, low)) in
    elim (nat_eq b 47) as (λ s. are_long (suc k) (cond s ([] ∷ slice_split (λ x. nat_eq x 47) bs)
    (onto_first b (slice_split (λ x. nat_eq x 47) bs))) ≡ false) [
      | true ↦ both_false _ _ (grind (arith, nat_tests)) (none_more k (slice_split (λ x. nat_eq x 47) bs) h)
      | false ↦ longer_first k b (slice_split (λ x. nat_eq x 47) bs) h
    ]

fewer_long : (k : ℕ) (ns : List Name) → are_long k ns ≡ false → are_long k (filter is_component ns) ≡ false
fewer_long k [] h = refl
fewer_long k (n ∷ ns) h =
    let low = first_false (nat_lt k (length n)) (are_long k ns) h in
    let rest = fewer_long k ns (second_false (nat_lt k (length n)) (are_long k ns) h) in
    elim (is_component n) as (λ s. are_long k (cond s (n ∷ filter is_component ns) (filter is_component ns)) ≡ false) [
      | true ↦ both_false _ _ low rest
      | false ↦ rest
    ]

pub short_path : (k : ℕ) (bs : List ℕ) → length bs ≤ k → are_long k (components bs) ≡ false
short_path k bs low = fewer_long k (slice_split (λ b. nat_eq b 47) bs) (short_parts k bs low)

-- one piece further
one_named : (n : Name) → is_component n ≡ true → named n ≡ n ∷ []
one_named n some = ap (λ b. cond b (n ∷ []) []) some

pub long_here : (k : ℕ) (rest name : Name) (ns : Path) → components rest ≡ named name ++ ns → k < length name
    → are_long k (components rest) ≡ true
long_here k rest name ns cut long =
    let some : is_component name ≡ true = grind (arith, nat_tests) in
    let first : nat_lt k (length name) ≡ true = grind (arith, nat_tests) in
    ap (are_long k) (cut ∙ ap (λ l. l ++ ns) (one_named name some)) ∙ ap (λ b. b || are_long k ns) first

pub long_behind : (k : ℕ) (rest name : Name) (ns : Path) → components rest ≡ named name ++ ns → length name ≤ k
    → are_long k (components rest) ≡ are_long k ns
long_behind k rest name ns cut short =
    let first : nat_lt k (length name) ≡ false = grind (arith, nat_tests) in
    ap (are_long k) cut ∙ elim (is_component name) as (λ s. are_long k (cond s (name ∷ []) [] ++ ns) ≡ are_long k ns) [
      | true ↦ ap (λ b. b || are_long k ns) first
      | false ↦ refl
    ]
