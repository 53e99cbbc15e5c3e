-- Names in the order of the numbers that eight of their bytes spell.
use lib.Seq.{get_or-drop}
use Rattle.std.proofs.Common.{length-drop, ◌≡◌, ℕ, zero, suc, ◌+◌, ◌*◌, ◌<◌, ◌≤◌, min, List, [], ◌∷◌, length, take, drop, slice_index, refl, sym, ap, ◌∙◌, subst, arith, cond, true, false, nat_lt}
use Rattle.std.specs.Prelude.{◌==◌}
use Rattle.std.specs.Ordering.{nat_cmp, ordering_then, MatchOrdering}
use Rattle.std.specs.declared.cmp.Ordering.{Ordering}
use Rattle.std.specs.declared.cmp.Ordering.TheVariants.{Less, Equal, Greater}
use Rattle.std.proofs.lemmas.Bool.Decides.{nat_tests}
use Rattle.std.proofs.lemmas.Cmp.{ranked, tied_itself, nat_cmp_total}
use Rattle.pf_machine.specs.FileMap.{Name, name_cmp}
use Rattle.pf_tree.specs.Words.{word_at}

-- bytes
abbrev pub Small : List ℕ → Type 0
Small xs = (k : ℕ) → slice_index xs k < 256

less : (x y : ℕ) → x < y → nat_cmp x y ≡ Less
less x y lt = let e : nat_lt x y ≡ true = grind (arith, nat_tests) in ap (λ b. cond b Less (cond (x == y) Equal Greater)) e

more : (x y : ℕ) → y < x → nat_cmp x y ≡ Greater
more x y lt =
    let e : nat_lt x y ≡ false = grind (arith, nat_tests) in
    let d : (x == y) ≡ false = grind (arith, nat_tests) in
    ap (λ b. cond b Less (cond (x == y) Equal Greater)) e ∙ ap (λ b. cond b Equal Greater) d

level : (x y : ℕ) → x ≡ y → nat_cmp x y ≡ Equal
level x y e = subst (λ z. nat_cmp x z ≡ Equal) e (tied_itself nat_cmp_total x)

-- a number with the bytes of a list behind it
abbrev spelt : ℕ → List ℕ → ℕ
spelt a [] = a
spelt a (x ∷ xs) = spelt (a * 256 + x) xs

-- what is greater at first stays greater
rises : (n a b : ℕ) (xs ys : List ℕ) → n ≤ length xs → n ≤ length ys → Small xs → a < b → spelt a (take n xs) < spelt b (take n ys)
rises zero a b xs ys p q s lt = lt
rises (suc n) a b [] ys p q s lt = absurd (omega arith)
rises (suc n) a b (x ∷ xs) [] p q s lt = absurd (omega arith)
rises (suc n) a b (x ∷ xs) (y ∷ ys) p q s lt =
    let small : x < 256 = s 0 in
    rises n (a * 256 + x) (b * 256 + y) xs ys (omega arith) (omega arith) (λ k. s (suc k)) (omega arith)

-- numbers that differ are in the order of the names
apart : (n a : ℕ) (xs ys : Name) → n ≤ length xs → n ≤ length ys → Small xs → Small ys → (spelt a (take n xs) ≡ spelt a (take n ys) → ⊥) → name_cmp xs ys ≡ nat_cmp (spelt a (take n xs)) (spelt a (take n ys))
apart zero a xs ys p q s t differ = absurd (differ refl)
apart (suc n) a [] ys p q s t differ = absurd (omega arith)
apart (suc n) a (x ∷ xs) [] p q s t differ = absurd (omega arith)
apart (suc n) a (x ∷ xs) (y ∷ ys) p q s t differ = by (apart n (a * 256 + x) xs ys (omega arith) (omega arith) (λ k. s (suc k)) (λ k. t (suc k))) (nat_cmp x y) refl (ranked x y (nat_cmp x y) refl)
  where
    Rest : Type 0
    Rest = (spelt (a * 256 + x) (take n xs) ≡ spelt (a * 256 + x) (take n ys) → ⊥) → name_cmp xs ys ≡ nat_cmp (spelt (a * 256 + x) (take n xs)) (spelt (a * 256 + x) (take n ys))

    by : Rest → (o : Ordering) → nat_cmp x y ≡ o → MatchOrdering o (x < y) (x ≡ y) (y < x) → ordering_then (nat_cmp x y) (name_cmp xs ys) ≡ nat_cmp (spelt (a * 256 + x) (take n xs)) (spelt (a * 256 + y) (take n ys))
    by rest Less e lt = ap (λ o. ordering_then o (name_cmp xs ys)) e ∙ sym (less _ _ (rises n (a * 256 + x) (a * 256 + y) xs ys (omega arith) (omega arith) (λ k. s (suc k)) (omega arith)))
    by rest Greater e lt = ap (λ o. ordering_then o (name_cmp xs ys)) e ∙ sym (more _ _ (rises n (a * 256 + y) (a * 256 + x) ys xs (omega arith) (omega arith) (λ k. t (suc k)) (omega arith)))
    by rest Equal e same =
        let here : spelt (a * 256 + x) (take n ys) ≡ spelt (a * 256 + y) (take n ys) = ap (λ z. spelt (a * 256 + z) (take n ys)) same in
        ap (λ o. ordering_then o (name_cmp xs ys)) e
        ∙ rest (λ f. differ (f ∙ here))
        ∙ ap (nat_cmp (spelt (a * 256 + x) (take n xs))) here

-- and the same number is of the same bytes
alike : (n a : ℕ) (xs ys : Name) → n ≤ length xs → n ≤ length ys → Small xs → Small ys → spelt a (take n xs) ≡ spelt a (take n ys) → take n xs ≡ take n ys
alike zero a xs ys p q s t same = refl
alike (suc n) a [] ys p q s t same = absurd (omega arith)
alike (suc n) a (x ∷ xs) [] p q s t same = absurd (omega arith)
alike (suc n) a (x ∷ xs) (y ∷ ys) p q s t same = by (alike n (a * 256 + x) xs ys (omega arith) (omega arith) (λ k. s (suc k)) (λ k. t (suc k))) (nat_cmp x y) (ranked x y (nat_cmp x y) refl)
  where
    by : (spelt (a * 256 + x) (take n xs) ≡ spelt (a * 256 + x) (take n ys) → take n xs ≡ take n ys) → (o : Ordering) → MatchOrdering o (x < y) (x ≡ y) (y < x) → x ∷ take n xs ≡ y ∷ take n ys
    by rest Less lt = let grows = rises n (a * 256 + x) (a * 256 + y) xs ys (omega arith) (omega arith) (λ k. s (suc k)) (omega arith) in absurd (omega (arith, grows, same))
    by rest Greater lt = let grows = rises n (a * 256 + y) (a * 256 + x) ys xs (omega arith) (omega arith) (λ k. t (suc k)) (omega arith) in absurd (omega (arith, grows, same))
    by rest Equal eq =
        let e : x ≡ y = eq in
        let here : spelt (a * 256 + x) (take n ys) ≡ spelt (a * 256 + y) (take n ys) = ap (λ z. spelt (a * 256 + z) (take n ys)) e in
        ap (λ z. z ∷ take n xs) e ∙ ap (λ l. y ∷ l) (rest (same ∙ sym here))

-- names go on behind bytes that are the same
past : (n : ℕ) (xs ys : Name) → n ≤ length xs → n ≤ length ys → take n xs ≡ take n ys → name_cmp xs ys ≡ name_cmp (drop n xs) (drop n ys)
past zero xs ys p q same = refl
past (suc n) [] ys p q same = absurd (omega arith)
past (suc n) (x ∷ xs) [] p q same = absurd (omega arith)
past (suc n) (x ∷ xs) (y ∷ ys) p q same =
    ap (λ o. ordering_then o (name_cmp xs ys)) (level x y (ap (λ l. slice_index l 0) same))
    ∙ past n xs ys (omega arith) (omega arith) (ap (drop 1) same)

-- eight bytes as they are read
eight : (xs : List ℕ) → 8 ≤ length xs → word_at xs 0 ≡ spelt 0 (take 8 xs)
eight [] le = absurd (omega arith)
eight (a ∷ []) le = absurd (omega arith)
eight (a ∷ b ∷ []) le = absurd (omega arith)
eight (a ∷ b ∷ c ∷ []) le = absurd (omega arith)
eight (a ∷ b ∷ c ∷ d ∷ []) le = absurd (omega arith)
eight (a ∷ b ∷ c ∷ d ∷ e ∷ []) le = absurd (omega arith)
eight (a ∷ b ∷ c ∷ d ∷ e ∷ f ∷ []) le = absurd (omega arith)
eight (a ∷ b ∷ c ∷ d ∷ e ∷ f ∷ g ∷ []) le = absurd (omega arith)
eight (a ∷ b ∷ c ∷ d ∷ e ∷ f ∷ g ∷ h ∷ xs) le = omega arith

index_drop : (i : ℕ) (xs : List ℕ) (k : ℕ) → slice_index (drop i xs) k ≡ slice_index xs (i + k)
index_drop i xs k = get_or-drop i xs k 0

word_from : (xs : List ℕ) (i : ℕ) → word_at xs i ≡ word_at (drop i xs) 0
word_from xs i =
    let e = index_drop i xs in
    let none : i + 0 ≡ i = omega arith in
    omega (arith, e 0 ∙ ap (slice_index xs) none, e 1, e 2, e 3, e 4, e 5, e 6, e 7)

word_spelt : (xs : List ℕ) (i : ℕ) → i + 8 ≤ length xs → word_at xs i ≡ spelt 0 (take 8 (drop i xs))
word_spelt xs i le = word_from xs i ∙ eight (drop i xs) (omega (arith, length-drop i xs))

small_drop : (i : ℕ) (xs : List ℕ) → Small xs → Small (drop i xs)
small_drop i xs s k = subst (λ z. z < 256) (sym (index_drop i xs k)) (s (i + k))

-- fewer bytes are the same too
pub fewer : (i n : ℕ) (xs ys : Name) → i ≤ n → take n xs ≡ take n ys → take i xs ≡ take i ys
fewer zero n xs ys le same = refl
fewer (suc i) zero xs ys le same = absurd (omega arith)
fewer (suc i) (suc n) [] [] le same = refl
fewer (suc i) (suc n) [] (y ∷ ys) le same = absurd (omega (arith, ap length same))
fewer (suc i) (suc n) (x ∷ xs) [] le same = absurd (omega (arith, ap length same))
fewer (suc i) (suc n) (x ∷ xs) (y ∷ ys) le same = ap (λ z. z ∷ take i xs) (ap (λ l. slice_index l 0) same) ∙ ap (λ l. y ∷ l) (fewer i n xs ys (omega arith) (ap (drop 1) same))

module _ (i : ℕ) (xs ys : Name) (p : i + 8 ≤ length xs) (q : i + 8 ≤ length ys) (s : Small xs) (t : Small ys) (x y : ℕ) (read : x ≡ word_at xs i) (read' : y ≡ word_at ys i) where
  -- words that differ, behind bytes that are the same, decide
  pub words_apart : take i xs ≡ take i ys → (x ≡ y → ⊥) → nat_cmp x y ≡ name_cmp xs ys
  words_apart same differ =
      let a : x ≡ spelt 0 (take 8 (drop i xs)) = read ∙ word_spelt xs i p in
      let b : y ≡ spelt 0 (take 8 (drop i ys)) = read' ∙ word_spelt ys i q in
      ap (λ z. nat_cmp z y) a ∙ ap (nat_cmp (spelt 0 (take 8 (drop i xs)))) b
      ∙ sym (apart 8 0 (drop i xs) (drop i ys) (omega (arith, length-drop i xs)) (omega (arith, length-drop i ys)) (small_drop i xs s) (small_drop i ys t) (λ e. differ (a ∙ e ∙ sym b)))
      ∙ sym (past i xs ys (omega arith) (omega arith) same)

  -- the same word is of the same bytes
  pub words_alike : x ≡ y → take 8 (drop i xs) ≡ take 8 (drop i ys)
  words_alike e =
      alike 8 0 (drop i xs) (drop i ys) (omega (arith, length-drop i xs)) (omega (arith, length-drop i ys)) (small_drop i xs s) (small_drop i ys t)
      (sym (word_spelt xs i p) ∙ sym read ∙ e ∙ read' ∙ word_spelt ys i q)

shift : (k x y : ℕ) → nat_cmp (k + x) (k + y) ≡ nat_cmp x y
shift k x y = by (nat_cmp x y) refl (ranked x y (nat_cmp x y) refl)
  where
    by : (o : Ordering) → nat_cmp x y ≡ o → MatchOrdering o (x < y) (x ≡ y) (y < x) → nat_cmp (k + x) (k + y) ≡ nat_cmp x y
    by Less e lt = less (k + x) (k + y) (omega arith) ∙ sym e
    by Greater e lt = more (k + x) (k + y) (omega arith) ∙ sym e
    by Equal e eq = let same : x ≡ y = eq in level (k + x) (k + y) (omega arith) ∙ sym e

-- where one name is all the other's front, the lengths decide
ended : (n : ℕ) (xs ys : Name) → n ≡ min (length xs) (length ys) → take n xs ≡ take n ys → name_cmp xs ys ≡ nat_cmp (length xs) (length ys)
ended n [] [] e same = refl
ended n [] (y ∷ ys) e same = sym (less 0 (length (y ∷ ys)) (omega arith))
ended n (x ∷ xs) [] e same = sym (more (length (x ∷ xs)) 0 (omega arith))
ended zero (x ∷ xs) (y ∷ ys) e same = absurd (omega arith)
ended (suc n) (x ∷ xs) (y ∷ ys) e same =
    let one : (zs : Name) → length (x ∷ zs) ≡ 1 + length zs = λ zs. omega arith in
    ap (λ o. ordering_then o (name_cmp xs ys)) (level x y (ap (λ l. slice_index l 0) same))
    ∙ ended n xs ys (omega arith) (ap (drop 1) same)
    ∙ sym (shift 1 (length xs) (length ys))
    ∙ ap (λ k. nat_cmp k (1 + length ys)) (sym (one xs)) ∙ ap (nat_cmp (length (x ∷ xs))) (sym (one ys))

pub lengths_decide : (i : ℕ) (xs ys : Name) → i + 8 ≡ min (length xs) (length ys) → take i xs ≡ take i ys → take 8 (drop i xs) ≡ take 8 (drop i ys) → nat_cmp (length xs) (length ys) ≡ name_cmp xs ys
lengths_decide i xs ys e front back =
    let a : length xs ≡ i + length (drop i xs) = omega (arith, length-drop i xs) in
    let b : length ys ≡ i + length (drop i ys) = omega (arith, length-drop i ys) in
    ap (λ k. nat_cmp k (length ys)) a ∙ ap (nat_cmp (i + length (drop i xs))) b
    ∙ shift i (length (drop i xs)) (length (drop i ys))
    ∙ sym (ended 8 (drop i xs) (drop i ys) (omega (arith, length-drop i xs, length-drop i ys)) back)
    ∙ sym (past i xs ys (omega arith) (omega arith) front)
