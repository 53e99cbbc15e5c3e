-- Proofs of what the trait `Frames` asks of a door: that what it shows is sound, and its census is one: which frames
-- are live, how many they are, and that each has its page. A law's proof may cite no file of its own crate's proofs/.

use Rattle.std.proofs.Common.{◌≡◌, ◌≢◌, ℕ, ◌+◌, ◌<◌, ◌≤◌, List, [], ◌∷◌, length, sum, slice_index, refl, arith, sym, subst, suc, zero, inl, inr, ◌-◌, slice_index_or, ◌==◌, if◌then◌else◌, Contains, nat_eq, false, map}
use Rattle.std.proofs.lemmas.Bool.{cases_eq}
use Rattle.std.proofs.lemmas.Bool.Decides.{nat_tests}
use Rattle.std.proofs.lemmas.List.Sums.{sum_by-cons}
use Rattle.std.specs.List.{IsDistinct, AllByRecursion}
use Rattle.pf_base.specs.declared.TheConstants.{PAGE_SIZE}
use Rattle.pf_frame.specs.Counted.{positives, live_by}
use Rattle.pf_frame.specs.Live.{Census, IsSound}
use Rattle.pf_frame.specs.Own.{own_live}
use Rattle.pf_frame.specs.Pages.{page_of}
use Rattle.pf_frame.specs.declared.frame.Frame.{Frame}
use Rattle.pf_frame.specs.declared.own.OwnFrames.{OwnFrames}

pub positives-le-length : (cs : List ℕ) → positives cs ≤ length cs
positives-le-length [] = omega arith
positives-le-length (c ∷ cs) = grind (arith, nat_tests, positives-le-length cs)

pub positives-le-sum : (cs : List ℕ) → positives cs ≤ sum cs
positives-le-sum [] = omega arith
positives-le-sum (c ∷ cs) = let more : sum (c ∷ cs) ≡ c + sum cs = sum_by-cons (λ (x : ℕ). x) c cs in rw more (grind (arith, nat_tests, positives-le-sum cs))

-- no count is above the sum of all
pub counted-le-sum : (cs : List ℕ) (q : ℕ) → slice_index cs q ≤ sum cs
counted-le-sum [] q = omega arith
counted-le-sum (c ∷ cs) zero = omega (arith, sum_by-cons (λ (x : ℕ). x) c cs)
counted-le-sum (c ∷ cs) (suc q) = omega (arith, sum_by-cons (λ (x : ℕ). x) c cs, counted-le-sum cs q)

pub positives_zero : (cs : List ℕ) → positives cs ≡ 0 → sum cs ≡ 0
positives_zero [] e = refl
positives_zero (c ∷ cs) e = let more : sum (c ∷ cs) ≡ c + sum cs = sum_by-cons (λ (x : ℕ). x) c cs in rw more (grind (arith, nat_tests, positives_zero cs))

-- a number past the end has the count 0
pub counted_within : (counts : List ℕ) (nr : ℕ) → 0 < slice_index counts nr → nr < length counts
counted_within [] nr some = omega arith
counted_within (c ∷ cs) zero some = omega arith
counted_within (c ∷ cs) (suc nr) some = let less : nr < length cs = counted_within cs nr some in omega arith

-- a live frame's bytes are its page
pub page_shown : (count : ℕ) (page : List ℕ) → 0 < count → (if count == 0 then [] else page) ≡ page
page_shown count page some = grind (arith, nat_tests)

pub is_sound : (reserved : ℕ) (counts : List ℕ) (pages : List (List ℕ)) → positives counts ≤ reserved → ((q : ℕ) → 0 < slice_index counts q → length (slice_index_or pages q []) ≡ PAGE_SIZE) → IsSound (live_by reserved counts pages)
is_sound reserved counts pages credit whole = record {
  credit = credit;
  spread = positives-le-sum counts;
  most = counted-le-sum counts;
  none = λ e. positives_zero counts e;
  whole = λ q some. rw (page_shown (slice_index counts q) (slice_index_or pages q []) some) (whole q some);
}

-- the numbers of the counts above 0, where the first count is the frame k's
abbrev pub live_numbers : ℕ → List ℕ → List ℕ
live_numbers k [] = []
live_numbers k (c ∷ cs) = if c == 0 then live_numbers (k + 1) cs else k ∷ live_numbers (k + 1) cs

live_skip : (k c : ℕ) (cs : List ℕ) → c ≡ 0 → live_numbers k (c ∷ cs) ≡ live_numbers (k + 1) cs
live_skip k c cs e = grind (arith, nat_tests)

live_keep : (k c : ℕ) (cs : List ℕ) → c ≢ 0 → live_numbers k (c ∷ cs) ≡ k ∷ live_numbers (k + 1) cs
live_keep k c cs ne = grind (arith, nat_tests)

length-live_numbers : (k : ℕ) (cs : List ℕ) → length (live_numbers k cs) ≡ positives cs
length-live_numbers k [] = refl
length-live_numbers k (c ∷ cs) = grind (arith, nat_tests, length-live_numbers (k + 1) cs)

numbers_above : (j k : ℕ) (cs : List ℕ) → j < k → AllByRecursion (λ y. nat_eq j y ≡ false) (live_numbers k cs)
numbers_above j k [] less = tt
numbers_above j k (c ∷ cs) less =
    let rest : AllByRecursion (λ y. nat_eq j y ≡ false) (live_numbers (k + 1) cs) = numbers_above j (k + 1) cs (omega arith) in
    elim (cases_eq c 0) [
      | inl e ↦ subst (λ (xs : List ℕ). AllByRecursion (λ y. nat_eq j y ≡ false) xs) (sym (live_skip k c cs e)) rest
      | inr ne ↦ let other : nat_eq j k ≡ false = grind (arith, nat_tests) in subst (λ (xs : List ℕ). AllByRecursion (λ y. nat_eq j y ≡ false) xs) (sym (live_keep k c cs ne)) (other, rest)
    ]

numbers_apart : (k : ℕ) (cs : List ℕ) → IsDistinct nat_eq (live_numbers k cs)
unfolding IsDistinct
numbers_apart k [] = tt
numbers_apart k (c ∷ cs) =
    let rest : IsDistinct nat_eq (live_numbers (k + 1) cs) = numbers_apart (k + 1) cs in
    elim (cases_eq c 0) [
      | inl e ↦ subst (λ (xs : List ℕ). IsDistinct nat_eq xs) (sym (live_skip k c cs e)) rest
      | inr ne ↦ subst (λ (xs : List ℕ). IsDistinct nat_eq xs) (sym (live_keep k c cs ne)) (numbers_above k (k + 1) cs (omega arith), rest)
    ]

-- what stands among the numbers from k on is k or above, and its count is above 0
abbrev IsListed : ℕ → List ℕ → List ℕ → Type 0
IsListed k cs numbers = (i q : ℕ) → i < length numbers → slice_index_or numbers i q ≡ q → (k ≤ q) × (0 < slice_index cs (q - k))

listed_later : (k c : ℕ) (cs : List ℕ) (q : ℕ) → (k + 1 ≤ q) × (0 < slice_index cs (q - (k + 1))) → (k ≤ q) × (0 < slice_index (c ∷ cs) (q - k))
listed_later k c cs q h = let next : q - k ≡ suc (q - (k + 1)) = omega (arith, h.0) in (omega (arith, h.0), rw next h.1)

listed_kept : (k c : ℕ) (cs numbers : List ℕ) → 0 < c → IsListed (k + 1) cs numbers → IsListed k (c ∷ cs) (k ∷ numbers)
listed_kept k c cs numbers some rest zero q less at = let none : q - k ≡ 0 = omega arith in (omega arith, rw none some)
listed_kept k c cs numbers some rest (suc i) q less at = listed_later k c cs q (rest i q (omega arith) at)

numbers_listed : (k : ℕ) (cs : List ℕ) → IsListed k cs (live_numbers k cs)
numbers_listed k [] = λ i q less at. absurd (omega arith)
numbers_listed k (c ∷ cs) =
    let rest : IsListed (k + 1) cs (live_numbers (k + 1) cs) = numbers_listed (k + 1) cs in
    elim (cases_eq c 0) [
      | inl e ↦ subst (λ (xs : List ℕ). IsListed k (c ∷ cs) xs) (sym (live_skip k c cs e)) (λ i q less at. listed_later k c cs q (rest i q less at))
      | inr ne ↦ subst (λ (xs : List ℕ). IsListed k (c ∷ cs) xs) (sym (live_keep k c cs ne)) (listed_kept k c cs _ (omega arith) rest)
    ]

contains_later : (k q : ℕ) (numbers : List ℕ) → Contains numbers q → Contains (k ∷ numbers) q
contains_later k q numbers h = (suc h.0, omega (arith, h.1), h.2)

numbers_all : (k : ℕ) (cs : List ℕ) (q : ℕ) → 0 < slice_index cs q → Contains (live_numbers k cs) (k + q)
numbers_all k [] q some = absurd (omega arith)
numbers_all k (c ∷ cs) zero some =
    let first : slice_index_or (k ∷ live_numbers (k + 1) cs) 0 (k + 0) ≡ k + 0 = omega arith in
    subst (λ (xs : List ℕ). Contains xs (k + 0)) (sym (live_keep k c cs (omega arith))) (0, omega arith, first)
numbers_all k (c ∷ cs) (suc q) some =
    let same : (k + 1) + q ≡ k + suc q = omega arith in
    let rest : Contains (live_numbers (k + 1) cs) (k + suc q) = subst (λ (n : ℕ). Contains (live_numbers (k + 1) cs) n) same (numbers_all (k + 1) cs q some) in
    elim (cases_eq c 0) [
      | inl e ↦ subst (λ (xs : List ℕ). Contains xs (k + suc q)) (sym (live_skip k c cs e)) rest
      | inr ne ↦ subst (λ (xs : List ℕ). Contains xs (k + suc q)) (sym (live_keep k c cs ne)) (contains_later k (k + suc q) _ rest)
    ]

pub is_census : (reserved : ℕ) (counts : List ℕ) (pages : List (List ℕ)) → Census (live_by reserved counts pages)
is_census reserved counts pages = record {
  numbers = live_numbers 0 counts;
  apart = numbers_apart 0 counts;
  listed = λ q h. let at : (0 ≤ q) × (0 < slice_index counts (q - 0)) = numbers_listed 0 counts h.0 q h.1 h.2 in let same : q - 0 ≡ q = omega arith in subst (λ (n : ℕ). 0 < slice_index counts n) same at.1;
  all = λ q some. subst (λ (n : ℕ). Contains (live_numbers 0 counts) n) (omega arith) (numbers_all 0 counts q some);
  number = length-live_numbers 0 counts;
}

pub pages_whole : (frames : List Frame) (q : ℕ) → q < length frames → length (slice_index_or (map page_of frames) q []) ≡ PAGE_SIZE
pages_whole [] q less = absurd (omega arith)
pages_whole (f ∷ fs) zero less = f.whole
pages_whole (f ∷ fs) (suc q) less = pages_whole fs q (omega arith)

-- Frames of one's own

pub own_sound : (f : OwnFrames) → IsSound (own_live f)
own_sound f = is_sound _ _ _ (positives-le-length f.table.counts.items) (λ q some. pages_whole f.table.frames.items q (omega (arith, f.table.kept.paged, counted_within f.table.counts.items q some)))

pub own_census : (f : OwnFrames) → Census (own_live f)
own_census f = is_census _ f.table.counts.items _
