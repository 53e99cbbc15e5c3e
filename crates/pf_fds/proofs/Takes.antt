-- The marks go with the values: the least number that isn't marked is the lowest free one, and those that are marked are
-- taken. And the places that are written stand for all.

use Rattle.std.proofs.Common.{◌≡◌, ◌≢◌, ℕ, zero, suc, ◌+◌, ◌-◌, ◌<◌, ◌≤◌, Bool, true, false, cond, List, [], ◌∷◌, ◌++◌, length, map, set, replicate, count_by, Option, Some, None, IsSome, is_some, get_or, refl, sym, ap, subst, ◌∙◌, inl, inr, arith, length-set}
use Rattle.std.proofs.lemmas.Bool.{true≢false, cases_eq, cases_lt}
use Rattle.std.proofs.lemmas.List.Sums.{sum_by-cons}
use Rattle.std.proofs.lemmas.List.{append-nil, append_assoc, length-append, length-map, length-replicate, get_or-replicate}
use Rattle.pf_machine.specs.Numbered.{at, clear_at, first_free, sum_of}
use Rattle.pf_machine.proofs.NumberedLaws.{at_past, at-put_same, at-put_other, at-push_old, at-push_new, same_at, first_free-is}
use Rattle.pf_fds.specs.declared.marks.Marks.{Marks}
use Rattle.pf_fds.specs.Marks.{is_marked, IsCount}
use Rattle.pf_fds.specs.Taken.{padded, IsTaken, AreWritten}

module _ {T : Type 0} where
  none_if : (o : Option T) → is_some o ≡ false → o ≡ None
  none_if None h = refl
  none_if (Some x) h = absurd (true≢false h)

  some_if : (o : Option T) → is_some o ≡ true → o ≢ None
  some_if o h none = true≢false (sym h ∙ ap is_some none)

  -- another value or none at a number
  pub taken_set : (m m' : Marks) (xs : List (Option T)) (n : ℕ) (o : Option T) → IsTaken m xs → n < 256 → is_marked m' n ≡ is_some o
      → ((k : ℕ) → k < 256 → k ≢ n → is_marked m' k ≡ is_marked m k) → IsTaken m' (set xs n o)
  taken_set m m' xs n o t l here others = record {
    places = length-set xs n o ∙ t.places;
    marked = λ k within. elim (cases_eq k n) [
      | inl same ↦ ap (is_marked m') same ∙ here ∙ sym (ap (λ j. is_some (at (set xs n o) j)) same ∙ ap is_some (at-put_same xs n o (omega (arith, t.places))))
      | inr other ↦ others k within other ∙ t.marked k within ∙ sym (ap is_some (at-put_other xs n k o other))
    ];
  }

  pub taken_lowest : (m : Marks) (xs : List (Option T)) (r : ℕ) → IsTaken m xs → r ≤ 256 → (r < 256 → is_marked m r ≡ false) → ((k : ℕ) → k < r → is_marked m k ≡ true) → first_free xs ≡ r
  taken_lowest m xs r t most free below =
      first_free-is xs r (omega (arith, t.places))
      (elim (cases_lt r 256) [ inl l ↦ none_if (at xs r) (sym (t.marked r l) ∙ free l) | inr past ↦ at_past xs r (omega (arith, t.places)) ])
      (λ k l. some_if (at xs k) (sym (t.marked k (omega (arith, l, most))) ∙ below k l))

  pub taken_stands : (m : Marks) (xs : List (Option T)) (r : ℕ) → IsTaken m xs → r < 256 → is_marked m r ≡ true → IsSome (at xs r)
  taken_stands m xs r t l marked = sym (t.marked r l) ∙ marked

  pub taken_none : (m : Marks) (xs : List (Option T)) (r : ℕ) → IsTaken m xs → r < 256 → is_marked m r ≡ false → at xs r ≡ None
  taken_none m xs r t l unmarked = none_if (at xs r) (sym (t.marked r l) ∙ unmarked)

  some_at : (xs : List (Option T)) (k : ℕ) → is_some (at xs k) ≡ get_or (map is_some xs) k false
  some_at [] k = refl
  some_at (x ∷ xs) zero = refl
  some_at (x ∷ xs) (suc k) = some_at xs k

  -- as many have a value as count 1 each
  summed : (xs : List (Option T)) → count_by (λ (b : Bool). b) (map is_some xs) ≡ sum_of (λ (x : T). 1) xs
  summed [] = refl
  summed (None ∷ xs) = omega (arith, summed xs)
  summed (Some x ∷ xs) = sum_by-cons (λ (b : Bool). cond b 1 0) true (map is_some xs) ∙ ap (λ n. 1 + n) (summed xs)

  pub taken_counted : (m : Marks) (xs : List (Option T)) (c : ℕ) → IsTaken m xs → IsCount m c → c ≡ sum_of (λ (x : T). 1) xs
  taken_counted m xs c t counts = counts (map is_some xs) (length-map xs is_some ∙ t.places) (λ k l. t.marked k l ∙ some_at xs k) ∙ summed xs

  pub sum_of-few : (xs : List (Option T)) → sum_of (λ (x : T). 1) xs ≤ length xs
  sum_of-few [] = omega arith
  sum_of-few (None ∷ xs) = omega (arith, sum_of-few xs)
  sum_of-few (Some x ∷ xs) = omega (arith, sum_of-few xs)

  -- The written places

  gap_at : (m k : ℕ) → at {X = T} (replicate m None) k ≡ None
  gap_at m k = elim (cases_lt k m) [ inl l ↦ get_or-replicate m k None None l | inr past ↦ at_past {X = T} (replicate m None) k (omega (arith, length-replicate {A = Option T} m None)) ]

  -- more places with no value
  at-gaps : (xs : List (Option T)) (m k : ℕ) → at (xs ++ replicate m None) k ≡ at xs k
  at-gaps [] m k = gap_at m k
  at-gaps (x ∷ xs) m zero = refl
  at-gaps (x ∷ xs) m (suc k) = at-gaps xs m k

  gap_more : (m : ℕ) → replicate {A = Option T} m None ++ None ∷ [] ≡ replicate (m + 1) None
  gap_more zero = refl
  gap_more (suc m) = let e : suc m + 1 ≡ suc (m + 1) = omega arith in ap (λ ys. None ∷ ys) (gap_more m) ∙ ap (λ k. replicate k None) (sym e)

  pub gaps_more : (xs : List (Option T)) (m k : ℕ) → k ≡ m + 1 → (xs ++ replicate m None) ++ None ∷ [] ≡ xs ++ replicate k None
  gaps_more xs m k e = append_assoc xs (replicate m None) (None ∷ []) ∙ ap (λ ys. xs ++ ys) (gap_more m) ∙ ap (λ j. xs ++ replicate j None) (sym e)

  pub no_gaps : (xs : List (Option T)) (m : ℕ) → m ≡ 0 → xs ≡ xs ++ replicate m None
  no_gaps xs m e = sym (append-nil xs) ∙ ap (λ k. xs ++ replicate k None) (sym e)

  length-gaps : (xs : List (Option T)) (m : ℕ) → length (xs ++ replicate m None) ≡ length xs + m
  length-gaps xs m = length-append xs (replicate m None) ∙ ap (λ n. length xs + n) (length-replicate {A = Option T} m None)

  pub at-padded : (xs : List (Option T)) (k : ℕ) → at (padded xs) k ≡ at xs k
  at-padded xs k = at-gaps xs (256 - length xs) k

  pub length-padded : (xs : List (Option T)) → length xs ≤ 256 → length (padded xs) ≡ 256
  length-padded xs few = omega (arith, length-gaps xs (256 - length xs))

  -- the same values stand at the same numbers
  same_places : (xs ys : List (Option T)) → length xs ≤ 256 → length ys ≡ 256 → ((k : ℕ) → at xs k ≡ at ys k) → padded xs ≡ ys
  same_places xs ys few wide same = same_at (padded xs) ys (length-padded xs few ∙ sym wide) (λ k. at-padded xs k ∙ same k)

  module _ (xs : List (Option T)) (few : length xs ≤ 256) where
    wide : (n : ℕ) (o : Option T) → length (set (padded xs) n o) ≡ 256
    wide n o = length-set (padded xs) n o ∙ length-padded xs few

    -- another value or none at a number, seen at each
    at_changed : (ys : List (Option T)) (n : ℕ) (o : Option T) → n < 256 → at ys n ≡ o → ((k : ℕ) → k ≢ n → at ys k ≡ at xs k) → (k : ℕ) → at ys k ≡ at (set (padded xs) n o) k
    at_changed ys n o l here others k =
        elim (cases_eq k n) [
          | inl same ↦ ap (at ys) same ∙ here ∙ sym (ap (at (set (padded xs) n o)) same ∙ at-put_same (padded xs) n o (omega (arith, length-padded xs few)))
          | inr other ↦ others k other ∙ sym (at-put_other (padded xs) n k o other ∙ at-padded xs k)
        ]

    -- at one that is written
    pub written_set : (n : ℕ) (o : Option T) → n < length xs → padded (set xs n o) ≡ set (padded xs) n o
    written_set n o l =
        same_places (set xs n o) (set (padded xs) n o) (omega (arith, length-set xs n o)) (wide n o)
        (at_changed (set xs n o) n o (omega arith) (at-put_same xs n o l) (λ k other. at-put_other xs n k o other))

    -- at one that is not, with none at those in between
    abbrev pub grown : ℕ → T → List (Option T)
    grown n x = (xs ++ replicate (n - length xs) None) ++ Some x ∷ []

    length-below : (n : ℕ) → length xs ≤ n → length (xs ++ replicate (n - length xs) None) ≡ n
    length-below n past = omega (arith, length-gaps xs (n - length xs))

    pub length-grown : (n : ℕ) (x : T) → length xs ≤ n → length (grown n x) ≡ n + 1
    length-grown n x past = omega (arith, length-append (xs ++ replicate (n - length xs) None) (Some x ∷ []), length-below n past)

    pub written_grown : (n : ℕ) (x : T) → length xs ≤ n → n < 256 → padded (grown n x) ≡ set (padded xs) n (Some x)
    written_grown n x past l =
        same_places (grown n x) (set (padded xs) n (Some x)) (omega (arith, length-grown n x past)) (wide n (Some x))
        (at_changed (grown n x) n (Some x) l (subst (λ m. at (grown n x) m ≡ Some x) (length-below n past) (at-push_new (xs ++ replicate (n - length xs) None) (Some x))) others)
      where
        others : (k : ℕ) → k ≢ n → at (grown n x) k ≡ at xs k
        others k other =
            elim (cases_lt k n) [
              | inl below ↦ at-push_old (xs ++ replicate (n - length xs) None) (Some x) k (omega (arith, length-below n past)) ∙ at-gaps xs (n - length xs) k
              | inr above ↦ at_past (grown n x) k (omega (arith, length-grown n x past, other)) ∙ sym (at_past xs k (omega arith))
            ]

    -- none where there was none
    clear_none : (ys : List (Option T)) (n : ℕ) → at ys n ≡ None → clear_at ys n ≡ ys
    clear_none [] n h = refl
    clear_none (y ∷ ys) zero h = ap (λ z. z ∷ ys) (sym h)
    clear_none (y ∷ ys) (suc n) h = ap (λ zs. y ∷ zs) (clear_none ys n h)

    pub unwritten_none : (n : ℕ) → length xs ≤ n → at (padded xs) n ≡ None
    unwritten_none n past = at-padded xs n ∙ at_past xs n past

    pub unwritten_clear : (n : ℕ) → length xs ≤ n → padded xs ≡ clear_at (padded xs) n
    unwritten_clear n past = sym (clear_none (padded xs) n (unwritten_none n past))

  -- what is known of the fields after another value or none at a number
  pub written_changed : (m m' : Marks) (xs ys : List (Option T)) (capacity capacity' n : ℕ) (o : Option T) → AreWritten m xs capacity → n < 256 → padded ys ≡ set (padded xs) n o → length ys ≤ 256 → 256 ≤ capacity'
      → is_marked m' n ≡ is_some o → ((k : ℕ) → k < 256 → k ≢ n → is_marked m' k ≡ is_marked m k) → AreWritten m' ys capacity'
  written_changed m m' xs ys capacity capacity' n o w l is few room here others = record {
    few = few;
    room = room;
    taken = subst (λ zs. IsTaken m' zs) (sym is) (taken_set m m' (padded xs) n o w.taken l here others);
  }

  -- none is written
  pub none_written : (m : Marks) (xs : List (Option T)) (capacity : ℕ) → xs ≡ [] → 256 ≤ capacity → ((n : ℕ) → n < 256 → is_marked m n ≡ false) → AreWritten m xs capacity
  none_written m xs capacity bare room unmarked = record {
    few = omega (arith, ap length bare);
    room = room;
    taken = record {
      places = length-padded xs (omega (arith, ap length bare));
      marked = λ n l. unmarked n l ∙ sym (ap is_some (at-padded xs n ∙ ap (λ ys. at ys n) bare));
    };
  }

  -- a value that stands is written
  pub written_there : (xs : List (Option T)) (n : ℕ) → length xs ≤ 256 → IsSome (at (padded xs) n) → n < length xs
  written_there xs n few some =
      elim (cases_lt n (length xs)) [ inl l ↦ l | inr past ↦ absurd (true≢false (sym some ∙ ap is_some (unwritten_none xs few n past))) ]

  -- another value in its place
  pub written_lent : (m : Marks) (xs : List (Option T)) (capacity n : ℕ) → AreWritten m xs capacity → IsSome (at (padded xs) n) → (x : T) → AreWritten m (set xs n (Some x)) capacity
  written_lent m xs capacity n w some x =
      let l : n < length xs = written_there xs n w.few some in
      let within : n < 256 = omega (arith, l, w.few) in
      written_changed m m xs (set xs n (Some x)) capacity capacity n (Some x) w within (written_set xs w.few n (Some x) l)
      (omega (arith, length-set xs n (Some x), w.few)) w.room (w.taken.marked n within ∙ some) (λ k below other. refl)
