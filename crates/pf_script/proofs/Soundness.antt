-- Each line keeps what every script has.

use Rattle.std.proofs.Common.{◌≡◌, ℕ, ◌+◌, ◌<◌, ◌≤◌, ◌⊎◌, inl, inr, List, [], ◌∷◌, ◌++◌, length, length-append, map, take, get_or, Some, None, Bool, true, false, cond, refl, ap, sym, subst, ◌∙◌, arith}
use Rattle.std.specs.Prelude.{zero, suc, bytes_eq, nat_le, nat_lt, Ok}
use Rattle.std.specs.List.{position_from}
use Rattle.std.specs.Cmp.Lexicographic.{nat_list_eq_equiv}
use Rattle.std.proofs.lemmas.Bool.{lt-leb}
use Rattle.std.proofs.lemmas.List.Sums.{sum_by_push, get_or-le-sum_by}
use Rattle.std.proofs.lemmas.Option.{get_or_from_slice_get}
use Rattle.std.proofs.Math.ListN.{get_or-map}
use Rattle.std.proofs.Math.Seq.{take-length}
use Rattle.std.proofs.lemmas.List.{take-append-le, length-take-le, get_or-take}
use Rattle.std.specs.Prelude.{slice_get}
use Rattle.std.proofs.lemmas.Bool.Decides.{nat_tests}
use Rattle.pf_base.specs.Limits.{Limits}
use Rattle.pf_script.specs.Script.{Draft, place_of, reserved, with_limits, admitted}
use Rattle.pf_script.specs.declared.line.Line.{Line}
use Rattle.pf_script.specs.declared.line.Line.TheVariants as lines
use Rattle.pf_script.specs.Sound.{AreDistinct, IsSound, given, IsGiven, AreGiven}

-- a line gives no name away
given_more : (n : ℕ) (line : Line) → n ≤ given n line
given_more n (lines.Step step) = omega arith
given_more n lines.Admit = omega arith
given_more n lines.Retire = omega arith

-- and speaks of one that is given behind it
below : (n : ℕ) (line : Line) (number : ℕ) → IsGiven n line number → number < given n line
below n (lines.Step step) number is = is
below n lines.Admit number is = omega (arith, is)
below n lines.Retire number is = is

-- the names that are there from the start are some of all
pub opened : (n : ℕ) (steps : List (ℕ × Line)) (m : ℕ) → AreGiven n steps m → n ≤ m
opened n [] m is = omega (arith, is)
opened n (e ∷ es) m is = omega (arith, given_more n e.1, opened (given n e.1) es m is.1)

-- no line speaks of a name that is never given
pub none_strays : (n : ℕ) (steps : List (ℕ × Line)) (m i : ℕ) → AreGiven n steps m →
    position_from (λ e. nat_le m e.0) i steps ≡ None
none_strays n [] m i is = refl
none_strays n (e ∷ es) m i is =
    let low : e.0 < m = omega (arith, below n e.1 e.0 is.0, opened (given n e.1) es m is.1) in
    rw (lt-leb m e.0 low) (none_strays (given n e.1) es m (i + 1) is.1)

-- a line more
one_more : (n : ℕ) (steps : List (ℕ × Line)) (m number : ℕ) (line : Line) → AreGiven n steps m → IsGiven m line number →
    AreGiven n (steps ++ (number, line) ∷ []) (given m line)
one_more n [] m number line is last = rw is (last, refl)
one_more n (e ∷ es) m number line is last = (is.0, one_more (given n e.1) es m number line is.1 last)

-- where no line follows, all names are there from the start
pub all_open : (n : ℕ) (steps : List (ℕ × Line)) (m : ℕ) → length steps ≡ 0 → AreGiven n steps m → n ≡ m
all_open n [] m none is = is
all_open n (e ∷ es) m none is = absurd (omega (arith, none))

still_open : (n : ℕ) (steps : List (ℕ × Line)) (m : ℕ) → length steps ≡ 0 → n ≡ m → AreGiven n steps m
still_open n [] m none is = is
still_open n (e ∷ es) m none is = absurd (omega (arith, none))

-- a namespace whose reservation is left
pub reserves : (d : Draft) (name : List ℕ) (limits : Limits) → reserved d.spaces + limits.reserve ≤ d.frames →
    with_limits d name limits ≡ Ok (record d { opening = length d.spaces + 1; spaces = d.spaces ++ (name, limits) ∷ [] })
unfolding with_limits
reserves d name limits left =
    let no : nat_lt d.frames (reserved d.spaces + limits.reserve) ≡ false = grind (arith, nat_tests) in
    rw no refl

-- what is found stays found
still_at : (test : (List ℕ × Limits) → Bool) (i k : ℕ) (xs ys : List (List ℕ × Limits)) → position_from test i xs ≡ Some k → position_from test i (xs ++ ys) ≡ Some k
still_at test i k [] ys is = absurd (cc)
still_at test i k (x ∷ xs) ys is = by (test x) is (still_at test (i + 1) k xs ys)
  where
    by : (b : Bool) → cond b (Some i) (position_from test (i + 1) xs) ≡ Some k → (position_from test (i + 1) xs ≡ Some k → position_from test (i + 1) (xs ++ ys) ≡ Some k) →
        cond b (Some i) (position_from test (i + 1) (xs ++ ys)) ≡ Some k
    by true is rest = is
    by false is rest = rest is

-- what is found nowhere is found last
last_at : (test : (List ℕ × Limits) → Bool) (i : ℕ) (xs : List (List ℕ × Limits)) (y : List ℕ × Limits) → position_from test i xs ≡ None → test y ≡ true → position_from test i (xs ++ y ∷ []) ≡ Some (i + length xs)
last_at test i [] y none is = let same : i + 0 ≡ i = omega arith in rw (is, same) refl
last_at test i (x ∷ xs) y none is =
    let next : i + 1 + length xs ≡ i + length (x ∷ xs) = omega arith in
    by (test x) none (λ e. rw next at (last_at test (i + 1) xs y e is))
  where
    by : (b : Bool) → cond b (Some i) (position_from test (i + 1) xs) ≡ None → (position_from test (i + 1) xs ≡ None → position_from test (i + 1) (xs ++ y ∷ []) ≡ Some (i + length (x ∷ xs))) →
        cond b (Some i) (position_from test (i + 1) (xs ++ y ∷ [])) ≡ Some (i + length (x ∷ xs))
    by true none rest = absurd (cc)
    by false none rest = rest none

-- a name is one of the first, or the last
name_of_both : (xs : List (List ℕ × Limits)) (y : List ℕ × Limits) (n : ℕ) (name : List ℕ) → slice_get (map (λ s. s.0) (xs ++ y ∷ [])) n ≡ Some name →
    (slice_get (map (λ s. s.0) xs) n ≡ Some name) ⊎ ((n ≡ length xs) × (y.0 ≡ name))
name_of_both [] y zero name is = inr (refl, cc)
name_of_both [] y (suc n) name is = absurd (cc)
name_of_both (x ∷ xs) y zero name is = inl is
name_of_both (x ∷ xs) y (suc n) name is = elim (name_of_both xs y n name is) [
  | inl e ↦ inl e
  | inr e ↦ inr (ap suc e.0, e.1)
]

distinct_on : (d : List (List ℕ × Limits)) (name : List ℕ) (limits : Limits) → AreDistinct d → place_of name d ≡ None → AreDistinct (d ++ (name, limits) ∷ [])
distinct_on d name limits distinct fresh n own is =
    let first : 0 + length d ≡ length d = omega arith in
    elim (name_of_both d (name, limits) n own is) [
      | inl e ↦ still_at (λ s. bytes_eq s.0 own) 0 n d ((name, limits) ∷ []) (distinct n own e)
      | inr e ↦ rw (← e.1, e.0) (rw first at (last_at (λ s. bytes_eq s.0 name) 0 d (name, limits) fresh (nat_list_eq_equiv.refl name)))
    ]

-- where no line follows, the namespaces' reservations all fit
pub all_fit : (d : Draft) → IsSound d → length d.steps ≡ 0 → reserved d.spaces ≤ d.frames
all_fit d sound none =
    let whole : d.opening ≡ length d.spaces = all_open d.opening d.steps (length d.spaces) none sound.known in
    let all : take d.opening d.spaces ≡ d.spaces = ap (λ n. take n d.spaces) whole ∙ take-length d.spaces in
    let fits = rw all at sound.fits in
    fits

-- a namespace more from the start, whose reservation is left
pub space_sound : (d : Draft) (name : List ℕ) (limits : Limits) → IsSound d → place_of name d.spaces ≡ None →
    length d.spaces < 64 → length d.steps ≡ 0 → reserved d.spaces + limits.reserve ≤ d.frames →
    IsSound (record d { opening = length d.spaces + 1; spaces = d.spaces ++ (name, limits) ∷ [] })
space_sound d name limits sound fresh few none left =
    let long : length (d.spaces ++ (name, limits) ∷ []) ≡ length d.spaces + 1 = length-append d.spaces ((name, limits) ∷ []) in
    let all : take (length d.spaces + 1) (d.spaces ++ (name, limits) ∷ []) ≡ d.spaces ++ (name, limits) ∷ [] =
    ap (λ n. take n (d.spaces ++ (name, limits) ∷ [])) (sym long) ∙ take-length (d.spaces ++ (name, limits) ∷ []) in
    let sum = sum_by_push (λ s. s.1.reserve) d.spaces (name, limits) in
    let within : reserved (d.spaces ++ (name, limits) ∷ []) ≤ d.frames = omega (arith, sum) in
    record {
      few = omega (arith, long);
      distinct = distinct_on d.spaces name limits sound.distinct fresh;
      small = sound.small;
      fits = rw all within;
      known = still_open (length d.spaces + 1) d.steps (length (d.spaces ++ (name, limits) ∷ [])) none (sym long);
    }

-- a namespace more, which a line admits: it is no matter what it reserves
pub admit_sound : (d : Draft) (name : List ℕ) (limits : Limits) → IsSound d → place_of name d.spaces ≡ None →
    length d.spaces < 64 → IsSound (admitted d name limits)
admit_sound d name limits sound fresh few =
    let long : length (d.spaces ++ (name, limits) ∷ []) ≡ length d.spaces + 1 = length-append d.spaces ((name, limits) ∷ []) in
    let front : take d.opening (d.spaces ++ (name, limits) ∷ []) ≡ take d.opening d.spaces =
    take-append-le d.opening d.spaces ((name, limits) ∷ []) (opened d.opening d.steps (length d.spaces) sound.known) in
    record {
      few = omega (arith, long);
      distinct = distinct_on d.spaces name limits sound.distinct fresh;
      small = sound.small;
      fits = rw front sound.fits;
      known = rw long (one_more d.opening d.steps (length d.spaces) (length d.spaces) lines.Admit sound.known refl);
    }

-- a line more that gives no name
pub line_sound : (d : Draft) (number : ℕ) (line : Line) → IsSound d → IsGiven (length d.spaces) line number →
    given (length d.spaces) line ≡ length d.spaces → IsSound (record d { steps = d.steps ++ (number, line) ∷ [] })
line_sound d number line sound is none = record {
  few = sound.few;
  distinct = sound.distinct;
  small = sound.small;
  fits = sound.fits;
  known = subst (λ m. AreGiven d.opening (d.steps ++ (number, line) ∷ []) m) none (one_more d.opening d.steps (length d.spaces) number line sound.known is);
}

-- one namespace that is there from the start reserves no more than the pool has
pub one_fits : (d : Draft) (n : ℕ) (limits : Limits) → IsSound d → n < d.opening →
    slice_get (map (λ s. s.1) d.spaces) n ≡ Some limits → limits.reserve ≤ d.frames
one_fits d n limits sound low is =
    let other : List ℕ × Limits = ([], record { reserve = 0; soft = 0; hard = 0; max = 0 }) in
    let some = opened d.opening d.steps (length d.spaces) sound.known in
    let long : length (take d.opening d.spaces) ≡ d.opening = length-take-le d.opening d.spaces some in
    let most = get_or-le-sum_by (λ (s : List ℕ × Limits). s.1.reserve) (take d.opening d.spaces) n other (omega (arith, long, low)) in
    let same : get_or (take d.opening d.spaces) n other ≡ get_or d.spaces n other = get_or-take d.opening d.spaces n other low in
    let here : (get_or d.spaces n other).1 ≡ limits = sym (get_or-map (λ (s : List ℕ × Limits). s.1) d.spaces n other) ∙ get_or_from_slice_get (map (λ (s : List ℕ × Limits). s.1) d.spaces) n limits other.1 is in
    let fits = sound.fits in
    omega (arith, rw (same, here) at most, fits)
