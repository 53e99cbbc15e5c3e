-- A script that was read speaks of no name before it is given.

use Rattle.std.proofs.Common.{◌≡◌, ℕ, ◌+◌, ◌<◌, Bool, true, false, List, [], ◌∷◌, ◌++◌, length}
use Rattle.std.proofs.Common.{refl, ap, sym, subst, arith, length-append}
use Rattle.std.specs.Prelude.{Option, Some, None, Result, Ok, Err, ◌==◌, nat_lt, bytes_eq, codes, if◌then◌else◌}
use Rattle.std.specs.List.{list_any, position_from}
use Rattle.std.proofs.lemmas.Bool.{eqb-true}
use Rattle.pf_base.specs.Limits.{Limits}
use Rattle.pf_base.specs.declared.TheConstants.{MAX_FRAMES}
use Rattle.pf_words.specs.declared.cause.Cause.{Cause}
use Rattle.pf_words.specs.declared.cause.Cause.TheVariants as causes
use Rattle.pf_words.specs.Arguments.{◌>>=◌, or_cause, number_at}
use Rattle.pf_words.specs.Verbs.{step_words}
use Rattle.pf_words.specs.Words.{pieces_of, words_of}
use Rattle.pf_script.specs.Script.{Draft, blank, pool_with, pool_line, with_limits, fresh_limits, space_with, space_words}
use Rattle.pf_script.specs.Script.{space_line, admitted, admit_with, admit_line, retire_with, retire_line, step_line}
use Rattle.pf_script.specs.Script.{first_word_line, words_line, is_skipped, is_empty_word, line_of, rest_of, numbered}
use Rattle.pf_script.specs.Script.{lines_from, read_script, place_of, reserved}
use Rattle.pf_script.specs.Sound.{AreGiven, IsGiven, given}
use Rattle.pf_script.specs.declared.line.Line.{Line}
use Rattle.pf_script.specs.declared.line.Line.TheVariants as lines
use Rattle.pf_script.specs.declared.refusal.Refusal.{Refusal}

abbrev Known : Draft → Type 0
Known d = AreGiven d.opening d.steps (length d.spaces)

-- so is the draft that comes out
abbrev Keeps : {E : Type 0} → Result Draft E → Type 0
Keeps (Ok d) = Known d
Keeps (Err cause) = Unit {0}

bound : {A : Type 0} (r : Result A Cause) (f : A → Result Draft Cause) → ((x : A) → r ≡ Ok x → Keeps (f x)) →
    Keeps (r >>= f)
bound (Ok x) f keeps = keeps x refl
bound (Err cause) f keeps = tt

chosen : (b : Bool) (x y : Result Draft Cause) → (b ≡ true → Keeps x) → (b ≡ false → Keeps y) →
    Keeps (if b then x else y)
chosen true x y p q = p refl
chosen false x y p q = q refl

-- One line more

one_more : (n : ℕ) (steps : List (ℕ × Line)) (m number : ℕ) (line : Line) → AreGiven n steps m → IsGiven m line number →
    AreGiven n (steps ++ (number, line) ∷ []) (given m line)
one_more n [] m number line known is =
    (subst (λ k. IsGiven k line number) (sym known) is, ap (λ k. given k line) known)
one_more n (e ∷ es) m number line known is = (known.0, one_more (given n e.1) es m number line known.1 is)

still_open : (n : ℕ) (steps : List (ℕ × Line)) (m : ℕ) → length steps ≡ 0 → n ≡ m → AreGiven n steps m
still_open n [] m none same = same
still_open n (e ∷ es) m none same = absurd (omega (arith, none))

found_low : (test : (List ℕ × Limits) → Bool) (i : ℕ) (xs : List (List ℕ × Limits)) (k : ℕ) →
    position_from test i xs ≡ Some k → k < i + length xs
found_low test i [] k is = absurd (cc)
found_low test i (x ∷ xs) k is = by (test x) is (λ more. found_low test (i + 1) xs k more)
  where
    by : (b : Bool) → (if b then Some i else position_from test (i + 1) xs) ≡ Some k →
        (position_from test (i + 1) xs ≡ Some k → k < i + 1 + length xs) → k < i + length (x ∷ xs)
    by true is rest = let same : i ≡ k = cc in omega (arith, same)
    by false is rest = omega (arith, rest is)

placed : (name : List ℕ) (spaces : List (List ℕ × Limits)) (cause : Cause) (place : ℕ) →
    or_cause (place_of name spaces) cause ≡ Ok place → place < length spaces
placed name spaces cause place is = by (place_of name spaces) refl is
  where
    by : (o : Option ℕ) → place_of name spaces ≡ o → or_cause o cause ≡ Ok place → place < length spaces
    by None found is = absurd (cc)
    by (Some k) found is =
        let same : k ≡ place = cc in
        omega (arith, same, found_low (λ s. bytes_eq s.0 name) 0 spaces k found)

-- The lines by their kinds

pool_keeps : (d : Draft) (frames : List ℕ) → Known d → Keeps (pool_with d frames)
unfolding pool_with
pool_keeps d frames known =
    bound (number_at MAX_FRAMES frames)
    (λ (n : ℕ). if n == 0 then Err causes.BadNumber else Ok (record d { frames = n }))
    (λ n is. chosen (n == 0) (Err causes.BadNumber) (Ok (record d { frames = n })) (λ e. tt) (λ e. known))

pool_line_keeps : (d : Draft) (words : List (List ℕ)) → Known d → Keeps (pool_line d words)
unfolding pool_line
pool_line_keeps d [] known = tt
pool_line_keeps d (w ∷ []) known = pool_keeps d w known
pool_line_keeps d (w ∷ v ∷ ws) known = tt

limits_keep : (d : Draft) (name : List ℕ) (limits : Limits) → length d.steps ≡ 0 → Keeps (with_limits d name limits)
unfolding with_limits
limits_keep d name limits none =
    chosen (nat_lt d.frames (reserved d.spaces + limits.reserve))
    (Err (causes.ReservationsExceed (reserved d.spaces + limits.reserve) d.frames))
    (Ok (record d { opening = length d.spaces + 1; spaces = d.spaces ++ (name, limits) ∷ [] }))
    (λ e. tt)
    (λ e. still_open (length d.spaces + 1) d.steps (length (d.spaces ++ (name, limits) ∷ [])) none
    (sym (length-append d.spaces ((name, limits) ∷ []))))

space_keeps : (d : Draft) (name reserve : List ℕ) (soft hard max : Option (List ℕ)) → length d.steps ≡ 0 →
    Keeps (space_with d name reserve soft hard max)
unfolding space_with
space_keeps d name reserve soft hard max none =
    bound (fresh_limits d name reserve soft hard max) (λ limits. with_limits d name limits)
    (λ limits is. limits_keep d name limits none)

space_words_keep : (d : Draft) (words : List (List ℕ)) → length d.steps ≡ 0 → Keeps (space_words d words)
unfolding space_words
space_words_keep d [] none = tt
space_words_keep d (a ∷ []) none = tt
space_words_keep d (a ∷ b ∷ []) none = space_keeps d a b None None None none
space_words_keep d (a ∷ b ∷ c ∷ []) none = space_keeps d a b (Some c) None None none
space_words_keep d (a ∷ b ∷ c ∷ e ∷ []) none = space_keeps d a b (Some c) (Some e) None none
space_words_keep d (a ∷ b ∷ c ∷ e ∷ f ∷ []) none = space_keeps d a b (Some c) (Some e) (Some f) none
space_words_keep d (a ∷ b ∷ c ∷ e ∷ f ∷ g ∷ ws) none = tt

space_line_keeps : (d : Draft) (words : List (List ℕ)) → Keeps (space_line d words)
unfolding space_line
space_line_keeps d words =
    chosen (length d.steps == 0) (space_words d words) (Err causes.LateSpace)
    (λ e. space_words_keep d words (eqb-true (length d.steps) 0 e)) (λ e. tt)

admitted_known : (d : Draft) (name : List ℕ) (limits : Limits) → Known d → Known (admitted d name limits)
admitted_known d name limits known =
    subst (λ m. AreGiven d.opening (d.steps ++ (length d.spaces, lines.Admit) ∷ []) m)
    (sym (length-append d.spaces ((name, limits) ∷ [])))
    (one_more d.opening d.steps (length d.spaces) (length d.spaces) lines.Admit known refl)

admit_keeps : (d : Draft) (name reserve : List ℕ) (soft hard max : Option (List ℕ)) → Known d →
    Keeps (admit_with d name reserve soft hard max)
unfolding admit_with
admit_keeps d name reserve soft hard max known =
    bound (fresh_limits d name reserve soft hard max) (λ limits. Ok (admitted d name limits))
    (λ limits is. admitted_known d name limits known)

admit_line_keeps : (d : Draft) (words : List (List ℕ)) → Known d → Keeps (admit_line d words)
unfolding admit_line
admit_line_keeps d [] known = tt
admit_line_keeps d (a ∷ []) known = tt
admit_line_keeps d (a ∷ b ∷ []) known = admit_keeps d a b None None None known
admit_line_keeps d (a ∷ b ∷ c ∷ []) known = admit_keeps d a b (Some c) None None known
admit_line_keeps d (a ∷ b ∷ c ∷ e ∷ []) known = admit_keeps d a b (Some c) (Some e) None known
admit_line_keeps d (a ∷ b ∷ c ∷ e ∷ f ∷ []) known = admit_keeps d a b (Some c) (Some e) (Some f) known
admit_line_keeps d (a ∷ b ∷ c ∷ e ∷ f ∷ g ∷ ws) known = tt

retire_keeps : (d : Draft) (name : List ℕ) → Known d → Keeps (retire_with d name)
unfolding retire_with
retire_keeps d name known =
    bound (or_cause (place_of name d.spaces) causes.UnknownNamespace)
    (λ place. Ok (record d { steps = d.steps ++ (place, lines.Retire) ∷ [] }))
    (λ place is. one_more d.opening d.steps (length d.spaces) place lines.Retire known
    (placed name d.spaces causes.UnknownNamespace place is))

retire_line_keeps : (d : Draft) (words : List (List ℕ)) → Known d → Keeps (retire_line d words)
unfolding retire_line
retire_line_keeps d [] known = tt
retire_line_keeps d (name ∷ []) known = retire_keeps d name known
retire_line_keeps d (name ∷ w ∷ ws) known = tt

step_line_keeps : (d : Draft) (name : List ℕ) (words : List (List ℕ)) → Known d → Keeps (step_line d name words)
unfolding step_line
step_line_keeps d name words known =
    bound (or_cause (place_of name d.spaces) causes.UnknownNamespace)
    (λ place. step_words words >>= (λ step. Ok (record d { steps = d.steps ++ (place, lines.Step step) ∷ [] })))
    (λ place is. bound (step_words words)
    (λ step. Ok (record d { steps = d.steps ++ (place, lines.Step step) ∷ [] }))
    (λ step is'. one_more d.opening d.steps (length d.spaces) place (lines.Step step) known
    (placed name d.spaces causes.UnknownNamespace place is)))

-- Any line

first_word_keeps : (d : Draft) (first : List ℕ) (words : List (List ℕ)) → Known d →
    Keeps (first_word_line d first words)
unfolding first_word_line
first_word_keeps d first words known =
    chosen (bytes_eq first (codes "pool")) _ _
    (λ e. chosen (d.frames == 0) _ _ (λ e. pool_line_keeps d words known) (λ e. tt))
    (λ e. chosen (d.frames == 0) _ _ (λ e. tt)
    (λ e. chosen (bytes_eq first (codes "space")) _ _ (λ e. space_line_keeps d words)
    (λ e. chosen (bytes_eq first (codes "admit")) _ _ (λ e. admit_line_keeps d words known)
    (λ e. chosen (bytes_eq first (codes "retire")) _ _ (λ e. retire_line_keeps d words known)
    (λ e. step_line_keeps d first words known)))))

words_keep : (d : Draft) (words : List (List ℕ)) → Known d → Keeps (words_line d words)
unfolding words_line
words_keep d [] known = known
words_keep d (first ∷ words) known = first_word_keeps d first words known

line_keeps : (d : Draft) (text : List ℕ) → Known d → Keeps (line_of d text)
unfolding line_of
line_keeps d text known =
    chosen (nat_lt 2200000 (length text)) _ _ (λ e. tt)
    (λ e. chosen (is_skipped text) _ _ (λ e. known)
    (λ e. chosen (list_any is_empty_word (words_of text)) _ _ (λ e. tt) (λ e. words_keep d (words_of text) known)))

rest_keeps : (d : Draft) (text : List ℕ) → Known d → Keeps (rest_of d text)
unfolding rest_of
rest_keeps d text known =
    chosen (length text == 0) _ _ (λ e. known)
    (λ e. chosen (nat_lt 2200000 (length text)) _ _ (λ e. tt) (λ e. tt))

numbered_keeps : (k : ℕ) (r : Result Draft Cause) (go : Draft → Result Draft Refusal) → Keeps r →
    ((e : Draft) → Known e → Keeps (go e)) → Keeps (numbered k r go)
numbered_keeps k (Ok d) go known keeps = keeps d known
numbered_keeps k (Err cause) go known keeps = tt

lines_keep : (d : Draft) (k : ℕ) (texts : List (List ℕ)) → Known d → Keeps (lines_from d k texts)
unfolding lines_from
lines_keep d k [] known = known
lines_keep d k (text ∷ []) known =
    numbered_keeps k (rest_of d text) (λ e. Ok e) (rest_keeps d text known) (λ e known'. known')
lines_keep d k (text ∷ next ∷ texts) known =
    numbered_keeps k (line_of d text) (λ e. lines_from e (k + 1) (next ∷ texts)) (line_keeps d text known)
    (λ e known'. lines_keep e (k + 1) (next ∷ texts) known')

pub read_known : (bytes : List ℕ) (script : Draft) → read_script bytes ≡ Ok script →
    AreGiven script.opening script.steps (length script.spaces)
read_known bytes script is =
    subst (λ (r : Result Draft Refusal). Keeps r) is (lines_keep blank 1 (pieces_of 10 bytes) refl)
