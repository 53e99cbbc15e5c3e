-- What words of the command line ask for. The parser's rules for simple commands hold for the program's, and a word
-- that begins with no hyphen is the value of the option before it.

use Rattle.std.proofs.Common.{arith, ap, ap₂, codes, is_some, refl, ℕ, List, Some, None, [], ◌∷◌, ◌++◌, ◌≡◌, ◌==◌}
use Rattle.std.proofs.Common.{true, false, bytes_eq, Bool, Option}
use Rattle.std.proofs.lemmas.Bool.Decides.{nat_tests}
use Rattle.clap.specs.Words.{Rule, Text, built, first_of, is_simple, is_simple_and_free}
use Rattle.clap.specs.Lexer.{long_of, short_of}
use Rattle.clap.specs.Walk.{Held, Names, Step, Walk, after_step, finished, nothing_held, option, plain_word}
use Rattle.clap.specs.Walk.{settled, walk_from, walked, word_met}
use Rattle.clap.specs.Simple.{Shape, entered, names_of}
use Rattle.clap.specs.Kinds.{Kinds, or_else}
use Rattle.clap.specs.Faults.{check_fault, defaults_fault, entered_fault, settle_fault, step_fault, turn_fault}
use Rattle.clap.specs.Faults.{word_fault}
use Rattle.clap.proofs.OnLiterals.{clap_on_literals}
use Rattle.pf_words.specs.Words.{is_name}
use Rattle.pf_play.specs.CommandLine.{Asks, ChoosesEachName, is_true, pfplay}

pub simple : is_simple pfplay ≡ true
unfolding clap_on_literals
simple = refl

pub simple_and_free : is_simple_and_free pfplay ≡ true
unfolding clap_on_literals
simple_and_free = refl

not_trailing : (x : ℕ) (xs : Text) → (x == 45) ≡ false → bytes_eq (x ∷ xs) (45 ∷ 45 ∷ []) ≡ false
not_trailing x xs e = rw e refl

not_long : (x : ℕ) (xs : Text) → (x == 45) ≡ false → long_of (x ∷ xs) ≡ None
not_long x xs e = rw e refl

not_short : (x : ℕ) (xs : Text) → (x == 45) ≡ false → short_of (x ∷ xs) ≡ None
not_short x xs e = rw e refl

-- the word isn't `--`, and no option
record IsPlainWord (word : Text) : Type 0 where
  pub trailing : bytes_eq word (45 ∷ 45 ∷ []) ≡ false
  pub long : long_of word ≡ None
  pub short : short_of word ≡ None

plain : (x : ℕ) (xs : Text) → (x == 45) ≡ false → IsPlainWord (x ∷ xs)
plain x xs e = record { trailing = not_trailing x xs e; long = not_long x xs e; short = not_short x xs e }

met_plain : (c : List Rule) (names : Names) (id : Text) (p : ℕ) (word : Text) (h : Held) → IsPlainWord word
    → word_met c names false (option id) p word h ≡ plain_word c (option id) word h
met_plain c names id p word h is = rw (is.trailing, is.long, is.short) refl

no_fault : (s : Shape) (names : Names) (id word : Text) (h : Held) → IsPlainWord word
    → word_fault s names false (option id) word h ≡ []
no_fault s names id word h is = rw (is.trailing, is.long, is.short) refl

abbrev rules : List Rule
rules = (built pfplay).top.rules

abbrev names : Names
names = names_of (built pfplay)

-- where the words before a name lead
abbrev after_only : Walk
after_only = walked rules names (walk_from nothing_held) (codes "--only")

abbrev after_threads : Walk
after_threads = walked rules names (walk_from nothing_held) (codes "--threads")

abbrev after_both : Walk
after_both = walked rules names after_threads (codes "--only")

-- where a word leads from there, by what it is, and where `--threads` behind it does
abbrev after_word : Walk → Text → Held × Step → Walk
after_word before word met = after_step rules word before met.0 met.1

abbrev after_all : Text → Held × Step → Walk
after_all word met = walked rules names (after_word after_only word met) (codes "--threads")

-- what is kept of both options at the end
abbrev name_at : Walk → Option Text
name_at end = first_of (codes "only") (finished rules end.held)

abbrev threads_at : Walk → Bool
threads_at end = is_true (first_of (codes "threads") (finished rules end.held))

abbrev met_at : Walk → Text → Held × Step
met_at before word = word_met rules names false (option (codes "only")) 1 word before.held

is_met : (before : Walk) (x : ℕ) (xs : Text) → (x == 45) ≡ false
    → met_at before (x ∷ xs) ≡ plain_word rules (option (codes "only")) (x ∷ xs) before.held
is_met before x xs e = met_plain rules names (codes "only") 1 (x ∷ xs) before.held (plain x xs e)

is_right : (before : Walk) (x : ℕ) (xs : Text) → (x == 45) ≡ false
    → word_fault (built pfplay).top names false (option (codes "only")) (x ∷ xs) before.held ≡ []
is_right before x xs e = no_fault (built pfplay).top names (codes "only") (x ∷ xs) before.held (plain x xs e)

-- what is refused at the end of the words
abbrev faults_at : Walk → Kinds
faults_at end =
    let app = built pfplay in
    or_else (entered_fault app end.stopped) (or_else (settle_fault rules app.top.args_override_self end.held)
    (or_else (defaults_fault (settled rules end.held).rows rules)
    (check_fault app.top (finished rules end.held) (is_some (entered app end.stopped)))))

-- what is refused of a word, by what it is and by what is wrong with it
abbrev fault_by : Held × Step → Kinds → Kinds
fault_by met wrong = or_else wrong (step_fault (built pfplay).top 1 met.0 met.1)

-- what is refused of words that end with this one, and of those that end with `--threads` behind it
abbrev faults_by : Walk → Text → Held × Step → Kinds → Kinds
faults_by before word met wrong = or_else (or_else (fault_by met wrong) []) (faults_at (after_word before word met))

abbrev faults_by_all : Text → Held × Step → Kinds → Kinds
faults_by_all word met wrong =
    or_else (or_else (fault_by met wrong)
    (or_else (turn_fault (built pfplay).top names (after_word after_only word met) (codes "--threads")) []))
    (faults_at (after_all word met))

spaced_asks : (program xs : Text) (x : ℕ) → (x == 45) ≡ false
    → Asks (program ∷ codes "--only" ∷ (x ∷ xs) ∷ []) (Some (x ∷ xs)) false
unfolding clap_on_literals
spaced_asks program xs x e =
    let met = is_met after_only x xs e in (
      ap₂ (faults_by after_only (x ∷ xs)) met (is_right after_only x xs e),
      ap (λ m. name_at (after_word after_only (x ∷ xs) m)) met,
      ap (λ m. threads_at (after_word after_only (x ∷ xs) m)) met,
    )

threads_before : (program xs : Text) (x : ℕ) → (x == 45) ≡ false
    → Asks (program ∷ codes "--threads" ∷ codes "--only" ∷ (x ∷ xs) ∷ []) (Some (x ∷ xs)) true
unfolding clap_on_literals
threads_before program xs x e =
    let met = is_met after_both x xs e in (
      ap₂ (faults_by after_both (x ∷ xs)) met (is_right after_both x xs e),
      ap (λ m. name_at (after_word after_both (x ∷ xs) m)) met,
      ap (λ m. threads_at (after_word after_both (x ∷ xs) m)) met,
    )

threads_behind : (program xs : Text) (x : ℕ) → (x == 45) ≡ false
    → Asks (program ∷ codes "--only" ∷ (x ∷ xs) ∷ codes "--threads" ∷ []) (Some (x ∷ xs)) true
unfolding clap_on_literals
threads_behind program xs x e =
    let met = is_met after_only x xs e in (
      ap₂ (faults_by_all (x ∷ xs)) met (is_right after_only x xs e),
      ap (λ m. name_at (after_all (x ∷ xs) m)) met,
      ap (λ m. threads_at (after_all (x ∷ xs) m)) met,
    )

nothing_asked : (program : Text) → Asks (program ∷ []) None false
unfolding clap_on_literals
nothing_asked program = (refl, refl, refl)

threads_asked : (program : Text) → Asks (program ∷ codes "--threads" ∷ []) None true
unfolding clap_on_literals
threads_asked program = (refl, refl, refl)

bound_name : (program name : Text) → Asks (program ∷ (codes "--only=" ++ name) ∷ []) (Some name) false
unfolding clap_on_literals
bound_name program name = (refl, refl, refl)

bound_beside : (program name : Text)
    → Asks (program ∷ codes "--threads" ∷ (codes "--only=" ++ name) ∷ []) (Some name) true
unfolding clap_on_literals
bound_beside program name = (refl, refl, refl)

-- a name begins with no hyphen
no_hyphen : (x : ℕ) (xs : Text) → is_name (x ∷ xs) ≡ true → (x == 45) ≡ false
no_hyphen x xs e = grind (arith, nat_tests)

spaced : (program name : Text) → is_name name ≡ true → Asks (program ∷ codes "--only" ∷ name ∷ []) (Some name) false
    × Asks (program ∷ (codes "--only=" ++ name) ∷ []) (Some name) false
    × Asks (program ∷ codes "--threads" ∷ codes "--only" ∷ name ∷ []) (Some name) true
    × Asks (program ∷ codes "--threads" ∷ (codes "--only=" ++ name) ∷ []) (Some name) true
    × Asks (program ∷ codes "--only" ∷ name ∷ codes "--threads" ∷ []) (Some name) true
spaced program [] e = absurd (cc)
spaced program (x ∷ xs) e =
    let first = no_hyphen x xs e in (
      spaced_asks program xs x first,
      bound_name program (x ∷ xs),
      threads_before program xs x first,
      bound_beside program (x ∷ xs),
      threads_behind program xs x first,
    )

pub chooses_each_name : ChoosesEachName
chooses_each_name program = (nothing_asked program, threads_asked program, λ name e. spaced program name e)
