-- The lines of one name in turn, in a hub of its own.

use Rattle.std.proofs.Common.{◌≡◌, ℕ, zero, suc, ◌<◌, ◌≤◌, Bool, true, false, List, [], ◌∷◌, ◌++◌, length, map}
use Rattle.std.proofs.Common.{refl, ap, sym, ◌∙◌, subst, arith, append-nil, take}
use Rattle.std.specs.Prelude.{◌≢◌, Option, Some, nat_eq, nat_lt, slice_get, if◌then◌else◌}
use Rattle.std.specs.Option.{option_to_list}
use Rattle.std.proofs.lemmas.List.{length-map, length-take, map_push}
use Rattle.std.proofs.lemmas.Bool.{eq-eqb, ne_eqb}
use Rattle.pf_base.specs.Limits.{Limits}
use Rattle.pf_base.specs.declared.admission.EventAnswer.{EventAnswer}
use Rattle.pf_hub.specs.Opening.{new_hub}
use Rattle.pf_hub.specs.Tenants.{house_of}
use Rattle.pf_machine.specs.Houses.{House}
use Rattle.pf_script.specs.Places.{lines_of}
use Rattle.pf_script.specs.Script.{Draft}
use Rattle.pf_script.specs.Sound.{AreGiven, given}
use Rattle.pf_script.specs.declared.line.Line.{Line}
use Rattle.pf_play.specs.Houses.{alone, first_house, limits_of_name, lone_limits, said}
use Rattle.pf_play.specs.Numbers.{Follows, numbers_from}
use Rattle.pf_play.proofs.PlayLaws.{Running, runs_first, runs_on, first_limits, new_house}
use Rattle.pf_play.proofs.StayLaws.{known_alone}
use Rattle.pf_play.proofs.ToldLaws.{fall_many}

-- lines of the one name that there is
abbrev pub as_first : List Line → List (ℕ × Line)
as_first ls = map (λ line. (0, line)) ls

-- these lines of a script were read, and of them the name's were run
abbrev pub RunningAlone : Draft → ℕ → List (ℕ × Line) → List (ℕ × Line) → List (Option ℕ) → House → List EventAnswer →
    Type 0
RunningAlone script n done rest numbers hub answers =
    Running (alone script n).spaces (first_house (alone script n)) (as_first (lines_of done n)) (as_first (lines_of rest n))
    numbers hub answers

more_lines : (done : List (ℕ × Line)) (e : ℕ × Line) (n : ℕ) →
    lines_of (done ++ e ∷ []) n ≡ lines_of done n ++ (if nat_eq e.0 n then e.1 ∷ [] else [])
more_lines [] e n = refl
more_lines (d ∷ ds) e n =
    let more = more_lines ds e n in
    elim (nat_eq d.0 n) as
    (λ b. (if b then d.1 ∷ lines_of (ds ++ e ∷ []) n else lines_of (ds ++ e ∷ []) n)
    ≡ (if b then d.1 ∷ lines_of ds n else lines_of ds n) ++ (if nat_eq e.0 n then e.1 ∷ [] else [])) [
      | true ↦ ap (λ (r : List Line). d.1 ∷ r) more
      | false ↦ more
    ]

abbrev first : Line → ℕ × Line
first line = (0, line)

module _ (script : Draft) (n : ℕ) (done rest : List (ℕ × Line)) (e : ℕ × Line) (numbers : List (Option ℕ)) (hub : House)
    (answers : List EventAnswer) where
  -- the next line is the name's
  pub alone_next : e.0 ≡ n → RunningAlone script n done (e ∷ rest) numbers hub answers →
      Running (alone script n).spaces (first_house (alone script n)) (as_first (lines_of done n))
      ((0, e.1) ∷ as_first (lines_of rest n)) numbers hub answers
  alone_next own running =
      subst (λ (b : Bool). Running (alone script n).spaces (first_house (alone script n)) (as_first (lines_of done n))
      (as_first (if b then e.1 ∷ lines_of rest n else lines_of rest n)) numbers hub answers) (eq-eqb e.0 n own) running

  -- it is run
  pub alone_on : (numbers' : List (Option ℕ)) (hub' : House) (a : EventAnswer) → e.0 ≡ n →
      (running : Running (alone script n).spaces (first_house (alone script n)) (as_first (lines_of done n))
      ((0, e.1) ∷ as_first (lines_of rest n)) numbers hub answers) →
      length numbers' ≡ given (length numbers) e.1 →
      Follows numbers' hub' running.house (said (alone script n).spaces (0, e.1)) a →
      RunningAlone script n (done ++ e ∷ []) rest numbers' hub' (answers ++ a ∷ [])
  alone_on numbers' hub' a own running many follows =
      let lines : lines_of (done ++ e ∷ []) n ≡ lines_of done n ++ e.1 ∷ [] =
      more_lines done e n ∙ ap (λ (b : Bool). lines_of done n ++ (if b then e.1 ∷ [] else [])) (eq-eqb e.0 n own) in
      let same : as_first (lines_of (done ++ e ∷ []) n) ≡ as_first (lines_of done n) ++ (0, e.1) ∷ [] =
      ap (λ (ls : List Line). as_first ls) lines ∙ map_push first (lines_of done n) e.1 in
      subst (λ (es : List (ℕ × Line)). Running (alone script n).spaces (first_house (alone script n)) es
      (as_first (lines_of rest n)) numbers' hub' (answers ++ a ∷ [])) (sym same)
      (runs_on (alone script n).spaces (first_house (alone script n)) (as_first (lines_of done n))
      (as_first (lines_of rest n)) (0, e.1) numbers numbers' hub hub' answers a running many follows)

  -- it is another's
  pub alone_by : e.0 ≢ n → RunningAlone script n done (e ∷ rest) numbers hub answers →
      RunningAlone script n (done ++ e ∷ []) rest numbers hub answers
  alone_by other running =
      let lines : lines_of (done ++ e ∷ []) n ≡ lines_of done n =
      more_lines done e n ∙ ap (λ (b : Bool). lines_of done n ++ (if b then e.1 ∷ [] else [])) (ne_eqb e.0 n other)
      ∙ append-nil (lines_of done n) in
      subst (λ (ls : List Line). Running (alone script n).spaces (first_house (alone script n)) (as_first ls)
      (as_first (lines_of rest n)) numbers hub answers) (sym lines)
      (subst (λ (b : Bool). Running (alone script n).spaces (first_house (alone script n)) (as_first (lines_of done n))
      (as_first (if b then e.1 ∷ lines_of rest n else lines_of rest n)) numbers hub answers) (ne_eqb e.0 n other) running)

-- The name's space

space_there : (spaces : List (List ℕ × Limits)) (n : ℕ) → n < length spaces →
    (s : List ℕ × Limits) × (slice_get spaces n ≡ Some s)
space_there [] n low = absurd (omega (arith, low))
space_there (s ∷ ss) zero low = (s, refl)
space_there (s ∷ ss) (suc n) low = space_there ss n (omega (arith, low))

-- its limits, alone and among the others
pub alone_limits : (spaces : List (List ℕ × Limits)) (n : ℕ) → n < length spaces →
    slice_get (map (λ s. s.1) spaces) n ≡ Some (limits_of_name (option_to_list (slice_get spaces n)) 0)
alone_limits [] n low = absurd (omega (arith, low))
alone_limits (s ∷ ss) zero low = refl
alone_limits (s ∷ ss) (suc n) low = alone_limits ss n (omega (arith, low))

one_taken : (b : Bool) (spaces : List (List ℕ × Limits)) (n : ℕ) (l : Limits) →
    slice_get (map (λ s. s.1) spaces) n ≡ Some l →
    map (λ s. s.1) (take (if b then 1 else 0) (option_to_list (slice_get spaces n))) ≡ (if b then l ∷ [] else [])
one_taken b [] n l is = absurd (cc)
one_taken true (s ∷ ss) zero l is = let same : s.1 ≡ l = cc in ap (λ (x : Limits). x ∷ []) same
one_taken false (s ∷ ss) zero l is = refl
one_taken b (s ∷ ss) (suc n) l is = one_taken b ss n l is

-- they are its own where it is there from the start
pub lone_start : (script : Draft) (n : ℕ) (l : Limits) → slice_get (map (λ s. s.1) script.spaces) n ≡ Some l →
    lone_limits script n ≡ (if nat_lt n script.opening then l ∷ [] else [])
lone_start script n l is = one_taken (nat_lt n script.opening) script.spaces n l is

-- there is one name
pub alone_one : (script : Draft) (n : ℕ) → n < length script.spaces → length (alone script n).spaces ≡ 1
alone_one script n low =
    let there = space_there script.spaces n low in
    ap (λ (o : Option (List ℕ × Limits)). length (option_to_list o)) there.1

-- so its hub opens with no more than one
pub lone_few : (script : Draft) (n : ℕ) → n < length script.spaces → length (lone_limits script n) ≤ 1
lone_few script n low =
    let front = take (alone script n).opening (alone script n).spaces in
    omega (
      arith,
      length-map front (λ (s : List ℕ × Limits). s.1),
      length-take (alone script n).opening (alone script n).spaces,
      alone_one script n low,
    )

-- nothing yet
pub alone_first : (script : Draft) (n : ℕ) (ls : List Limits) (numbers : List (Option ℕ)) (hub : House) →
    n < length script.spaces → AreGiven script.opening script.steps (length script.spaces) → ls ≡ lone_limits script n →
    numbers ≡ numbers_from 0 (length ls) → hub ≡ house_of (new_hub ls script.frames) →
    RunningAlone script n [] script.steps numbers hub []
alone_first script n ls numbers hub low known is numbered house =
    let there = space_there script.spaces n low in
    let own : (alone script n).spaces ≡ there.0 ∷ [] = ap option_to_list there.1 in
    let one : length (alone script n).spaces ≡ 1 = ap (λ (ss : List (List ℕ × Limits)). length ss) own in
    let many : length (lone_limits script n) ≡ (if nat_lt n script.opening then 1 else 0) =
    ap (λ (ss : List (List ℕ × Limits)). length (map (λ s. s.1) (take (alone script n).opening ss))) own
    ∙ taken (nat_lt n script.opening) there.0 in
    let opens : AreGiven (length (lone_limits script n)) (as_first (lines_of script.steps n)) (length (alone script n).spaces) =
    subst (λ k. AreGiven k (as_first (lines_of script.steps n)) (length (alone script n).spaces)) (sym many)
    (subst (λ m. AreGiven (if nat_lt n script.opening then 1 else 0) (as_first (lines_of script.steps n)) m) (sym one)
    (known_alone n script.opening (length script.spaces) script.steps known low)) in
    runs_first (alone script n).spaces script.frames (lone_limits script n) (as_first (lines_of script.steps n)) numbers hub
    (first_limits (alone script n).spaces (alone script n).opening)
    (numbered ∙ ap (λ (xs : List Limits). numbers_from 0 (length xs)) is) opens
    (house ∙ ap (λ (xs : List Limits). house_of (new_hub xs script.frames)) is
    ∙ new_house (lone_limits script n) script.frames)
  where
    taken : (b : Bool) (s : List ℕ × Limits) →
        length (map (λ s. s.1) (take (if b then 1 else 0) (s ∷ []))) ≡ (if b then 1 else 0)
    taken true s = refl
    taken false s = refl

-- as many answers as lines of the name were read
pub alone_many : (script : Draft) (n : ℕ) (done rest : List (ℕ × Line)) (numbers : List (Option ℕ)) (hub : House)
    (answers : List EventAnswer) → RunningAlone script n done rest numbers hub answers →
    length answers ≡ length (lines_of done n)
alone_many script n done rest numbers hub answers running =
    let own = alone script n in
    let lines = as_first (lines_of done n) in
    fall_many (first_house own) running.house (map (said own.spaces) lines) answers running.going.fall
    ∙ length-map lines (said own.spaces) ∙ length-map (lines_of done n) (λ line. (0, line))
