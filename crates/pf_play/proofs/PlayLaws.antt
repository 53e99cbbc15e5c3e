-- A script's lines in turn.

use Rattle.std.proofs.Common.{◌≡◌, ℕ, zero, suc, ◌+◌, ◌<◌, ◌≤◌, List, [], ◌∷◌, ◌++◌, length, map, take}
use Rattle.std.proofs.Common.{refl, ap, sym, ◌∙◌}
use Rattle.std.proofs.Common.{subst, arith}
use Rattle.std.specs.Prelude.{Option, Some, None, IfSome, slice_get}
use Rattle.std.proofs.lemmas.List.{map_push, length-map}
use Rattle.pf_base.specs.Limits.{Limits}
use Rattle.pf_base.specs.declared.admission.EventAnswer.{EventAnswer}
use Rattle.pf_machine.specs.Houses.{House, newcomer, steps_in, answers_in}
use Rattle.pf_machine.specs.Runs.{Run}
use Rattle.std.specs.Option.{option_map}
use Rattle.pf_machine.specs.Numbered.{sum_of}
use Rattle.pf_hub.specs.Opening.{new_hub, new_tenant}
use Rattle.pf_hub.specs.Tenants.{Tenant, guest_of, house_of}
use Rattle.pf_script.specs.Script.{Draft}
use Rattle.pf_script.specs.Sound.{AreGiven, IsGiven, given}
use Rattle.pf_script.specs.declared.line.Line.{Line}
use Rattle.pf_script.specs.declared.line.Line.TheVariants as lines
use Rattle.pf_play.specs.Houses.{IsHoused, said, said_of, events_of, first_house, limits_of_name}
use Rattle.pf_play.specs.Numbers.{IsNamed, IsSpread, Follows, numbers_from}
use Rattle.pf_play.specs.Played.{IsTold}
use Rattle.pf_play.proofs.NumberLaws.{spread_names, spread_first}
use Rattle.pf_play.proofs.ToldLaws.{Going, goes_on, begins, IsDue}

-- these lines have their answers, and those are left: the hub's house is by name what the answers say, and the names
-- so far have
-- their numbers
pub record Running (spaces : List (List ℕ × Limits)) (first : House) (done rest : List (ℕ × Line)) (numbers : List (Option ℕ))
    (hub : House) (answers : List EventAnswer) : Type 0 where
  pub house : House
  pub named : IsNamed numbers hub house
  pub going : Going (limits_of_name spaces) first (map (said spaces) done) answers house
  pub known : AreGiven (length numbers) rest (length spaces)

-- the next line
due : (spaces : List (List ℕ × Limits)) (h : House) (n : ℕ) (line : Line) → IsGiven (length h.guests) line n →
    IsDue (limits_of_name spaces) h (said_of (limits_of_name spaces n) n line)
due spaces h n (lines.Step step) known = tt
due spaces h n lines.Admit known = ap (limits_of_name spaces) known
due spaces h n lines.Retire known = tt

pub runs_on : (spaces : List (List ℕ × Limits)) (first : House) (done rest : List (ℕ × Line)) (e : ℕ × Line)
    (numbers numbers' : List (Option ℕ)) (hub hub' : House) (answers : List EventAnswer) (a : EventAnswer) →
    (running : Running spaces first done (e ∷ rest) numbers hub answers) →
    length numbers' ≡ given (length numbers) e.1 →
    Follows numbers' hub' running.house (said spaces e) a →
    Running spaces first (done ++ e ∷ []) rest numbers' hub' (answers ++ a ∷ [])
runs_on spaces first done rest e numbers numbers' hub hub' answers a running many follows =
    let names = spread_names 0 numbers hub.guests running.house.guests running.named.guests in
    let known : IsGiven (length running.house.guests) e.1 e.0 =
    subst (λ k. IsGiven k e.1 e.0) (sym names.0) running.known.0 in
    record {
      house = follows.0;
      named = follows.2;
      going =
          subst (λ es. Going (limits_of_name spaces) first es (answers ++ a ∷ []) follows.0)
          (sym (map_push (said spaces) done e))
          (goes_on (limits_of_name spaces) first running.house follows.0 (map (said spaces) done) answers (said spaces e) a
          running.going (due spaces running.house e.0 e.1 known) follows.1);
      known = subst (λ k. AreGiven k rest (length spaces)) (sym many) running.known.1;
    }

-- nothing yet
pub runs_first : (spaces : List (List ℕ × Limits)) (frames : ℕ) (ls : List Limits) (rest : List (ℕ × Line)) (numbers : List (Option ℕ))
    (hub : House) → ((n : ℕ) (l : Limits) → slice_get ls n ≡ Some l → l ≡ limits_of_name spaces n) →
    numbers ≡ numbers_from 0 (length ls) → AreGiven (length ls) rest (length spaces) →
    hub ≡ record { frames = frames; guests = map (λ l. Some (newcomer l)) ls } →
    Running spaces (record { frames = frames; guests = map (λ l. Some (newcomer l)) ls }) [] rest numbers hub []
runs_first spaces frames ls rest numbers hub are is known house =
    let first : House = record { frames = frames; guests = map (λ l. Some (newcomer l)) ls } in
    let long : length first.guests ≡ length ls = length-map ls (λ l. Some (newcomer l)) in
    record {
      house = first;
      named =
          subst (λ h. IsNamed numbers h first) (sym house)
          (record {
            frames = refl;
            guests = subst (λ ns. IsSpread 0 ns first.guests first.guests) (sym (is ∙ ap (numbers_from 0) (sym long)))
                (spread_first 0 first.guests);
          });
      going = begins (limits_of_name spaces) frames ls are;
      known = subst (λ k. AreGiven k rest (length spaces)) (sym (ap length is ∙ many 0 (length ls))) known;
    }
  where
    many : (i k : ℕ) → length (numbers_from i k) ≡ k
    many i zero = refl
    many i (suc k) = ap suc (many (i + 1) k)

-- the limits of those that are there from the start are their names'
pub first_limits : (spaces : List (List ℕ × Limits)) (k n : ℕ) (l : Limits) →
    slice_get (map (λ s. s.1) (take k spaces)) n ≡ Some l → l ≡ limits_of_name spaces n
first_limits [] zero n l is = absurd (cc)
first_limits [] (suc k) n l is = absurd (cc)
first_limits (s ∷ ss) zero n l is = absurd (cc)
first_limits (s ∷ ss) (suc k) zero l is = let same : s.1 ≡ l = cc in sym same
first_limits (s ∷ ss) (suc k) (suc n) l is = first_limits ss k n l is

name_limits : (spaces : List (List ℕ × Limits)) (n : ℕ) (space : List ℕ × Limits) → slice_get spaces n ≡ Some space →
    limits_of_name spaces n ≡ space.1
name_limits [] n space is = absurd (cc)
name_limits (s ∷ ss) zero space is = let same : s ≡ space = cc in ap (λ (x : List ℕ × Limits). x.1) same
name_limits (s ∷ ss) (suc n) space is = name_limits ss n space is

-- the same of a name's limits as a script tells them
pub told_limits : (spaces : List (List ℕ × Limits)) (n : ℕ) (l : Limits) →
    slice_get (map (λ s. s.1) spaces) n ≡ Some l →
    limits_of_name spaces n ≡ l
told_limits [] n l is = absurd (cc)
told_limits (s ∷ ss) zero l is = cc
told_limits (s ∷ ss) (suc n) l is = told_limits ss n l is

-- all of a script's lines
pub housed : (script : Draft) (numbers : List (Option ℕ)) (hub : House) (answers : List EventAnswer) →
    Running script.spaces (first_house script) script.steps [] numbers hub answers → IsHoused script answers
housed script numbers hub answers running = record {
  end = running.house;
  fall = running.going.fall;
  own = λ n. by n (slice_get script.spaces n) refl;
}
  where
    by : (n : ℕ) (r : Option (List ℕ × Limits)) → slice_get script.spaces n ≡ r →
        IfSome r (λ space. IsTold space.1 (steps_in (events_of script) answers) (answers_in (events_of script) answers) n)
    by n None is = tt
    by n (Some space) is =
        let own = running.going.own n in
        subst (λ c. IsTold c (steps_in (events_of script) answers) (answers_in (events_of script) answers) n)
        (name_limits script.spaces n space is)
        (sym (ap (λ (r : Run). r.replies) own.ran), own.needed)

-- what a line speaks of is given by then, and what it gives is among all names
given_last : (n : ℕ) (rest : List (ℕ × Line)) (m : ℕ) → AreGiven n rest m → n ≤ m
given_last n [] m known = omega (arith, known)
given_last n (e ∷ es) m known = by e.1 (given_last (given n e.1) es m known.1)
  where
    by : (line : Line) → given n line ≤ m → n ≤ m
    by (lines.Step step) low = low
    by lines.Admit low = omega (arith, low)
    by lines.Retire low = low

pub given_next : (n : ℕ) (e : ℕ × Line) (rest : List (ℕ × Line)) (m : ℕ) → AreGiven n (e ∷ rest) m →
    (e.0 < m) × (given n e.1 ≤ m)
given_next n e rest m known = by e.1 known.0 (given_last (given n e.1) rest m known.1)
  where
    by : (line : Line) → IsGiven n line e.0 → given n line ≤ m → (e.0 < m) × (given n line ≤ m)
    by (lines.Step step) place low = (omega (arith, place, low), low)
    by lines.Admit place low = (omega (arith, place, low), low)
    by lines.Retire place low = (omega (arith, place, low), low)

-- a name's limits
pub limits_there : (spaces : List (List ℕ × Limits)) (n : ℕ) → n < length spaces →
    slice_get (map (λ s. s.1) spaces) n ≡ Some (limits_of_name spaces n)
limits_there [] n low = absurd (omega arith)
limits_there (s ∷ ss) zero low = refl
limits_there (s ∷ ss) (suc n) low = limits_there ss n (omega (arith, low))

-- the house of a hub that was just opened
pub new_house : (ls : List Limits) (frames : ℕ) →
    house_of (new_hub ls frames) ≡ record { frames = frames; guests = map (λ l. Some (newcomer l)) ls }
new_house ls frames = λ i. record { frames = held ls i; guests = guests ls i }
  where
    none : (ls : List Limits) → sum_of (λ (t : Tenant). t.held) (map (λ l. Some (new_tenant l)) ls) ≡ 0
    none [] = refl
    none (l ∷ ls) = omega (arith, none ls)

    held : (ls : List Limits) → frames + sum_of (λ (t : Tenant). t.held) (map (λ l. Some (new_tenant l)) ls) ≡ frames
    held ls = omega (arith, none ls)

    guests : (ls : List Limits) →
        map (option_map guest_of) (map (λ l. Some (new_tenant l)) ls) ≡ map (λ l. Some (newcomer l)) ls
    guests [] = refl
    guests (l ∷ ls) = ap (λ gs. Some (newcomer l) ∷ gs) (guests ls)
