-- Laws of the loans of all namespaces.

use Rattle.std.proofs.Common.{◌≡◌, ℕ, zero, suc, ◌+◌, ◌-◌, ◌<◌, ◌≤◌, List, ◌∷◌, length, map, slice_index, get_or, refl, arith, ap, sym, ◌∙◌, subst, []}
use Rattle.std.specs.List.{sum_by}
use Rattle.std.proofs.lemmas.List.Sums.{sum_by-cons}
use Rattle.pf_frame.specs.Live.{Live, IsSound, IsIdle}
use Rattle.pf_depot.specs.declared.loans.Loans.{Loans}
use Rattle.pf_depot.specs.AllLoans.{held_of, reserved_of, shares_of, live_at, AreIdle}
use Rattle.pf_depot.specs.Loans.{loans_live}
use Rattle.pf_depot.specs.Lent.{loans_sound}

-- with no slot, no frame is held
unnamed_idle : (f : Live) → IsSound f → f.shares ≡ 0 → IsIdle f.reserved f
unnamed_idle f s e = record {
  reserved = refl;
  held = omega (arith, s.spread);
  shares = e;
  counts = λ q. omega (arith, s.most q);
}

-- loans that hold no frame are all vacant
pub unheld_idle : (l : Loans) → held_of l ≡ 0 → IsIdle (reserved_of l) (loans_live l)
unheld_idle l e = unnamed_idle (loans_live l) (loans_sound l) ((loans_sound l).none e)

unnamed_none : (ls : List Loans) → sum_by shares_of ls ≡ 0 → sum_by held_of ls ≡ 0
unnamed_none [] e = refl
unnamed_none (l ∷ ls) e = omega (arith, sum_by-cons shares_of l ls, sum_by-cons held_of l ls, (loans_sound l).spread, unnamed_none ls (omega (arith, sum_by-cons shares_of l ls)))

unnamed_at : (ls : List Loans) (ns : ℕ) → sum_by shares_of ls ≡ 0 → IsIdle (slice_index (map reserved_of ls) ns) (live_at ls ns)
unnamed_at [] ns e = record { reserved = refl; held = refl; shares = refl; counts = λ q. refl }
unnamed_at (l ∷ ls) zero e = unnamed_idle (loans_live l) (loans_sound l) (omega (arith, sum_by-cons shares_of l ls))
unnamed_at (l ∷ ls) (suc ns) e = unnamed_at ls ns (omega (arith, sum_by-cons shares_of l ls))

pub unnamed : (ls : List Loans) (reserves : List ℕ) → map reserved_of ls ≡ reserves → sum_by shares_of ls ≡ 0 → AreIdle ls reserves
unnamed ls reserves r e = record {
  reserved = r;
  none = unnamed_none ls e;
  idle = λ ns. subst (λ (rs : List ℕ). IsIdle (slice_index rs ns) (live_at ls ns)) r (unnamed_at ls ns e);
}

-- The loans of a number

pub held_at : (ls : List Loans) (ns : ℕ) → (live_at ls ns).held ≡ slice_index (map held_of ls) ns
held_at [] ns = refl
held_at (l ∷ ls) zero = refl
held_at (l ∷ ls) (suc ns) = held_at ls ns

pub live_is : (ls : List Loans) (ns : ℕ) (d : Loans) → ns < length ls → live_at ls ns ≡ loans_live (get_or ls ns d)
live_is [] ns d less = absurd (omega arith)
live_is (l ∷ ls) zero d less = refl
live_is (l ∷ ls) (suc ns) d less = live_is ls ns d (omega arith)

pub held_is : (ls : List Loans) (ns : ℕ) (l : Loans) → ns < length ls → l ≡ get_or ls ns l → held_of l ≡ (live_at ls ns).held
held_is ls ns l less at = ap held_of at ∙ ap (λ (f : Live). f.held) (sym (live_is ls ns l less))

-- Those of one number are others

-- Together

-- who holds no more than is reserved leaves the others' credits
held_within : (ls : List Loans) → sum_by held_of ls ≤ sum_by reserved_of ls
held_within [] = omega arith
held_within (l ∷ ls) = omega (arith, sum_by-cons held_of l ls, sum_by-cons reserved_of l ls, held_within ls, (loans_sound l).credit)

credits_of : (ls : List Loans) (ns : ℕ) (d : Loans) → ns < length ls → reserved_of (get_or ls ns d) + sum_by held_of ls ≤ sum_by reserved_of ls + held_of (get_or ls ns d)
credits_of [] ns d less = absurd (omega arith)
credits_of (l ∷ ls) zero d less = omega (arith, sum_by-cons held_of l ls, sum_by-cons reserved_of l ls, held_within ls)
credits_of (l ∷ ls) (suc ns) d less = omega (arith, sum_by-cons held_of l ls, sum_by-cons reserved_of l ls, credits_of ls ns d (omega arith), (loans_sound l).credit)
