-- The least power of two of pages that holds some bytes: what `pages_for` finds.

use Rattle.std.proofs.Common.{◌≡◌, ℕ, zero, suc, ◌+◌, ◌*◌, ◌/◌, ◌^◌, ◌<◌, ◌≤◌, Bool, true, false, refl, sym, subst, inl, inr, ⊎_elim, arith}
use Rattle.std.proofs.Math.Nat.{pow-succ'}
use Rattle.std.proofs.Math.Pow.{pow_mono}
use Rattle.std.proofs.lemmas.Bool.{leb-true, leb-false, cases_lt}
use Rattle.std.proofs.lemmas.Nat.{pow_pos}
use Rattle.std.specs.Int.{div_ceil}
use Rattle.std.specs.Prelude.{nat_le, max, if◌then◌else◌}
use Rattle.pf_base.specs.Capacities.{IsLeastPower, pages_from, pages_for}
use Rattle.pf_base.specs.declared.TheConstants.{PAGE_SIZE}

-- half so many pages, which are a power of two above 1, are too few
abbrev pub HalfFails : ℕ → ℕ → Type 0
HalfFails bytes zero = Unit {0}
HalfFails bytes (suc k) = PAGE_SIZE * 2 ^ k < bytes

double : (k : ℕ) → 2 ^ suc k ≡ 2 * 2 ^ k
double k = pow-succ' 2 k

pub least_power : (bytes k : ℕ) → bytes ≤ PAGE_SIZE * 2 ^ k → HalfFails bytes k → IsLeastPower bytes (2 ^ k)
least_power bytes zero holds fails = record {
  power = (zero, refl);
  holds = holds;
  least = λ j enough. omega (arith, pow_pos j);
  half = inl refl;
}
least_power bytes (suc k) holds fails = record {
  power = (suc k, refl);
  holds = holds;
  least = λ j enough. ⊎_elim
      (λ less. let below : 2 ^ j ≤ 2 ^ k = pow_mono {i = j} {j = k} (omega (arith, less)) in absurd (omega (arith, below, enough, fails)))
      (λ more. pow_mono {i = suc k} {j = j} more)
      (cases_lt j (suc k));
  half = let halved : 2 ^ suc k / 2 ≡ 2 ^ k = omega (arith, double k) in inr (omega (arith, halved, fails));
}

-- no two numbers are the least
pub same_least : (bytes p q : ℕ) → IsLeastPower bytes p → IsLeastPower bytes q → p ≡ q
same_least bytes p q a b =
    omega (
      arith,
      a.power.1,
      b.power.1,
      a.least b.power.0 (subst (λ (n : ℕ). bytes ≤ PAGE_SIZE * n) b.power.1 b.holds),
      b.least a.power.0 (subst (λ (n : ℕ). bytes ≤ PAGE_SIZE * n) a.power.1 a.holds),
    )

pages_from-least : (more k bytes : ℕ) → bytes ≤ PAGE_SIZE * 2 ^ (k + more) → HalfFails bytes k → IsLeastPower bytes (pages_from more (2 ^ k) bytes)
pages_from-least zero k bytes holds fails = least_power bytes k (subst (λ (n : ℕ). bytes ≤ PAGE_SIZE * 2 ^ n) (omega arith) holds) fails
pages_from-least (suc more) k bytes holds fails =
    by_test (nat_le bytes (PAGE_SIZE * 2 ^ k)) refl
    (λ more_fail. subst (λ (n : ℕ). IsLeastPower bytes (pages_from more n bytes)) (double k) (pages_from-least more (suc k) bytes (subst (λ (n : ℕ). bytes ≤ PAGE_SIZE * 2 ^ n) (omega arith) holds) more_fail))
  where
    by_test : (b : Bool) → nat_le bytes (PAGE_SIZE * 2 ^ k) ≡ b → (PAGE_SIZE * 2 ^ k < bytes → IsLeastPower bytes (pages_from more (2 * 2 ^ k) bytes)) → IsLeastPower bytes (if b then 2 ^ k else pages_from more (2 * 2 ^ k) bytes)
    by_test true e later = least_power bytes k (leb-true _ _ e) fails
    by_test false e later = later (leb-false _ _ e)

pub pages_for-least : (bytes : ℕ) → bytes < 2 ^ 64 → IsLeastPower bytes (pages_for bytes)
unfolding pages_for
pages_for-least bytes below = pages_from-least 52 0 bytes (omega (arith, below)) tt

-- the next power of two of the pages that the bytes fill is the least that holds them
pub next_power-least : (bytes p : ℕ) → (k : ℕ) × (p ≡ 2 ^ k) → div_ceil bytes PAGE_SIZE ≤ p → p / 2 < max 1 (div_ceil bytes PAGE_SIZE) → IsLeastPower bytes p
next_power-least bytes p power lower upper = subst (IsLeastPower bytes) (sym power.1) (by_power power.0 power.1)
  where
    by_power : (k : ℕ) → p ≡ 2 ^ k → IsLeastPower bytes (2 ^ k)
    by_power zero e = least_power bytes zero (omega (arith, e, lower)) tt
    by_power (suc k) e = least_power bytes (suc k) (omega (arith, e, lower)) (omega (arith, e, upper, double k, pow_pos k))
