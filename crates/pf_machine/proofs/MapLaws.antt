-- How maps go through what stands by number, and through refusals.

use Rattle.std.proofs.Common.{◌≡◌, ◌≢◌, arith, set, ℕ, zero, suc, Bool, true, false, List, ◌∷◌, Option, Some, None, Result, Ok, Err, refl, ap, cond, []}
use Rattle.std.specs.Option.{option_map}
use Rattle.pf_machine.specs.Refusals.{◌>>=◌, ◌>>◌, or_refuse}
use Rattle.pf_machine.specs.Numbered.{at, change_at, keep_from}
use Rattle.pf_base.specs.declared.errno.Errno.{Errno}
use Rattle.pf_machine.proofs.NumberedLaws.{first_free-map}
use Rattle.pf_machine.specs.State.{vacant}
use Rattle.pf_machine.specs.Opens.{first_where}
use Rattle.pf_machine.specs.Pipes.{second_free}
use Rattle.pf_machine.specs.Maps.{if_ok, each}

-- By number

module _ {X Y : Type 0} (f : X → Y) where
  pub change_at-map : (h : X → X) (k : Y → Y) → ((x : X) → f (h x) ≡ k (f x)) → (xs : List (Option X)) (n : ℕ)
      → each f (change_at h xs n) ≡ change_at k (each f xs) n
  change_at-map h k same [] n = refl
  change_at-map h k same (None ∷ xs) zero = refl
  change_at-map h k same (Some x ∷ xs) zero = ap (λ y. Some y ∷ each f xs) (same x)
  change_at-map h k same (x ∷ xs) (suc n) = ap (λ ys. option_map f x ∷ ys) (change_at-map h k same xs n)

  pub keep_from-map : (test : ℕ → Bool) (n : ℕ) (xs : List (Option X))
      → keep_from test n (each f xs) ≡ each f (keep_from test n xs)
  keep_from-map test n [] = refl
  keep_from-map test n (x ∷ xs) = λ i. kept (test n) i ∷ keep_from-map test (suc n) xs i
    where
      kept : (b : Bool) → cond b (option_map f x) None ≡ option_map f (cond b x None)
      kept true = refl
      kept false = refl

  pub vacant-map : (n : ℕ) → each f (vacant n) ≡ vacant n
  unfolding vacant
  vacant-map zero = refl
  vacant-map (suc n) = ap (λ xs. None ∷ xs) (vacant-map n)

  pub second_free-map : (xs : List (Option X)) → second_free (each f xs) ≡ second_free xs
  second_free-map [] = refl
  second_free-map (None ∷ xs) = ap suc (first_free-map f xs)
  second_free-map (Some x ∷ xs) = ap suc (second_free-map xs)

  pub first_where-map : (test : Y → Bool) (xs : List (Option X))
      → first_where test (each f xs) ≡ first_where (λ x. test (f x)) xs
  first_where-map test [] = refl
  first_where-map test (None ∷ xs) = ap (option_map (λ m. suc m)) (first_where-map test xs)
  first_where-map test (Some x ∷ xs) =
      ap (λ o. cond (test (f x)) (Some 0) (option_map (λ m. suc m) o)) (first_where-map test xs)

-- Two maps that agree on what stands, but at one number

module _ {X Y : Type 0} (f g : X → Y) where
  pub all-agree : (xs : List (Option X)) → ((k : ℕ) → option_map g (at xs k) ≡ option_map f (at xs k))
      → each g xs ≡ each f xs
  all-agree [] same = refl
  all-agree (x ∷ xs) same = λ i. same 0 i ∷ all-agree xs (λ k. same (suc k)) i

  pub set-agree : (xs : List (Option X)) (n : ℕ) (x : Option X)
      → ((k : ℕ) → k ≢ n → option_map g (at xs k) ≡ option_map f (at xs k))
      → each g (set xs n x) ≡ set (each f xs) n (option_map g x)
  set-agree [] n x same = refl
  set-agree (y ∷ xs) zero x same =
      ap (λ ys. option_map g x ∷ ys) (all-agree xs (λ k. same (suc k) (λ (e : suc k ≡ 0). omega arith)))
  set-agree (y ∷ xs) (suc n) x same = λ i. same 0 (λ (e : 0 ≡ suc n). omega arith) i
      ∷ set-agree xs n x (λ k apart. same (suc k) (λ (e : suc k ≡ suc n). apart (omega arith))) i

-- Refusals

module _ {A B : Type 0} (h : A → B) where
  pub or_refuse-as : (e : Errno) (o : Option A) → or_refuse e (option_map h o) ≡ if_ok h (or_refuse e o)
  or_refuse-as e None = refl
  or_refuse-as e (Some a) = refl

  pub then-as : (r : Result (Unit {0}) Errno) (a : Result A Errno) (b : Result B Errno)
      → b ≡ if_ok h a → (r >> b) ≡ if_ok h (r >> a)
  then-as (Ok u) a b same = same
  then-as (Err e) a b same = refl

-- a part that goes on from a value
module _ {A B C D : Type 0} (h : A → B) (j : C → D) where
  pub bind-as : (r : Result A Errno) (k : A → Result C Errno) (m : B → Result D Errno)
      → ((a : A) → m (h a) ≡ if_ok j (k a)) → (if_ok h r >>= m) ≡ if_ok j (r >>= k)
  bind-as (Ok a) k m same = same a
  bind-as (Err e) k m same = refl

-- where the value is the same on both sides
pub bind-same : {A C D : Type 0} (j : C → D) (r : Result A Errno) (k : A → Result C Errno) (m : A → Result D Errno)
    → ((a : A) → m a ≡ if_ok j (k a)) → (r >>= m) ≡ if_ok j (r >>= k)
bind-same j (Ok a) k m same = same a
bind-same j (Err e) k m same = refl
