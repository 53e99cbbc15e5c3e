-- What the tables show of their rows.

use Rattle.std.proofs.Common.{◌≡◌, ℕ, zero, suc, ◌-◌, Bool, true, false, List, [], ◌∷◌, map, set, Option, Some, None}
use Rattle.std.proofs.Common.{nat_eq, refl, sym, ap, ◌∙◌, if◌then◌else◌, arith}
use Rattle.std.proofs.lemmas.Bool.{eqb-true}
use Rattle.std.proofs.lemmas.List.{set-get_or}
use Rattle.pf_tables.proofs.Common.{put_at, change_at, option_map, at, State, process, find, map-set, eq-eqb, at-map}
use Rattle.pf_machine.specs.State.{Process}
use Rattle.pf_fds.specs.Registry.{if_placed}

pub from_map : {X Y : Type 0} (f : X → Y) (o : Option X) (y : Y) → option_map f o ≡ Some y
    → (x : X) × (o ≡ Some x) × (f x ≡ y)
from_map f None y h = absurd (cc)
from_map f (Some x) y h = (x, refl, cc)

-- what is mapped to itself
pub each-same : {X : Type 0} (f : X → X) → ((x : X) → f x ≡ x) → (xs : List (Option X)) → map (option_map f) xs ≡ xs
each-same f same [] = refl
each-same f same (None ∷ xs) = ap (λ ys. None ∷ ys) (each-same f same xs)
each-same f same (Some x ∷ xs) = λ i. Some (same x i) ∷ each-same f same xs i

-- what is shown at a number stands there
pub was : {X Y : Type 0} (f : X → Y) (xs : List (Option X)) (k : ℕ) (y : Y) → at (map (option_map f) xs) k ≡ Some y
    → (x : X) × (at xs k ≡ Some x) × (f x ≡ y)
was f xs k y h = from_map f (at xs k) y (sym (at-map f xs k) ∙ h)

pub shown : {X Y : Type 0} (f : X → Y) (xs : List (Option X)) (k : ℕ) (x : X) → at xs k ≡ Some x
    → at (map (option_map f) xs) k ≡ Some (f x)
shown f xs k x h = at-map f xs k ∙ ap (option_map f) h

-- a value stands at a number exactly where its key finds it
pub find_at : {T : Type 0} (xs : List (Option (ℕ × T))) (place n : ℕ) (x : T) → at xs n ≡ Some (place, x)
    → find xs place n ≡ Some x
find_at xs place n x h = ap (if_placed place) h ∙ ap (λ b. if b then Some x else None) (eq-eqb place place refl)

placed_was : {T : Type 0} (place : ℕ) (o : Option (ℕ × T)) (x : T) → if_placed place o ≡ Some x → o ≡ Some (place, x)
placed_was place None x h = absurd (cc)
placed_was place (Some e) x h = by_test (nat_eq e.0 place) refl h
  where
    by_test : (b : Bool) → nat_eq e.0 place ≡ b → (if b then Some e.1 else None) ≡ Some x → Some e ≡ Some (place, x)
    by_test true is h = let value : e.1 ≡ x = cc in λ i. Some (eqb-true e.0 place is i, value i)
    by_test false is h = absurd (cc)

pub find_was : {T : Type 0} (xs : List (Option (ℕ × T))) (place n : ℕ) (x : T) → find xs place n ≡ Some x
    → at xs n ≡ Some (place, x)
find_was xs place n x h = placed_was place (at xs n) x h

-- a list set to what stands there
pub set_same : {X : Type 0} (xs : List (Option X)) (i : ℕ) (y : Option X) → y ≡ at xs i → set xs i y ≡ xs
set_same xs i y e = ap (set xs i) e ∙ set-get_or xs i None

-- what is put in the place of what stood there is shown as that was
pub shown_same : {X Y : Type 0} (f : X → Y) (xs : List (Option X)) (n : ℕ) (x y : X) → at xs n ≡ Some x → f y ≡ f x
    → map (option_map f) (put_at xs n y) ≡ map (option_map f) xs
shown_same f xs n x y h same =
    map-set (option_map f) xs n (Some y)
    ∙ set_same (map (option_map f) xs) n (Some (f y)) (ap Some same ∙ sym (shown f xs n x h))

-- or as a change of what that was
pub shown_change : {X Y : Type 0} (f : X → Y) (g : Y → Y) (xs : List (Option X)) (n : ℕ) (x y : X) → at xs n ≡ Some x
    → f y ≡ g (f x) → map (option_map f) (put_at xs n y) ≡ change_at g (map (option_map f) xs) n
shown_change f g xs n x y h same =
    map-set (option_map f) xs n (Some y)
    ∙ ap (set (map (option_map f) xs) n) (ap Some same ∙ sym (ap (option_map g) (shown f xs n x h)))

-- who has a pid is in the place before it
pub place_in : {X : Type 0} (s : State X ℕ) (pid : ℕ) {p : Process ℕ} → process s pid ≡ Some p
    → at s.processes (pid - 1) ≡ Some p
place_in s zero h = absurd (cc)
place_in s (suc i) h = let same : suc i - 1 ≡ i = omega arith in ap (at s.processes) same ∙ h
