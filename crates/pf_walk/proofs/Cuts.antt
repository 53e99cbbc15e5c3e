-- The names behind references, their last one and those before it.
use Rattle.std.proofs.Common.{◌≡◌, ℕ, zero, suc, ◌-◌, List, [], ◌∷◌, ◌++◌, length, take, drop, ◌≤◌, refl, ap, ◌∙◌, arith, map}
use Rattle.std.specs.Borrow.{Bor}
use Rattle.std.specs.Prelude.{if◌then◌else◌, true, false, nat_eq}
use Rattle.pf_machine.specs.FileMap.{Name, Path, front}
use Rattle.pf_machine.specs.Paths.{Last, Named, Dot, DotDot, last_of, is_dot, is_dot_dot, ends_in_slash}
use Rattle.pf_tree.specs.Subtrees.{path_of}

pub path_of-map : (rs : List (Bor Name)) → path_of rs ≡ map (λ r. r.now) rs
path_of-map [] = refl
path_of-map (r ∷ rs) = ap (λ l. r.now ∷ l) (path_of-map rs)

pub path_of-append : (rs : List (Bor Name)) (r : Bor Name) → path_of (rs ++ r ∷ []) ≡ path_of rs ++ r.now ∷ []
path_of-append [] r = refl
path_of-append (x ∷ rs) r = ap (λ l. x.now ∷ l) (path_of-append rs r)

pub front-append : (p : Path) (n : Name) → front (p ++ n ∷ []) ≡ p
front-append [] n = refl
front-append (m ∷ []) n = refl
front-append (m ∷ k ∷ p) n = ap (λ l. m ∷ l) (front-append (k ∷ p) n)

pub no_items : {X : Type 0} (xs : List X) → length xs ≡ 0 → xs ≡ []
no_items [] e = refl
no_items (x ∷ xs) e = absurd (omega arith)

-- what the last name is
abbrev pub kind_of : Name → Last
kind_of n = if is_dot n then Dot else if is_dot_dot n then DotDot else Named n

pub kind_dot : (n : Name) → is_dot n ≡ true → kind_of n ≡ Dot
kind_dot n dot = ap (λ b. if b then Dot else (if is_dot_dot n then DotDot else Named n)) dot

pub kind_dot_dot : (n : Name) → is_dot n ≡ false → is_dot_dot n ≡ true → kind_of n ≡ DotDot
kind_dot_dot n dot dots = ap (λ b. if b then Dot else (if is_dot_dot n then DotDot else Named n)) dot ∙ ap (λ b. if b then DotDot else Named n) dots

pub kind_named : (n : Name) → is_dot n ≡ false → is_dot_dot n ≡ false → kind_of n ≡ Named n
kind_named n dot dots = ap (λ b. if b then Dot else (if is_dot_dot n then DotDot else Named n)) dot ∙ ap (λ b. if b then DotDot else Named n) dots

pub last-append : (p : Path) (n : Name) → last_of (p ++ n ∷ []) ≡ kind_of n
last-append [] n = refl
last-append (m ∷ []) n = refl
last-append (m ∷ k ∷ p) n = last-append (k ∷ p) n

pub front-take : (rs : List (Bor Name)) (k : ℕ) → k ≡ length rs - 1 → path_of (take k rs) ≡ front (path_of rs)
front-take [] zero e = refl
front-take [] (suc k) e = refl
front-take (r ∷ []) zero e = refl
front-take (r ∷ []) (suc k) e = absurd (omega arith)
front-take (r ∷ s ∷ rs) zero e = absurd (omega arith)
front-take (r ∷ s ∷ rs) (suc k) e = ap (λ l. r.now ∷ l) (front-take (s ∷ rs) k (omega arith))

pub ends-append : (xs : List ℕ) (x : ℕ) → ends_in_slash (xs ++ x ∷ []) ≡ nat_eq x 47
ends-append [] x = refl
ends-append (y ∷ []) x = refl
ends-append (y ∷ z ∷ xs) x = ends-append (z ∷ xs) x

pub path_past : (rs : List (Bor Name)) (i : ℕ) → length rs ≤ i → path_of (drop i rs) ≡ []
path_past [] zero le = refl
path_past [] (suc i) le = refl
path_past (r ∷ rs) zero le = absurd (omega arith)
path_past (r ∷ rs) (suc i) le = path_past rs i (omega arith)
