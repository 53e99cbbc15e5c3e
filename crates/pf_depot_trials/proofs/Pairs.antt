-- The loans of two namespaces.

use Rattle.std.proofs.Common.{◌≡◌, ℕ, List, [], ◌∷◌, ◌+◌, ◌++◌, ◌∙◌, length, arith, ap, subst, length-append}
use Rattle.std.proofs.lemmas.List.{length-map}
use Rattle.pf_frame.specs.Live.{IsIdle}
use Rattle.pf_depot.specs.declared.loans.Loans.{Loans}
use Rattle.pf_depot.specs.AllLoans.{reserved_of, live_at, AreIdle}
use Rattle.pf_depot.specs.Loans.{loans_live}

pub two_long : (ls : List Loans) (reserve : ℕ) → AreIdle ls (reserve ∷ reserve ∷ []) → length ls ≡ 2
two_long ls reserve h = omega (arith, length-map ls reserved_of, ap (λ (rs : List ℕ). length rs) h.reserved)

two_only : (ls below rest : List Loans) (a b : Loans) (reserve : ℕ) → ls ≡ below ++ b ∷ [] → below ≡ rest ++ a ∷ [] → AreIdle ls (reserve ∷ reserve ∷ []) → ls ≡ a ∷ b ∷ []
two_only ls below [] a b reserve e f h = e ∙ ap (λ (xs : List Loans). xs ++ b ∷ []) f
two_only ls below (x ∷ rest) a b reserve e f h =
    let long : length ls ≡ length below + 1 = ap (λ (xs : List Loans). length xs) e ∙ length-append below (b ∷ []) in
    let more : length below ≡ length (x ∷ rest) + 1 = ap (λ (xs : List Loans). length xs) f ∙ length-append (x ∷ rest) (a ∷ []) in
    absurd (omega (arith, two_long ls reserve h))

pub first_idle : (ls below rest : List Loans) (a b : Loans) (reserve : ℕ) → ls ≡ below ++ b ∷ [] → below ≡ rest ++ a ∷ [] → AreIdle ls (reserve ∷ reserve ∷ []) → IsIdle reserve (loans_live a)
first_idle ls below rest a b reserve e f h = subst (λ (xs : List Loans). IsIdle reserve (live_at xs 0)) (two_only ls below rest a b reserve e f h) (h.idle 0)

pub second_idle : (ls below rest : List Loans) (a b : Loans) (reserve : ℕ) → ls ≡ below ++ b ∷ [] → below ≡ rest ++ a ∷ [] → AreIdle ls (reserve ∷ reserve ∷ []) → IsIdle reserve (loans_live b)
second_idle ls below rest a b reserve e f h = subst (λ (xs : List Loans). IsIdle reserve (live_at xs 1)) (two_only ls below rest a b reserve e f h) (h.idle 1)
