-- New workers, and one that is retired.

use Rattle.std.proofs.Common.{◌≡◌, ℕ, suc, ◌+◌, List, [], ◌∷◌, ◌++◌, length, ap, ◌∙◌, arith, append_assoc, length-append}
use Rattle.pf_base.specs.Limits.{Limits}
use Rattle.pf_depot.specs.declared.loans.Loans.{Loans}
use Rattle.pf_depot.specs.AllLoans.{held_of, reserved_of}
use Rattle.pf_depot.specs.Loans.{loans_live}
use Rattle.pf_depot.specs.Lent.{loans_sound}
use Rattle.pf_tables.specs.Meaning.{Namespace}
use Rattle.pf_tables.specs.Held.{HoldsNone}
use Rattle.pf_worker.specs.Workers.{OneWorker, new_worker, new_workers_from, IsKept}

-- those so far and those that are left are all of them, with one more so far too
pub one_more : {Z : Type 0} (all ws vs : List (OneWorker Z)) (c : Limits × Z) (cs : List (Limits × Z)) → vs ≡ ws ++ new_worker (length ws) c ∷ []
    → ws ++ new_workers_from (length ws) (c ∷ cs) ≡ all → vs ++ new_workers_from (length vs) cs ≡ all
one_more {Z} all ws vs c cs is before =
    let counted : length vs ≡ suc (length ws) = omega (arith, ap (λ (xs : List (OneWorker Z)). length xs) is ∙ length-append ws (new_worker (length ws) c ∷ [])) in
    ap (λ (xs : List (OneWorker Z)). xs ++ new_workers_from (length vs) cs) is
    ∙ append_assoc ws (new_worker (length ws) c ∷ []) (new_workers_from (length vs) cs)
    ∙ ap (λ n. ws ++ new_worker (length ws) c ∷ new_workers_from n cs) counted
    ∙ before

-- One that is retired

-- its loans are vacant, so what it may still take is its reservation, and what it holds is in stock
pub record IsVacated (loans : Loans) (credits held stock : ℕ) : Type 0 where
  pub none : held_of loans ≡ 0
  pub unspent : credits + stock ≡ reserved_of loans
  pub stocked : held ≡ stock

pub is_vacated : (s : Namespace) (l : Loans) (credits held stock credits_parts held_parts : ℕ) → IsKept s l credits held stock credits_parts held_parts → HoldsNone s → IsVacated l credits held stock
is_vacated s l credits held stock credits_parts held_parts kept none =
    let vacant : held_of l ≡ 0 = none (loans_live l) (loans_sound l) kept.owns in
    record { none = vacant; unspent = omega (arith, vacant, kept.unspent); stocked = omega (arith, vacant, kept.lent) }
