-- What is told of a run's end, and what is done as words ask.

use Rattle.std.proofs.Common.{refl, sym, subst, ◌∙◌, inl, inr, ℕ, List, [], ◌≡◌, Bool, true, false, Option, Some, None, Bor}
use Rattle.std.proofs.Common.{option_copied, unwrap_or}
use Rattle.std.specs.Prelude.{◌&&◌, is_some}
use Rattle.pf_play.specs.CommandLine.{name_in, needs_one_thread, refusals, tree_heap_in, wants_threads}
use Rattle.pf_play.specs.Program.{IsRun, IsTold, Obeys, one_thread_line}
use Rattle.pf_play.specs.declared.program.Status.{Status}
use Rattle.pf_play.specs.declared.program.Status.TheVariants as statuses
use Rattle.pf_script.specs.Ports.{Input, Output}

pub name_told : (only : Option (Bor (List ℕ))) (empty : Bor (List ℕ)) → empty.now ≡ []
    → (unwrap_or only empty).now ≡ unwrap_or (option_copied only) []
name_told None empty e = e
name_told (Some name) empty e = refl

-- words that are taken are obeyed where what they ask for is done
pub obeyed : (words : List (List ℕ)) (input rest : Input) (old new : Output) (status : Status) (threads : Bool)
    (heap : Option ℕ) (name : Option (List ℕ)) →
    refusals words ≡ [] → threads ≡ wants_threads words → heap ≡ tree_heap_in words → name ≡ name_in words →
    (threads && is_some heap ≡ false → IsRun threads input rest old new name status) →
    (threads && is_some heap ≡ true → (rest ≡ input) × IsTold old new one_thread_line statuses.Usage status) →
    Obeys words input rest old new status
obeyed words input rest old new status threads heap name taken wanted heaps named run one =
    by (threads && is_some heap) refl
  where
    needs : threads && is_some heap ≡ needs_one_thread words
    needs = λ i. wanted i && is_some (heaps i)

    by : (b : Bool) → threads && is_some heap ≡ b → Obeys words input rest old new status
    by false is = inl (
      taken,
      sym needs ∙ is,
      subst (λ n. IsRun (wants_threads words) input rest old new n status) named
          (subst (λ t. IsRun t input rest old new name status) wanted (run is)),
    )
    by true is = let told = one is in inr (inr (inl (taken, sym needs ∙ is, told.0, told.1)))
