-- How many processes live, and that nothing is left where none does.

use Rattle.std.proofs.Common.{◌≡◌, ℕ, List, [], ◌∷◌, length, Option, Some, None, nat_lt}
use Rattle.std.proofs.Common.{if◌then◌else◌, refl, ap, ◌∙◌, arith}
use Rattle.pf_tables.proofs.Common.{at, sum_of, itself, State, ends, sweep, Namespace, occupied, sum_of-none}
use Rattle.pf_machine.specs.Numbered.{keep}
use Rattle.pf_machine.proofs.NumberedLaws.{at-keep}
use Rattle.pf_machine.specs.State.{Pipe}
use Rattle.pf_machine.specs.Counts.{names}
use Rattle.pf_machine.specs.Processes.{alive}
use Rattle.pf_machine.specs.Sweep.{live_descriptions}
use Rattle.pf_tables.specs.Held.{HoldsNone}
use Rattle.pf_tables.proofs.OwnsLaws.{held_occupied}

-- Nobody lives

module _ {X : Type 0} where
  -- where nothing stands, no sum is above 0
  none_summed : (h : X → ℕ) (xs : List (Option X)) → sum_of (λ x. 1) xs ≡ 0 → sum_of h xs ≡ 0
  none_summed h [] e = refl
  none_summed h (None ∷ xs) e = omega (arith, none_summed h xs (omega arith))
  none_summed h (Some x ∷ xs) e = absurd (omega arith)

  -- where no number stays, nothing stands
  none_kept : (h : X → ℕ) (count : ℕ → ℕ) (xs : List (Option X)) → ((k : ℕ) → count k ≡ 0)
      → sum_of h (keep (λ n. nat_lt 0 (count n)) xs) ≡ 0
  none_kept h count xs zeros =
      sum_of-none h (keep (λ n. nat_lt 0 (count n)) xs) (λ k x there.
      let gone : at (keep (λ n. nat_lt 0 (count n)) xs) k ≡ None =
      at-keep (λ n. nat_lt 0 (count n)) xs k ∙ ap (λ n. if nat_lt 0 n then at xs k else None) (zeros k) in
      absurd (cc))

-- the sweep leaves no pipe
no_pipes : {X : Type 0} (s : State X ℕ) → alive s ≡ 0 → (h : Pipe X → ℕ) → sum_of h (sweep itself s).pipes ≡ 0
no_pipes s nobody h =
    none_kept h (ends itself (live_descriptions itself s.processes s.descriptions)) s.pipes
    (λ p. none_kept _ (names itself s.processes) s.descriptions (λ n. none_summed _ s.processes nobody))

-- so a namespace that is swept has no frame
pub holds_none : (n : Namespace) → n.state ≡ sweep itself n.state → alive n.state ≡ 0 → HoldsNone n
holds_none n swept nobody f sound owns =
    let slots : occupied n.state ≡ 0 = ap occupied swept ∙ no_pipes n.state nobody (λ p. length p.queue.segments) in
    omega (arith, slots, held_occupied f n sound owns)
