-- What a read of a few bytes is: it asks for no more than there is place for, and there are no more.

use Rattle.std.proofs.Common.{◌≡◌, ℕ, ◌<◌, ◌≤◌, min, length, sym, ◌∙◌, ap, inl, inr, arith}
use Rattle.std.proofs.lemmas.Bool.{cases_lt}
use Rattle.pf_base.specs.declared.TheConstants.{BYTES_IN_PLACE}
use Rattle.pf_machine.specs.Progress.{read_now}
use Rattle.pf_machine.specs.Queue.{Queue, bytes_of, after_take}
use Rattle.pf_ring.proofs.Queues.{without_rest}

-- any two numbers of bytes that the queue has no more of are the same to a read, but for none
past_all : (q : Queue) (writers a b : ℕ) → length (bytes_of q) ≤ a → length (bytes_of q) ≤ b → 0 < a → 0 < b → read_now q writers a ≡ read_now q writers b
past_all q writers a b all_a all_b some_a some_b =
    let number : min a (length (bytes_of q)) ≡ min b (length (bytes_of q)) = omega (arith, all_a, all_b) in
    let left : after_take q a ≡ after_take q b = ap (λ ss. record q { segments = ss }) (without_rest a q.segments all_a ∙ sym (without_rest b q.segments all_b)) in
    grind (arith, number, left, some_a, some_b)

pub few_read : (q : Queue) (writers most : ℕ) → min (length (bytes_of q)) most ≤ BYTES_IN_PLACE → read_now q writers (min most BYTES_IN_PLACE) ≡ read_now q writers most
few_read q writers most few = elim (cases_lt BYTES_IN_PLACE most) [
  | inl more ↦ past_all q writers (min most BYTES_IN_PLACE) most (omega (arith, few, more)) (omega (arith, few, more)) (omega (arith, more)) (omega (arith, more))
  | inr less ↦ ap (read_now q writers) (omega (arith, less))
]
