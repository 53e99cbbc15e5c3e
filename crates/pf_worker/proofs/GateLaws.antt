-- What a gate was told of a step that ends with more frames than it began with.

use Rattle.std.proofs.Common.{◌≡◌, ℕ, ◌<◌, ◌≤◌, subst, arith}
use Rattle.pf_worker.specs.Gated.{GatedRest, IsToldOfMore}

-- the same gate was told of the same namespace where more is held than at first
pub told_of_more : {G : Type 0} (framed : G → ℕ → Type 0) (gate : G) (ns : ℕ) (old new : GatedRest G) (begun held out : ℕ) →
    old.gate ≡ gate → old.ns ≡ ns → old.begun ≡ begun → new ≡ old →
    IsToldOfMore (framed new.gate new.ns) new.begun out → held ≤ out → begun < held → framed gate ns
told_of_more framed gate ns old new begun held out of_gate of_ns at_first same told low more =
    let there = subst (λ r. IsToldOfMore (framed r.gate r.ns) r.begun out) same told in
    let from_first = subst (λ b. IsToldOfMore (framed old.gate old.ns) b out) at_first there in
    let there_told : framed old.gate old.ns = from_first (omega (arith, low, more)) in
    subst (λ n. framed gate n) of_ns (subst (λ h. framed h old.ns) of_gate there_told)
