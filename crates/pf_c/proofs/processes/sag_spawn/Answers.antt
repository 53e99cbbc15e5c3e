-- Memory is wanted for the host's groups only where there are some.
use Rattle.std.proofs.Common.{◌≡◌, ℕ, false, List, [], ◌∷◌, Result, Err, IsOk, refl, rules}
use Rattle.pf_base.specs.declared.step.Step.TheVariants as steps
use Rattle.pf_c.specs.Told.{has_none}
use Rattle.pf_c.proofs.processes.sag_spawn.Goals as goal

not_made : {A E : Type 0} (made : Result A E) {e : E} → made ≡ Err e → IsOk made → ⊥
not_made made is ok = absurd (cc)

some : (ids : List ℕ) → (ids ≡ [] → ⊥) → has_none ids ≡ false
some [] there = absurd (there refl)
some (id ∷ ids) there = refl

pub returns-in_default : goal.returns-in_default
returns-in_default c =
    let ids = c.args.groups.now in
    let told =
    c.told_wanted.ensures (steps.Spawn c.args.uid c.args.gid c.args.umask ids) (has_none ids)
    (λ hub quiet. some ids (λ none. not_made c.from_slice.result c.in_default.is (c.from_slice.ensures.none none))) in
    search (told, rules)
