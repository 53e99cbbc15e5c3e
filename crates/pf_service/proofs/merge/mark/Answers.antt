use Rattle.std.proofs.Common.{rules, ◌≡◌, ℕ, sym, arith, true, Some, subst, slice_set, ◌++◌, ◌∷◌, []}
use Rattle.std.proofs.lemmas.Grind.{common_steps}
use Rattle.std.proofs.lemmas.Option.{gets}
use Rattle.std.specs.List.{slice_get}
use Rattle.pf_service.specs.Marks.{IsMarked}
use Rattle.pf_service.proofs.GivenLaws.{refused_past, refused_twice, refused_other, marked_more}
use Rattle.pf_service.proofs.merge.mark.Goals as goal
use Rattle.pf_service.proofs.merge.mark.Goals.{then-index-via-then-index, then-index-via-else-index+then-not-is_same}

pub returns-in_default-get-clause-refused : goal.returns-in_default-get-clause-refused
returns-in_default-get-clause-refused c = λ done rest marked each. refused_past c.args.entries.now c.args.event.now done rest (grind (arith, common_steps, gets)) each

pub returns-then-index-clause-refused : goal.returns-then-index-clause-refused
returns-then-index-clause-refused c = λ done rest marked each.
    let is : c.in-Ok.place ≡ c.args.event.now.place = grind (arith, common_steps) in
    let some : slice_get c.args.entries.now c.args.event.now.place ≡ Some c.in-Some.entry.now = grind (arith, common_steps, gets) in
    elim c.then-index.branch [
      | then-index-via-then-index w ↦ refused_twice c.args.entries.now c.args.marks.now.items c.args.event.now done rest c.in-Some.entry.now some (grind (arith, common_steps, gets)) marked each
      | then-index-via-else-index+then-not-is_same w ↦ refused_other c.args.entries.now c.args.marks.now.items c.args.event.now done rest c.in-Some.entry.now some (grind (arith, common_steps, gets)) (search rules) marked each
    ]

pub returns-clause-marked : goal.returns-clause-marked
returns-clause-marked c = λ done marked.
    let is : c.in-Ok.place ≡ c.args.event.now.place = grind (arith, common_steps) in
    let some : slice_get c.args.entries.now c.args.event.now.place ≡ Some c.in-Some.entry.now = grind (arith, common_steps, gets) in
    subst (λ (n : ℕ). IsMarked c.args.entries.now (slice_set c.args.marks.now.items n true) (done ++ c.args.event.now ∷ [])) (sym is)
    (marked_more c.args.entries.now c.args.marks.now.items c.args.event.now done c.in-Some.entry.now (search rules) (grind (arith, common_steps, gets)) some (grind (arith, common_steps, gets)) (search rules) marked)
