use Rattle.std.proofs.Common.{◌≡◌, length, refl, sym, ◌∙◌, arith, false}
use Rattle.std.specs.Prelude.{nat_eq, nat_lt}
use Rattle.std.specs.List.{list_any}
use Rattle.std.proofs.lemmas.Bool.Decides.{nat_tests}
use Rattle.pf_machine.specs.Paths.{components}
use Rattle.pf_walk.proofs.LongNames.{are_long, short_path}
use Rattle.pf_walk.proofs.Splits.{all_pass}
use Rattle.pf_walk.proofs.words.judge.Goals as goal
use Rattle.pf_walk.proofs.words.judge.Goals.{then-path-gt-MAX_NAME, else-path-gt-MAX_NAME}

pub returns-clause-passed : goal.returns-clause-passed
returns-clause-passed c =
    let bs = c.args.path.now in
    let zero : list_any (λ b. nat_eq b 0) bs ≡ false = sym c.contains.ensures.value ∙ c.if-contains.false in
    let empty : nat_eq (length bs) 0 ≡ false = grind (arith, nat_tests) in
    let long : nat_lt 1023 (length bs) ≡ false = grind (arith, nat_tests) in
    let names : are_long 255 (components bs) ≡ false =
    elim c.if-path-gt-MAX_NAME.branch [
      | then-path-gt-MAX_NAME w ↦ sym w.has_long_name.ensures ∙ sym w.value-is ∙ c.if-has_long_name.false
      | else-path-gt-MAX_NAME w ↦ short_path 255 bs (omega (arith, w.if-path-gt-MAX_NAME.false))
    ] in
    all_pass bs (components bs) zero empty long refl names
