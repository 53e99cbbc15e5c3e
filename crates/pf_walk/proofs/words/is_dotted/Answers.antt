use Rattle.std.proofs.Common.{◌≡◌, ◌∷◌, [], sym, ap, ◌∙◌, false}
use Rattle.std.specs.Prelude.{nat_eq, ◌||◌}
use Rattle.std.specs.Cmp.Lexicographic.{texts_ties, pointwise}
use Rattle.pf_machine.specs.Paths.{is_dot, is_dot_dot}
use Rattle.pf_walk.proofs.words.is_dotted.Goals as goal

pub returns-else-eq : goal.returns-else-eq
returns-else-eq c =
    let n = c.args.name.now in
    let dot : is_dot n ≡ false = sym (texts_ties n (46 ∷ [])) ∙ ap (pointwise nat_eq n) (sym c.as_slice.ensures) ∙ sym c.eq.ensures ∙ c.if-eq.false in
    c.eq-else-eq.ensures ∙ ap (pointwise nat_eq n) c.as_slice-else-eq.ensures ∙ texts_ties n (46 ∷ 46 ∷ []) ∙ sym (ap (λ b. b || is_dot_dot n) dot)
