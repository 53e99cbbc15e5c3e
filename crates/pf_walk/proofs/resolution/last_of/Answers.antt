use Rattle.std.proofs.Common.{◌≡◌, ◌∷◌, [], sym, ap, ◌∙◌, true, false}
use Rattle.std.specs.Prelude.{nat_eq}
use Rattle.std.specs.Cmp.Lexicographic.{texts_ties, pointwise}
use Rattle.pf_machine.specs.Paths.{last_of, is_dot, is_dot_dot}
use Rattle.pf_tree.specs.Subtrees.{path_of}
use Rattle.pf_walk.proofs.Cuts.{last-append, path_of-append, kind_dot, kind_dot_dot, kind_named}
use Rattle.pf_walk.proofs.resolution.last_of.Goals as goal

pub returns-then-eq : goal.returns-then-eq
returns-then-eq c =
    let n = c.in-Some.name.now.now in
    let dot : is_dot n ≡ true = sym (texts_ties n (46 ∷ [])) ∙ ap (pointwise nat_eq n) (sym c.as_slice.ensures) ∙ sym c.eq.ensures ∙ c.if-eq.true in
    sym (ap (λ l. last_of (path_of l)) c.in-Some.ensures.cases.0 ∙ ap last_of (path_of-append c.in-Some.field-0-1.now c.in-Some.name.now) ∙ last-append (path_of c.in-Some.field-0-1.now) n ∙ kind_dot n dot)

pub returns-then-eq-2 : goal.returns-then-eq-2
returns-then-eq-2 c =
    let n = c.in-Some.name.now.now in
    let dot : is_dot n ≡ false = sym (texts_ties n (46 ∷ [])) ∙ ap (pointwise nat_eq n) (sym c.as_slice.ensures) ∙ sym c.eq.ensures ∙ c.if-eq.false in
    let dots : is_dot_dot n ≡ true = sym (texts_ties n (46 ∷ 46 ∷ [])) ∙ ap (pointwise nat_eq n) (sym c.as_slice-else-eq.ensures) ∙ sym c.eq-else-eq.ensures ∙ c.if-eq-2.true in
    sym (ap (λ l. last_of (path_of l)) c.in-Some.ensures.cases.0 ∙ ap last_of (path_of-append c.in-Some.field-0-1.now c.in-Some.name.now) ∙ last-append (path_of c.in-Some.field-0-1.now) n ∙ kind_dot_dot n dot dots)

pub returns-else-eq-2 : goal.returns-else-eq-2
returns-else-eq-2 c =
    let n = c.in-Some.name.now.now in
    let dot : is_dot n ≡ false = sym (texts_ties n (46 ∷ [])) ∙ ap (pointwise nat_eq n) (sym c.as_slice.ensures) ∙ sym c.eq.ensures ∙ c.if-eq.false in
    let dots : is_dot_dot n ≡ false = sym (texts_ties n (46 ∷ 46 ∷ [])) ∙ ap (pointwise nat_eq n) (sym c.as_slice-else-eq.ensures) ∙ sym c.eq-else-eq.ensures ∙ c.if-eq-2.false in
    sym (ap (λ l. last_of (path_of l)) c.in-Some.ensures.cases.0 ∙ ap last_of (path_of-append c.in-Some.field-0-1.now c.in-Some.name.now) ∙ last-append (path_of c.in-Some.field-0-1.now) n ∙ kind_named n dot dots)
