use Rattle.std.proofs.Common.{rules, ◌≡◌, ◌++◌, ◌∷◌, [], ◌-◌, length, take, refl, sym, ap, ◌∙◌, subst, true, false, Some, None}
use Rattle.std.specs.Prelude.{Ok, IsSome, nat_eq}
use Rattle.std.specs.Cmp.Lexicographic.{texts_ties, pointwise}
use Rattle.pf_machine.specs.FileMap.{find}
use Rattle.pf_machine.specs.Paths.{is_dot, is_dot_dot, permitted}
use Rattle.pf_tree.specs.Subtrees.{path_of, under}
use Rattle.pf_walk.specs.Walks.{Stands}
use Rattle.pf_walk.proofs.Cuts.{path_of-append, front-take}
use Rattle.pf_walk.proofs.WalkLaws.{stands_down, stands_up, found_here, found_below}
use Rattle.pf_walk.proofs.Steps.{step_refused, step_stays, step_up, step_lost, step_down}
use Rattle.pf_walk.proofs.walk.Walk.step.Goals as goal

-- In each answer: the walk stands at a file, the file may be searched, and the name is or isn't `.` or `..`.

pub returns-in_err-search-clause-told : goal.returns-in_err-search-clause-told
returns-in_err-search-clause-told g c =
    let fs = c.args.self.now.root.now in
    let p = path_of c.args.self.now.names.items in
    let n = c.args.name.now in
    let here : find p fs ≡ Some c.file.result = found_here fs c.here-here.result.now p (Some c.file.result) c.here-here.ensures c.file.ensures in
    let refused = step_refused fs c.args.cred.now p here n _ (sym c.in_err-search.ensures) in
    search rules

pub returns-then-eq-clause-told : goal.returns-then-eq-clause-told
returns-then-eq-clause-told g c =
    let fs = c.args.self.now.root.now in
    let p = path_of c.args.self.now.names.items in
    let n = c.args.name.now in
    let here : find p fs ≡ Some c.file.result = found_here fs c.here-here.result.now p (Some c.file.result) c.here-here.ensures c.file.ensures in
    let way : permitted c.args.cred.now c.file.result ≡ Ok _ = sym c.in_ok-search.ensures in
    let dot : is_dot n ≡ true = sym (texts_ties n (46 ∷ [])) ∙ ap (pointwise nat_eq n) (sym c.as_slice.ensures) ∙ sym c.eq.ensures ∙ c.if-eq.true in
    step_stays fs c.args.cred.now p here n _ way dot

pub returns-then-eq-2-clause-told : goal.returns-then-eq-2-clause-told
returns-then-eq-2-clause-told g c =
    let fs = c.args.self.now.root.now in
    let p = path_of c.args.self.now.names.items in
    let n = c.args.name.now in
    let here : find p fs ≡ Some c.file.result = found_here fs c.here-here.result.now p (Some c.file.result) c.here-here.ensures c.file.ensures in
    let way : permitted c.args.cred.now c.file.result ≡ Ok _ = sym c.in_ok-search.ensures in
    let dot : is_dot n ≡ false = sym (texts_ties n (46 ∷ [])) ∙ ap (pointwise nat_eq n) (sym c.as_slice.ensures) ∙ sym c.eq.ensures ∙ c.if-eq.false in
    let dots : is_dot_dot n ≡ true = sym (texts_ties n (46 ∷ 46 ∷ [])) ∙ ap (pointwise nat_eq n) (sym c.as_slice-2.ensures) ∙ sym c.eq-2.ensures ∙ c.if-eq-2.true in
    step_up fs c.args.cred.now p here n _ way dot dots
    ∙ sym (ap Ok (ap path_of c.truncate.ensures.items ∙ front-take c.args.self.now.names.items c.saturating_sub-parents.result (c.saturating_sub-parents.ensures ∙ ap (λ l. length l - 1) c.as_slice-then-eq-2.ensures.value)))

pub returns-then-eq-2-clause-stands : goal.returns-then-eq-2-clause-stands
returns-then-eq-2-clause-stands g c =
    let fs = c.args.self.now.root.now in
    let k = c.saturating_sub-parents.result in
    subst (λ l. Stands fs l c.truncate-then-eq-2.new.self.items) (sym c.truncate.ensures.items)
    (subst (λ l. Stands fs (take k c.args.self.now.names.items) l) (sym c.truncate-then-eq-2.ensures.items)
    (stands_up k fs c.args.self.now.names.items c.args.self.now.nodes.items c.requires.stands))

pub returns-in_default-clause-told : goal.returns-in_default-clause-told
returns-in_default-clause-told g c =
    let fs = c.args.self.now.root.now in
    let p = path_of c.args.self.now.names.items in
    let n = c.args.name.now in
    let here : find p fs ≡ Some c.file.result = found_here fs c.here-here.result.now p (Some c.file.result) c.here-here.ensures c.file.ensures in
    let way : permitted c.args.cred.now c.file.result ≡ Ok _ = sym c.in_ok-search.ensures in
    let dot : is_dot n ≡ false = sym (texts_ties n (46 ∷ [])) ∙ ap (pointwise nat_eq n) (sym c.as_slice.ensures) ∙ sym c.eq.ensures ∙ c.if-eq.false in
    let dots : is_dot_dot n ≡ false = sym (texts_ties n (46 ∷ 46 ∷ [])) ∙ ap (pointwise nat_eq n) (sym c.as_slice-2.ensures) ∙ sym c.eq-2.ensures ∙ c.if-eq-2.false in
    step_lost fs c.args.cred.now p here n _ way dot dots (found_below fs c.here-here.result.now [] p n None c.here-here.ensures (sym c.in_default.ensures.absent) refl)

pub returns-clause-told : goal.returns-clause-told
returns-clause-told g c =
    let fs = c.args.self.now.root.now in
    let p = path_of c.args.self.now.names.items in
    let n = c.args.name.now in
    let here : find p fs ≡ Some c.file.result = found_here fs c.here-here.result.now p (Some c.file.result) c.here-here.ensures c.file.ensures in
    let way : permitted c.args.cred.now c.file.result ≡ Ok _ = sym c.in_ok-search.ensures in
    let dot : is_dot n ≡ false = sym (texts_ties n (46 ∷ [])) ∙ ap (pointwise nat_eq n) (sym c.as_slice.ensures) ∙ sym c.eq.ensures ∙ c.if-eq.false in
    let dots : is_dot_dot n ≡ false = sym (texts_ties n (46 ∷ 46 ∷ [])) ∙ ap (pointwise nat_eq n) (sym c.as_slice-2.ensures) ∙ sym c.eq-2.ensures ∙ c.if-eq-2.false in
    let there : IsSome (find (p ++ n ∷ []) fs) = subst IsSome (sym (found_below fs c.here-here.result.now c.in-Some.node.now p n (find [] c.in-Some.node.now) c.here-here.ensures c.in-Some.ensures.found refl)) c.in-Some.ensures.file in
    step_down fs c.args.cred.now p here n _ way dot dots there
    ∙ sym (ap Ok (ap path_of c.in_ok-append.ensures ∙ path_of-append c.args.self.now.names.items c.args.name))

pub returns-clause-stands : goal.returns-clause-stands
returns-clause-stands g c =
    let fs = c.args.self.now.root.now in
    let ns = c.args.self.now.names.items in
    subst (λ l. Stands fs l c.append-2.new.items.items) (sym c.in_ok-append.ensures)
    (subst (λ l. Stands fs (ns ++ c.args.name ∷ []) l) (sym c.in_ok-append-2.ensures)
    (stands_down fs ns c.args.self.now.nodes.items c.args.name c.in-Some.node c.requires.stands (c.in-Some.ensures.found ∙ ap (under c.args.name.now) c.here-here.ensures)))
