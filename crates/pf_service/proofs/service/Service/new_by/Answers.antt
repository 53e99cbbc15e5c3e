-- The reservations are those of the limits alone, and there are no more namespaces than there may be.
use Rattle.std.proofs.Common.{rules, ◌≡◌, ◌≤◌, ℕ, List, map, length, sym, ◌∙◌, ap, arith}
use Rattle.std.specs.List.{range_with_len}
use Rattle.std.proofs.lemmas.List.{length-map}
use Rattle.std.proofs.lemmas.Simd.{map-map}
use Rattle.pf_base.specs.Limits.{Limits}
use Rattle.pf_hub.specs.Opening.{limits_of, first_fault}
use Rattle.pf_service.proofs.PlaceLaws.{few}
use Rattle.pf_service.proofs.service.Service.new_by.Goals as goal

pub returns-in_err-book-clause-fault : goal.returns-in_err-book-clause-fault
returns-in_err-book-clause-fault g c =
    let read : c.in-Ok-reserves_of.reserves.items ≡ map (λ e. e.0.reserve) c.args.configs.items = search rules in
    let reserves = read ∙ sym (map-map (λ (l : Limits). l.reserve) (λ e. e.0) c.args.configs.items) in
    let opened = rw reserves at c.open.ensures in
    search (opened, rules)

pub returns-clause-tested : goal.returns-clause-tested
returns-clause-tested g c =
    let counted : length c.args.frames.items ≡ c.len.result = search rules in
    λ _. (λ i. first_fault (counted i) (limits_of (sym c.deref.ensures.value i))) ∙ sym c.first_fault.ensures ∙ c.in_default.is

pub returns-clause-limits : goal.returns-clause-limits
returns-clause-limits g c = c.in-Ok.ensures ∙ ap (λ (cs : List (Limits × g.row.A.Denot)). limits_of cs) c.deref-2.ensures.value

pub invariant_of-result : goal.invariant_of-result
invariant_of-result g c =
    let counted : length c.args.frames.items ≡ c.len.result = search rules in
    let tested = (λ i. first_fault (counted i) (limits_of (sym c.deref.ensures.value i))) ∙ sym c.first_fault.ensures ∙ c.in_default.is in
    let most : length c.args.configs.items ≤ 64 = few (length c.args.frames.items) c.args.configs.items tested in
    let limits = c.in-Ok.ensures ∙ ap (λ (cs : List (Limits × g.row.A.Denot)). limits_of cs) c.deref-2.ensures.value in
    let kept : length c.in-Ok.kept.items ≡ length c.args.configs.items =
    ap (λ (ls : List Limits). length ls) limits ∙ length-map c.args.configs.items (λ e. e.0) in
    (c.in-Ok-places_of.ensures.numbered ∙ ap (λ (n : ℕ). range_with_len 0 n) (sym kept), (omega (arith, kept, most), tt))

pub returns-in-Some-clause-fault : goal.returns-in-Some-clause-fault
returns-in-Some-clause-fault g c = search rules steps 500000
