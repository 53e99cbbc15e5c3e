use Rattle.std.proofs.Common.{◌≡◌, ◌<◌, List, [], length, map, get_or, ap, sym, ◌∙◌, arith}
use Rattle.std.specs.declared.alloc.Global.{Global}
use Rattle.std.specs.declared.vec.Vec.{Vec}
use Rattle.std.proofs.lemmas.List.{get_or-map, length-map}
use Rattle.pf_base.specs.declared.admission.EventAnswer.{EventAnswer}
use Rattle.pf_script.specs.declared.told.Told.{Told}
use Rattle.pf_play.specs.Plays.{nomem_of}
use Rattle.pf_play.proofs.ApartLaws.{counted_fits, counted_all}
use Rattle.pf_play.proofs.answered.count_apart.Goals as goal

abbrev lists_of : List (Vec Told Global) → List (List EventAnswer)
lists_of own = map (λ (v : Vec Told Global). v.items) own

many : (own : List (Vec Told Global)) → length (lists_of own) ≡ length own
many own = length-map own (λ (v : Vec Told Global). v.items)

pub overflow_add-count : goal.overflow_add-count
overflow_add-count c =
    let own = lists_of c.args.own.now in
    let ns = c.loop-ns.ns in
    let apart = c.requires.1 in
    let low : ns < length c.args.script.now.spaces = omega (arith, many c.args.own.now, apart.0, c.loop-ns-test.true) in
    let one : get_or own ns [] ≡ c.as_slice.result.now =
    get_or-map (λ (v : Vec Told Global). v.items) c.args.own.now ns c.index-own-ns.result [] c.loop-ns-test.true
    ∙ ap (λ (v : Vec Told Global). v.items) (sym c.index-own-ns.is) ∙ sym c.as_slice.ensures.value in
    let next : c.count_nomem-count.result ≡ nomem_of (get_or own ns []) =
    c.count_nomem-count.ensures ∙ ap nomem_of (sym one) in
    omega (
      arith,
      c.loop-ns.invariant,
      next,
      counted_fits c.args.script.now c.requires.0 own ns apart low,
      c.count_lines-most.ensures,
      c.count_lines-most.type_inv,
    )

pub returns : goal.returns
returns c =
    let script = c.args.script.now in
    let own = lists_of c.args.own.now in
    let exist = rw c.steps-lines.ensures.steps at c.steps-lines.ensures.exist in
    λ answers apart.
    let all : c.loop-ns.ns ≡ length script.spaces =
    omega (arith, many c.args.own.now, apart.0, c.loop-ns-test.false, c.loop-ns.auto.ns-end) in
    c.loop-ns.invariant ∙ counted_all script answers own c.loop-ns.ns apart exist all
