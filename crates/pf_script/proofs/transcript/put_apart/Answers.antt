use Rattle.std.proofs.Common.{◌<◌, ◌≤◌, ◌≡◌, List, [], ◌++◌, length, map, get_or, refl, ap, subst, sym, ◌∙◌, arith}
use Rattle.std.specs.declared.alloc.Global.{Global}
use Rattle.std.specs.declared.vec.Vec.{Vec}
use Rattle.std.proofs.lemmas.List.{get_or-map, length-map}
use Rattle.pf_base.specs.declared.admission.EventAnswer.{EventAnswer}
use Rattle.pf_script.specs.declared.told.Told.{Told}
use Rattle.pf_script.specs.Puts.{Puts}
use Rattle.pf_script.specs.Text.{section_at}
use Rattle.pf_script.proofs.PrinterPut.{put_more, failed_on, nothing}
use Rattle.pf_script.proofs.Texts.{apart_on, apart_end}
use Rattle.pf_script.proofs.transcript.put_apart.Goals as goal

abbrev lists_of : List (Vec Told Global) → List (List EventAnswer)
lists_of own = map (λ v. v.items) own

many : (own : List (Vec Told Global)) → length (lists_of own) ≡ length own
many own = length-map own (λ (v : Vec Told Global). v.items)

pub loop-ns-init : goal.loop-ns-init
loop-ns-init g c = ([], nothing _ _, refl)

pub returns-then-has_failed : goal.returns-then-has_failed
returns-then-has_failed g c = subst (λ t. Puts (g.W.Sink.output c.args.writer.now) c.args.out.now (g.W.Sink.output c.loop-ns.writer) c.loop-ns.out t) c.loop-ns.invariant.2 (failed_on _ (sym c.has_failed.ensures ∙ c.if-has_failed.true) c.loop-ns.invariant.1)

pub loop-ns-preserved : goal.loop-ns-preserved
loop-ns-preserved g c =
    let script = c.args.script.now in
    let own = lists_of c.args.own.now in
    let ns = c.loop-ns.ns in
    let high : ns < length own = omega (arith, many c.args.own.now, c.loop-ns-test.true) in
    let one : get_or own ns [] ≡ c.as_slice.result.now =
    get_or-map (λ (v : Vec Told Global). v.items) c.args.own.now ns c.index-own-ns.result [] c.loop-ns-test.true
    ∙ ap (λ (v : Vec Told Global). v.items) (sym c.index-own-ns.is) ∙ sym c.as_slice.ensures.value in (
      c.loop-ns.invariant.0 ++ section_at script (get_or own ns []) ns,
      rw one (put_more c.loop-ns.invariant.1 c.put_alone.ensures),
      apart_on _ _ ns script own (many c.args.own.now ∙ c.requires) high c.loop-ns.invariant.2,
    )

pub returns : goal.returns
returns g c =
    let own = lists_of c.args.own.now in
    let past : length own ≤ c.loop-ns.ns = omega (arith, many c.args.own.now, c.loop-ns-test.false) in
    subst (λ t. Puts (g.W.Sink.output c.args.writer.now) c.args.out.now (g.W.Sink.output c.loop-ns.writer) c.loop-ns.out t)
    (apart_end _ _ c.loop-ns.ns c.args.script.now.spaces own (many c.args.own.now ∙ c.requires) past c.loop-ns.invariant.2) c.loop-ns.invariant.1
