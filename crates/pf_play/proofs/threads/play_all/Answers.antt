-- The workers are those of the script's namespaces, in their order.
use Rattle.std.proofs.Common.{[], map, get_or, sym, ◌∙◌}
use Rattle.std.specs.declared.alloc.Global.{Global}
use Rattle.std.specs.declared.vec.Vec.{Vec}
use Rattle.std.proofs.lemmas.List.{length-map}
use Rattle.pf_script.specs.declared.told.Told.{Told}
use Rattle.pf_play.proofs.WorkLaws.{all_opened, many_lists, each_worked, worked_passed, worked_framed, all_framed}
use Rattle.pf_play.proofs.threads.play_all.Goals as goal

pub work_over-requires-after_bounds : goal.work_over-requires-after_bounds
work_over-requires-after_bounds g c κs within =
    all_opened c.args.script.now c.args.alloc c.in_ok-book.workers.items c.requires.only c.in_ok-book.ensures

pub all_of-requires-clause-number : goal.all_of-requires-clause-number
all_of-requires-clause-number g c =
    sym (length-map c.in_ok-own.own.items (λ (v : Vec Told Global). v.items))
    ∙ many_lists (g.G.Gate.passed c.args.gate.now) (g.G.Gate.framed c.args.gate.now) c.args.script.now c.args.alloc
    c.in_ok-book.workers.items (map (λ v. v.items) c.in_ok-own.own.items) c.in_ok-book.ensures c.in_ok-own.ensures

pub all_of-requires-clause-alone : goal.all_of-requires-clause-alone
all_of-requires-clause-alone g c = λ n low.
    (each_worked (g.G.Gate.passed c.args.gate.now) (g.G.Gate.framed c.args.gate.now) c.args.script.now c.args.alloc
    c.in_ok-book.workers.items (map (λ v. v.items) c.in_ok-own.own.items) c.in_ok-book.ensures c.in_ok-own.ensures n low).0

pub returns-clause-passed : goal.returns-clause-passed
returns-clause-passed g c =
    let passed = g.G.Gate.passed c.args.gate.now in
    let framed = g.G.Gate.framed c.args.gate.now in
    let own = map (λ (v : Vec Told Global). v.items) c.in_ok-own.own.items in
    λ ok n low. worked_passed passed framed c.args.script.now n (get_or own n [])
    (each_worked passed framed c.args.script.now c.args.alloc c.in_ok-book.workers.items own c.in_ok-book.ensures
    c.in_ok-own.ensures n low)

pub returns-clause-framed : goal.returns-clause-framed
returns-clause-framed g c =
    let passed = g.G.Gate.passed c.args.gate.now in
    let framed = g.G.Gate.framed c.args.gate.now in
    let own = map (λ (v : Vec Told Global). v.items) c.in_ok-own.own.items in
    all_framed framed c.args.script.now c.all_of.result c.in_ok-own.own c.all_of.ensures.run c.all_of.ensures.all
    (λ n low. worked_framed passed framed c.args.script.now n (get_or own n [])
    (each_worked passed framed c.args.script.now c.args.alloc c.in_ok-book.workers.items own c.in_ok-book.ensures
    c.in_ok-own.ensures n low))
