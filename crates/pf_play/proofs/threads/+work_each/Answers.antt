-- Each worker but the last has its answers from the call within, and the last one's are what its thread promised.
use Rattle.std.proofs.Common.{map, [], ◌∷◌, ◌++◌, subst, sym}
use Rattle.std.proofs.lemmas.List.{map-append}
use Rattle.std.proofs.lemmas.Result.{IfOk-at_ok, IfOk-weaker}
use Rattle.std.proofs.lemmas.Slice.Zip.{all_zipped_more}
use Rattle.pf_play.specs.Workers.{IsWorked, AreWorked}
use Rattle.pf_play.proofs.WorkLaws.{opened_before}
use Rattle.pf_play.proofs.threads.+work_each.Goals as goal

pub work_each-before-requires-after_bounds : goal.work_each-before-requires-after_bounds
work_each-before-requires-after_bounds g t c κs within =
    opened_before c.args.script.now c.args.workers.items c.pop.new.self.items c.in-Some.worker c.requires
    c.in-Some.ensures.items

pub returns : goal.returns
returns g t c =
    let passed = g.G.Gate.passed c.args.gate.now in
    let framed = g.G.Gate.framed c.args.gate.now in
    let script = c.args.script.now in
    let workers = c.pop.new.self.items in
    let worker = c.in-Some.worker in
    let promised = rw (c.in-Ok.ensures.0, c.in-Ok.ensures.1, c.in-Ok.ensures.2) at c.join-last.ensures in
    IfOk-weaker c.joined.result _ _
    (λ own made.
    let before = IfOk-at_ok (λ own. AreWorked passed framed script workers (map (λ v. v.items) own.items)) made.2
    c.work_each-before.ensures in
    let last = IfOk-at_ok (λ answers. IsWorked passed framed script worker.number answers.items) made.3 promised in
    let more = all_zipped_more (λ worker answers. IsWorked passed framed script worker.number answers) workers
    (map (λ v. v.items) made.0.items) worker made.1.items before last in
    rw (c.in-Some.ensures.items, made.4)
    (subst (λ own. AreWorked passed framed script (workers ++ worker ∷ []) own)
    (sym (map-append (λ v. v.items) made.0.items (made.1 ∷ []))) more))
    c.joined.ensures
