-- One worker more, and as many limits as allotments are left.
use Rattle.std.proofs.Common.{rules, ◌≡◌, ◌∷◌, ◌++◌, [], length, drop, ℕ, List, arith, length-append, ap}
use Rattle.pf_worker.specs.Workers.{new_worker}
use Rattle.pf_worker.proofs.WorkerLaws.{one_more}
use Rattle.pf_worker.proofs.worker.workers_of.Goals as goal

pub loop-config-preserved : goal.loop-config-preserved
loop-config-preserved g c =
    let pushed : c.push_reserved.new.self.items ≡ c.loop-config.workers.items ++ new_worker (length c.loop-config.workers.items) (c.in-Some.config, c.in-Some.tree) ∷ [] = search rules in
    let made = rw c.in-Some.ensures.steps.0 at c.loop-config.invariant.made in
    let left = rw c.in-Some-next.ensures.items at (rw c.in-Some.ensures.steps.0 at c.loop-config.invariant.reserved) in
    let all = rw c.in-Some.ensures.steps.0 at c.loop-config.invariant.all in
    record {
      made = one_more _ c.loop-config.workers.items c.push_reserved.new.self.items (c.in-Some.config, c.in-Some.tree) c.next.new.self.rest.items pushed made;
      reserved = ap (λ (ns : List ℕ). drop 1 ns) left;
      all = omega (arith, all, ap (λ xs. length xs) pushed, length-append c.loop-config.workers.items (new_worker (length c.loop-config.workers.items) (c.in-Some.config, c.in-Some.tree) ∷ []));
      room = search rules;
    }
