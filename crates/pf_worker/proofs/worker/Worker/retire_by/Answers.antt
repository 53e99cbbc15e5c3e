-- Where no process lives its loans are vacant: so its credits and its stock are its reservation, and went that way.
use Rattle.std.proofs.lemmas.Grind.{common_steps}
use Rattle.std.proofs.Common.{rules, ◌≡◌, arith, ap, sym, subst, ◌∙◌}
use Rattle.pf_depot.specs.AllLoans.{reserved_of}
use Rattle.pf_worker.proofs.WorkerLaws.{is_vacated}
use Rattle.pf_worker.proofs.worker.Worker.retire_by.Goals as goal

pub new-leaving-requires-clause-none : goal.new-leaving-requires-clause-none
new-leaving-requires-clause-none g c =
    (is_vacated c.self.inside.placed.space c.self.inside.loans _ _ _ _ _ c.self.invariant
    (c.processes-processes.ensures.none (omega (arith, c.if-processes-gt0.false)))).none

pub new-leaving-requires-clause-unspent : goal.new-leaving-requires-clause-unspent
new-leaving-requires-clause-unspent g c =
    (is_vacated c.self.inside.placed.space c.self.inside.loans _ _ _ _ _ c.self.invariant
    (c.processes-processes.ensures.none (omega (arith, c.if-processes-gt0.false)))).unspent

pub new-leaving-requires-clause-stocked : goal.new-leaving-requires-clause-stocked
new-leaving-requires-clause-stocked g c =
    (is_vacated c.self.inside.placed.space c.self.inside.loans _ _ _ _ _ c.self.invariant
    (c.processes-processes.ensures.none (omega (arith, c.if-processes-gt0.false)))).stocked

pub returns-clause-returned : goal.returns-clause-returned
returns-clause-returned g c =
    let dealt : reserved_of c.self.inside.loans ≡ c.args.self.tenant.limits.reserve =
    sym c.self.invariant.owns.reserve ∙ ap (λ w. w.tenant.limits.reserve) c.self.view_is in
    let number : c.self.inside.number ≡ c.args.self.number = ap (λ w. w.number) c.self.view_is in
    let stock = c.self.inside.stock in
    let made = c.new-leaving.ensures in
    let back = subst (λ n. g.D.Returns.returned c.args.way.now c.self.inside.number (reserved_of c.new-leaving.result.loans) n)
    made.stock c.give_back.ensures in
    let all = subst (λ reserve. g.D.Returns.returned c.args.way.now c.self.inside.number reserve stock)
    (ap reserved_of made.loans ∙ dealt) back in
    (stock, subst (λ n. g.D.Returns.returned c.args.way.now n c.args.self.tenant.limits.reserve stock) number all)

pub returns-clause-retired : goal.returns-clause-retired
returns-clause-retired g c = search rules steps 500000

pub returns-then-processes-gt0-clause-retired : goal.returns-then-processes-gt0-clause-retired
returns-then-processes-gt0-clause-retired g c = grind (arith, common_steps)
