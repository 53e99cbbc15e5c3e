use denote.Param.Send.{sendable}
use Rattle.std.proofs.Common.{IfOk, sym, subst}
use Rattle.pf_play.specs.Workers.{IsWorked}
use Rattle.pf_play.proofs.Sendable.{heap_moves, script_is_lent, book_is_lent, worker_moves}
use Rattle.pf_play.proofs.threads.start.Goals as goal

pub spawn_with-requires-send-F : goal.spawn_with-requires-send-F
spawn_with-requires-send-F g c κs within
    = search (heap_moves, script_is_lent, book_is_lent, worker_moves, sendable) depth 20

-- the number that it promises is the worker's
pub spawn_with-requires-clause-keeps : goal.spawn_with-requires-clause-keeps
spawn_with-requires-clause-keeps g c κs within = λ r kept.
    subst (λ n. IfOk r (λ answers. IsWorked (g.G.Gate.passed c.args.gate.now) (g.G.Gate.framed c.args.gate.now)
    c.args.script.now n answers.items)) (sym c.number-ns.ensures) kept
