use Rattle.std.proofs.Common.{rules, ◌≡◌, ap, arith}
use Rattle.pf_pipe.specs.Pipe.{CountedPipe}
use Rattle.pf_pipe.proofs.PipeCross.{goes}
use Rattle.pf_pipe.proofs.pipe.Pipe.stopped.Goals as goal

pub returns-clause-goes : goal.returns-clause-goes
returns-clause-goes c =
    let readers : c.sink.inside.readers ≡ c.args.sink.now.readers = ap (λ (p : CountedPipe). p.readers) c.sink.view_is in
    goes c.args.self.now c.args.sink.now c.args.n (omega (arith, c.if-n-eq0.false)) (omega (arith, c.if-sink-eq0.false, readers)) (omega (arith, c.if-len-eq0.false, c.len.ensures.number))
    (omega (arith, c.if-used-slots.false, c.used.ensures.number, c.used.ensures.most, c.slots.ensures.number))

pub returns-then-len-eq0-clause-stops : goal.returns-then-len-eq0-clause-stops
returns-then-len-eq0-clause-stops g c = search rules steps 100000
