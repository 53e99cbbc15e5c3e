use Rattle.std.proofs.Common.{rules, ◌≤◌, length, min, ◌∙◌, ap, subst}
use Rattle.pf_base.specs.declared.TheConstants.{BYTES_IN_PLACE}
use Rattle.pf_machine.specs.Progress.{Passed, read_now}
use Rattle.pf_machine.specs.Queue.{bytes_of}
use Rattle.pf_ring.specs.Ring.{queue_of}
use Rattle.pf_pipe.specs.Pipe.{Passes}
use Rattle.pf_pipe.proofs.PipeReads.{few_read}
use Rattle.pf_pipe.proofs.pipe.Pipe.read_bytes.Goals as goal

pub returns-then-number-le-BYTES_IN_PLACE-clause-passes : goal.returns-then-number-le-BYTES_IN_PLACE-clause-passes
returns-then-number-le-BYTES_IN_PLACE-clause-passes g c =
    let f = g.F.Frames.live c.args.door.now in
    let q = queue_of f c.args.self.now.ring in
    let few : min (length (bytes_of q)) c.args.most ≤ BYTES_IN_PLACE = search rules in
    subst (λ (m : Passed). Passes c.args.self.now c.read_now-progress.new.self f (g.F.Frames.live c.read_now-progress.new.door) c.read_now-progress.result m)
    (ap (read_now q c.args.self.now.writers) (search rules) ∙ few_read q c.args.self.now.writers c.args.most few)
    c.read_now-progress.ensures.passes

pub returns-in_default-clause-many : goal.returns-in_default-clause-many
returns-in_default-clause-many g c = search rules steps 100000
