use Rattle.std.proofs.Common.{◌≡◌, ℕ, List, length, take, sym, ◌∙◌, ap, subst}
use Rattle.std.proofs.lemmas.List.{length-take, take_min}
use Rattle.pf_machine.specs.Queue.{bytes_of}
use Rattle.pf_ring.specs.Laid.{laid}
use Rattle.pf_ring.specs.Ring.{queue_of}
use Rattle.pf_pipe.specs.Pipe.{CountedPipe}
use Rattle.pf_pipe.proofs.pipe.Pipe.read_truncated.Goals as goal

-- as many as were taken are those that were
as_many : (n k : ℕ) (xs : List ℕ) → k ≡ length (take n xs) → take n xs ≡ take k xs
as_many n k xs is = sym (take_min n xs) ∙ ap (λ (m : ℕ). take m xs) (sym (is ∙ length-take n xs))

pub returns-clause-bytes : goal.returns-clause-bytes
returns-clause-bytes g c =
    let f = g.F.Frames.live c.args.door.now in
    let number : ℕ = c.take_truncated-number.result in
    let taken = c.take_truncated-number.ensures in
    subst (λ (p : CountedPipe). c.take_truncated-number.new.buffer ≡ laid (take number (bytes_of (queue_of f p.ring))) c.args.buffer.now) c.self.view_is
    (taken.bytes ∙ ap (λ (xs : List ℕ). laid xs c.args.buffer.now) (as_many c.args.limit number (bytes_of (queue_of f c.self.inside.ring)) taken.ring.number_is))
