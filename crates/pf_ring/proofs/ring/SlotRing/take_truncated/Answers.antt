use Rattle.std.proofs.Common.{◌≡◌, ℕ, List, ◌++◌, length, take, drop, sym, ◌∙◌, ap, arith}
use Rattle.std.specs.Prelude.{min}
use Rattle.std.proofs.lemmas.List.{length-take, take-take}
use Rattle.pf_machine.specs.Queue.{joined}
use Rattle.pf_ring.specs.Ring.{Ring, shown}
use Rattle.pf_ring.specs.Windows.{bytes_in}
use Rattle.pf_ring.proofs.WindowLaws.{segments_length}
use Rattle.pf_ring.proofs.Loops.{taken_all, gives}
use Rattle.pf_ring.proofs.ring.SlotRing.take_truncated.Goals as goal

pub returns-clause-bytes : goal.returns-clause-bytes
returns-clause-bytes g c =
    let f = g.F.Frames.live c.args.door.now in
    let buffer : List ℕ = c.args.buffer.now in
    let room : ℕ = c.min-room.result in
    let all : List ℕ = joined (shown f c.args.self.now.segments) in
    let part : List ℕ = take c.args.most all in
    let least : c.min-number.result ≡ min (bytes_in c.args.self.now.segments) c.args.most = omega (arith, c.min-number.ensures, c.len.ensures.number) in
    let count : c.min-number.result ≡ length part = omega (arith, least, segments_length f c.args.self.now.segments (g.met.F.Frames.sound _ c.requires.door.fact) c.requires.door.stands, length-take c.args.most all) in
    let fits : room ≡ min (length part) (length buffer) = omega (arith, c.min-room.ensures, count) in
    let size : length (take room buffer) ≡ room = omega (arith, fits, length-take room buffer) in
    let front : take room all ≡ take room part =
    sym (take-take room c.min-number.result all (omega (arith, fits, count)))
    ∙ ap (take room) (taken_all f c.args.self.now.segments c.args.most c.min-number.result (g.met.F.Frames.sound _ c.requires.door.fact) c.requires.door.stands least) in
    ap (λ (b : List ℕ). b ++ drop room buffer) (c.move_truncated.ensures.bytes
    ∙ (ap (λ (r : Ring). take (length (take room buffer)) (joined (shown f r.segments))) c.self.view_is
    ∙ (ap (λ (n : ℕ). take n all) size ∙ front)))
    ∙ ap (λ (n : ℕ). take n part ++ drop n buffer) fits

pub returns-clause-ring : goal.returns-clause-ring
returns-clause-ring g c =
    gives _ _ _ _ _ _ _ _ c.self.view_is (g.met.F.Frames.sound _ c.requires.door.fact) c.requires.door.stands (omega (arith, c.self.invariant.0))
    (omega (arith, c.min-number.ensures, c.len.ensures.number)) c.move_truncated.ensures.cut.door.frames
