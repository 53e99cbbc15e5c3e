use Rattle.std.proofs.Common.{length, refl, ◌∙◌}
use Rattle.pf_ring.proofs.Changes.{piece_puts}
use Rattle.pf_ring.proofs.Segments.{piece_segments}
use Rattle.pf_ring.proofs.StepsLaws.{one_step}
use Rattle.pf_ring.proofs.windows.push_piece.Goals as goal

pub returns-clause-segments : goal.returns-clause-segments
returns-clause-segments g c = rw c.push_back_reserved.ensures.items
    (piece_segments (g.F.Frames.live c.args.door.now) (g.F.Frames.live c.take-frame.new.self) _ c.args.windows.now.items c.take-frame.result (length c.args.bytes.now) c.args.bytes.now
    c.requires.door.stands c.take-frame.ensures.takes c.fill.ensures.fills refl)

pub returns-clause-puts : goal.returns-clause-puts
returns-clause-puts g c = one_step c.fill.ensures.fact (c.fill.ensures.rest ∙ c.take-frame.ensures.rest) c.push_back_reserved.ensures.capacity (rw c.push_back_reserved.ensures.items
    (piece_puts (g.F.Frames.live c.args.door.now) (g.F.Frames.live c.take-frame.new.self) _ c.args.windows.now.items c.take-frame.result (length c.args.bytes.now) c.args.bytes.now
    c.requires.door.stands c.take-frame.ensures.takes c.fill.ensures.fills refl c.requires.piece.some c.requires.piece.fits))
