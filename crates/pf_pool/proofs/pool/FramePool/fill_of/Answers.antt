use Rattle.std.proofs.Common.{◌<◌, length, map, arith}
use Rattle.std.proofs.lemmas.List.{length-map}
use Rattle.pf_frame.specs.Sound.{counted_within}
use Rattle.pf_frame.specs.Pages.{page_of}
use Rattle.pf_pool.proofs.OwnedLaws.{counted, mine_fills, rest_fills}
use Rattle.pf_pool.proofs.pool.FramePool.fill_of.Goals as goal

pub fill-requires-clause-exists : goal.fill-requires-clause-exists
fill-requires-clause-exists c = counted_within _ _ (counted _ _ _ _ c.args.self.now.kept.owned c.requires.is_live)

pub returns-clause-fills : goal.returns-clause-fills
returns-clause-fills c =
    let within : c.args.no < length c.args.self.now.table.counts.items = counted_within _ _ (counted _ _ _ _ c.args.self.now.kept.owned c.requires.is_live) in
    let less : c.args.no < length (map page_of c.args.self.now.table.frames.items) = omega (arith, c.args.self.now.table.kept.paged, length-map c.args.self.now.table.frames.items page_of) in
    mine_fills _ _ _ _ _ _ _ _ _ _ c.fill.ensures.counts c.fill.ensures.pages less c.requires.is_live

pub returns-clause-rest : goal.returns-clause-rest
returns-clause-rest c = rest_fills _ _ _ _ _ _ _ _ _ c.fill.ensures.counts c.fill.ensures.pages c.args.self.now.kept.owned c.requires.is_live
