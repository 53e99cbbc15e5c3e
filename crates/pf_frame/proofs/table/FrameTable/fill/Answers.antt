use Rattle.std.proofs.Common.{◌≡◌, ◌<◌, ℕ, List, [], ◌∙◌, sym, ap, length, arith, map, slice_set, slice_index_or}
use Rattle.std.proofs.lemmas.List.{get_or_read, map-set, get_or-map}
use Rattle.pf_frame.specs.Bytes.{filled}
use Rattle.pf_frame.specs.Pages.{page_of}
use Rattle.pf_frame.proofs.table.FrameTable.fill.Goals as goal

pub returns-clause-pages : goal.returns-clause-pages
returns-clause-pages c =
    let less : c.args.no < length c.args.self.now.frames.items = omega (arith, c.args.self.now.kept.paged) in
    let read = get_or_read c.args.self.now.frames.items c.args.no c.index_mut.result.now less c.index_mut.ensures.value c.index_mut.result.now in
    let page : slice_index_or (map page_of c.args.self.now.frames.items) c.args.no [] ≡ page_of c.index_mut.result.now = get_or-map page_of c.args.self.now.frames.items c.args.no c.index_mut.result.now [] less ∙ ap page_of (sym read) in
    map-set page_of c.args.self.now.frames.items c.args.no c.fill.new.self
    ∙ ap (λ (p : List ℕ). slice_set (map page_of c.args.self.now.frames.items) c.args.no p) (c.fill.ensures ∙ ap (λ (p : List ℕ). filled c.args.at c.args.bytes.now p) (sym page))
