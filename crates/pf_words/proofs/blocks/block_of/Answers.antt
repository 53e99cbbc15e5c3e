use Rattle.std.proofs.Common.{Fits, w8}
use Rattle.std.proofs.lemmas.Simd.{Each1-from_get_or}
use Rattle.pf_words.proofs.BlockLaws.{block_reads, block_refuses}
use Rattle.pf_words.proofs.blocks.block_of.Goals as goal

pub returns-then-highs-lows-eq0 : goal.returns-then-highs-lows-eq0
returns-then-highs-lows-eq0 c =
    let text = c.args.text.now in
    let fits = Each1-from_get_or (Fits w8) text 0 (λ i _. c.type_inv.text i) in
    block_reads text _ _ c.requires fits c.values_of-highs.ensures c.values_of-lows.ensures c.if-highs-lows-eq0.true

pub returns-else-highs-lows-eq0 : goal.returns-else-highs-lows-eq0
returns-else-highs-lows-eq0 c =
    let text = c.args.text.now in
    let fits = Each1-from_get_or (Fits w8) text 0 (λ i _. c.type_inv.text i) in
    block_refuses text _ _ c.requires fits c.values_of-highs.ensures c.values_of-lows.ensures c.if-highs-lows-eq0.false
