use Rattle.pf_words.proofs.BlockLaws.{filled_up}
use Rattle.pf_words.proofs.blocks.last_block_of.Goals as goal

pub returns : goal.returns
returns c =
    filled_up c.args.text.now c.copy_from_slice.new.self c.block_of.result c.requires.even c.requires.short
    c.copy_from_slice.ensures.after c.block_of.ensures
