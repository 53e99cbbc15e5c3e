use Rattle.pf_script.proofs.DigitLaws.{filled_up}
use Rattle.pf_script.proofs.digits.last_block_digits.Goals as goal

pub returns : goal.returns
returns c =
    filled_up c.args.bytes.now c.copy_from_slice.new.self _ c.requires c.copy_from_slice.ensures.after
    c.block_digits.ensures
