use Rattle.std.proofs.Common.{Fits, w8}
use Rattle.std.proofs.lemmas.Simd.{Each1-from_get_or}
use Rattle.pf_script.proofs.DigitLaws.{block_is}
use Rattle.pf_script.proofs.digits.block_digits.Goals as goal

pub returns : goal.returns
returns c =
    let bytes = c.args.bytes.now in
    let fits = Each1-from_get_or (Fits w8) bytes 0 (λ i _. c.type_inv.bytes i) in
    block_is bytes _ _ c.requires fits c.digits_of-highs.ensures c.digits_of-lows.ensures
