use Rattle.std.proofs.Common.{◌≡◌, ◌++◌, length, length-append, ap, ◌∙◌, arith, rules}
use Rattle.std.proofs.lemmas.List.{take-append-drop}
use Rattle.hex.specs.Hex.{lower_digits}
use Rattle.hex.proofs.HexLemmas.{length-encode_with}
use Rattle.pf_script.proofs.DigitLaws.{made_on}
use Rattle.pf_script.proofs.text.put_piece.Goals as goal

pub loop-rest-preserved : goal.loop-rest-preserved
loop-rest-preserved g c =
    let rest = c.loop-rest.rest.now in
    let front = c.split_at.result.0.now in
    let behind = c.split_at.result.1.now in
    let join : front ++ behind ≡ rest = rw (c.split_at.ensures.front, c.split_at.ensures.back)
    (take-append-drop 16 rest) in
    let items : c.try_extend_from_slice.new.self.items
    ≡ c.loop-rest.digits.items ++ c.block_digits.result = search rules in
    let long = length-encode_with lower_digits front in
    let lengths = ap length items ∙ length-append c.loop-rest.digits.items c.block_digits.result in
    record {
      room = omega (
        arith,
        lengths,
        ap length c.block_digits.ensures,
        long,
        c.split_at.ensures.front_len,
        c.split_at.ensures.back_len,
        c.loop-rest.invariant.room,
      );
      made = made_on c.loop-rest.digits.items front behind c.block_digits.result _ _ items c.block_digits.ensures
          (rw join c.loop-rest.invariant.made);
    }

pub returns : goal.returns
returns g c = search rules steps 500000
