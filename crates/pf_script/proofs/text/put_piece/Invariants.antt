use Rattle.std.proofs.Common.{◌≡◌, ◌++◌, ◌+◌, ◌*◌, length}
use Rattle.hex.specs.Hex.{encode_lower}
use Rattle.pf_script.proofs.text.put_piece.Given as goal

abbrev pub invariant-loop-rest : goal.invariant-loop-rest
invariant-loop-rest g l = record {
  room : length l.digits.items + 2 * length l.rest ≡ 2 * length l.bytes;
  made : l.digits.items ++ encode_lower l.rest ≡ encode_lower l.bytes;
}

abbrev pub decreases-loop-rest : goal.decreases-loop-rest
decreases-loop-rest g l = length l.rest
