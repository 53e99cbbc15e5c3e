use Rattle.std.proofs.Common.{◌%◌, arith, w64, true, eq-eqb}
use Rattle.std.proofs.lemmas.Nat.Bits.{bit_at_set_same, bit_at_set_other}
use Rattle.pf_fds.proofs.MarksLaws.{has-set, has-set_other}
use Rattle.pf_fds.proofs.marks.Marks.mark.Goals as goal

pub returns : goal.returns
returns c =
    let words = c.args.self.now.words in
    let bit = c.args.n % 64 in
    record {
      marked = has-set words c.args.n _ (omega arith) true (eq-eqb _ 1 (bit_at_set_same w64 _ bit (omega arith)));
      others = λ m _. has-set_other words c.args.n _ (omega arith) (λ i _. bit_at_set_other w64 _ bit (omega arith) i) m;
    }
