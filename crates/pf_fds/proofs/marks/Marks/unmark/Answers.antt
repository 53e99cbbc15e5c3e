use Rattle.std.proofs.Common.{◌%◌, arith, w64, false, ap, nat_eq}
use Rattle.std.proofs.lemmas.Nat.Bits.{bit_at_clear_same, bit_at_clear_other}
use Rattle.pf_fds.proofs.MarksLaws.{has-set, has-set_other}
use Rattle.pf_fds.proofs.marks.Marks.unmark.Goals as goal

pub returns : goal.returns
returns c =
    let words = c.args.self.now.words in
    let bit = c.args.n % 64 in
    record {
      unmarked = has-set words c.args.n _ (omega arith) false (ap (λ b. nat_eq b 1) (bit_at_clear_same w64 _ bit (omega arith)));
      others = λ m _. has-set_other words c.args.n _ (omega arith) (λ i within. bit_at_clear_other w64 _ bit (omega arith) i within) m;
    }
