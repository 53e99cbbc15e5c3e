use Rattle.std.proofs.Common.{rules, sym}
use Rattle.pf_play.proofs.NumberLaws.{numbers_more}
use Rattle.pf_play.proofs.engine.first_numbers.Goals as goal

pub loop-number-preserved : goal.loop-number-preserved
loop-number-preserved c =
    let more = sym (numbers_more 0 c.loop-number.number) in
    record {
      numbers = search rules;
      many = search rules;
      room = search rules;
    }
