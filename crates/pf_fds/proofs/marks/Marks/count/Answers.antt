use Rattle.std.proofs.Common.{◌<◌, ◌^◌, ℕ, get_or, rules}
use Rattle.pf_fds.proofs.MarksLaws.{four_counted}
use Rattle.pf_fds.proofs.marks.Marks.count.Goals as goal

pub returns : goal.returns
returns c bs long bits =
    let fits : (j : ℕ) → get_or c.args.self.now.words j 0 < 2 ^ 64 = λ j. search rules in
    four_counted _ bs fits long bits
