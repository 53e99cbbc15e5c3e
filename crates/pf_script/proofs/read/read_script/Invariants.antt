use Rattle.std.proofs.Common.{◌≡◌, ◌≤◌, vec_len}
use Rattle.pf_script.proofs.Readings.{IsJudged}
use Rattle.pf_script.proofs.read.read_script.Given as goal

abbrev pub invariant-loop : goal.invariant-loop
invariant-loop g l =
    IsJudged (g.R.Source.input l.fn.reader) (g.R.Source.input l.reader) l.count l.judge l.rest.items
    × (vec_len l.chunk ≡ 65536)
    × (l.counter ≤ l.count)
    × (l.count ≤ 67108864)
