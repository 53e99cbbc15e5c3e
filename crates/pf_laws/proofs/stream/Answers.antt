use Rattle.pf_laws.proofs.StreamLaws.{stream}
use Rattle.pf_laws.proofs.PieceLaws.{in_order, whole}
use Rattle.pf_laws.proofs.TakenLaws.{taken_told}
use Rattle.pf_laws.proofs.BytesLaws.{bytes_told}
use Rattle.pf_laws.proofs.CountLaws.{given_told}
use Rattle.pf_laws.proofs.stream.Goals as goal

pub returns : goal.returns
returns c = record {
  stream = stream c.args.config.now c.args.steps.now;
  in_order = in_order c.args.config.now c.args.steps.now;
  whole = whole c.args.config.now c.args.steps.now;
  taken_told = λ s x n. taken_told n s c.args.config.now x;
  bytes_told = λ s x y e. bytes_told s c.args.config.now x y e;
  given_told = given_told c.args.config.now c.args.steps.now;
}
