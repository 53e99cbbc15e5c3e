use Rattle.pf_laws.proofs.TransferLaws as laws
use Rattle.pf_laws.proofs.transfers_move.Goals as goal

pub returns : goal.returns
returns c = record {
  reads = λ q writers n. laws.reads q n writers;
  writes = λ q readers whole x. laws.writes q whole x readers;
  crosses = λ c source sink writers readers n. laws.crosses source sink n c writers readers;
}
