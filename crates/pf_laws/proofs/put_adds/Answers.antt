use Rattle.std.proofs.Common.{arith}
use Rattle.pf_machine.proofs.QueueLaws as laws
use Rattle.pf_laws.proofs.put_adds.Goals as goal

pub returns : goal.returns
returns c = λ q x fits. record {
  bytes = laws.bytes_of-put q x fits;
  room = omega (arith, fits, laws.room_of-put q x fits);
  queue = laws.IsQueue-put q x;
}
