use Rattle.pf_machine.proofs.QueueLaws as laws
use Rattle.pf_laws.proofs.take_parts.Goals as goal

pub returns : goal.returns
returns c = λ q n. record {
  bytes = laws.taken-bytes_of q n;
  room = laws.room_of-after_take q n;
  emptied = laws.room_of-emptied q n;
  queue = laws.IsQueue-after_take q n;
}
