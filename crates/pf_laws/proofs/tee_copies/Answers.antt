use Rattle.pf_machine.specs.Queue.{free_of, tee_number}
use Rattle.pf_machine.proofs.QueueLaws as laws
use Rattle.pf_laws.proofs.tee_copies.Goals as goal

pub returns : goal.returns
returns c = λ source sink n. record {
  number = laws.length-joined-copied (free_of sink) n source.segments;
  bytes = laws.bytes_of-after_tee source sink n;
  room = laws.room_of-after_tee source sink n;
  queue = laws.IsQueue-after_tee source sink n;
  left = laws.taken-bytes_of source (tee_number source sink n);
}
