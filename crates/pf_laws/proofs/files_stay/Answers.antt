use Rattle.std.proofs.Common.{refl}
use Rattle.pf_base.specs.Root.{root}
use Rattle.pf_machine.proofs.FileLaws.{opening-map}
use Rattle.pf_laws.proofs.StayLaws.{stays}
use Rattle.pf_laws.proofs.files_stay.Goals as goal

pub returns : goal.returns
returns c = record { alone = refl; opens = opening-map root refl; stays = λ c s step m. stays s m c step }
