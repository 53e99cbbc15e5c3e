-- A spawn that memory was wanted for in one world, and not in the other.
use Rattle.pf_hub.proofs.WorkedWorlds as worked
use Rattle.pf_hub.proofs.laws.memory_matters.Goals as goal

pub returns : goal.returns
returns c = worked.memory_matters
