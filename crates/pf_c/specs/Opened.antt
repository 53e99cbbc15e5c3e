-- A hub is opened for C.

use Rattle.std.specs.Prelude.{◌≡◌, ℕ, ℤ, pos, Bool, true, ◌&&◌, if◌then◌else◌, List, map, Option, Some, None, is_none}
use Rattle.std.specs.Prelude.{Result, is_ok}
use Rattle.std.specs.List.{list_all}
use Rattle.pf_base.specs.Limits.{Limits, config_of}
use Rattle.pf_base.specs.declared.config.ConfigFault.{ConfigFault}
use Rattle.pf_base.specs.declared.errno.Errno.TheVariants.{EBUSY, EINVAL}
use Rattle.pf_hub.specs.Opening.{new_hub, first_fault}
use Rattle.pf_c.specs.Codes.{refused, no_memory}
use Rattle.pf_c.specs.Rows.{Held}
use Rattle.pf_c.specs.declared.opening.OpenFault.{OpenFault}
use Rattle.pf_c.specs.declared.opening.OpenFault.TheVariants.{Invalid, NoMemory}
use Rattle.pf_c.specs.declared.opening.SagLimits.{SagLimits}

-- limits as C gives them
abbrev pub limits_in : SagLimits → Limits
limits_in l = record { reserve = l.reserve; soft = l.soft; hard = l.hard; max = l.max }

-- the limits that they are, or why they are none
abbrev pub config_in : SagLimits → Result Limits ConfigFault
config_in l = config_of l.reserve l.soft l.hard l.max

abbrev pub code_of_fault : OpenFault → ℤ
code_of_fault Invalid = refused EINVAL
code_of_fault NoMemory = no_memory

-- limits that a namespace can have
abbrev pub is_limits : SagLimits → Bool
is_limits l = is_ok (config_in l)

-- there can be a hub of so many frames with a namespace of each of these limits
abbrev pub can_open : ℕ → List SagLimits → Bool
can_open frames limits = is_none (first_fault frames (map limits_in limits)) && list_all is_limits limits

-- where there can be none, that is told and nothing else; and want of memory only where there can be one
abbrev pub fault_of_opening : ℕ → List SagLimits → OpenFault
fault_of_opening frames limits = if can_open frames limits then NoMemory else Invalid

-- a hub of so many frames, with a namespace of each of these limits that nothing has happened to
pub record Opens (hub : Held) (frames : ℕ) (limits : List SagLimits) : Type 0 where
  pub can : can_open frames limits ≡ true
  pub world : hub.world ≡ new_hub (map limits_in limits) frames

-- a shut handle holds such a hub, or stays shut
abbrev pub OpeningOf : Option Held → ℕ → List SagLimits → ℤ → Type 0
OpeningOf (Some hub) frames limits code = Opens hub frames limits × (code ≡ pos 0)
OpeningOf None frames limits code = code ≡ code_of_fault (fault_of_opening frames limits)

-- an open one stays as it is
abbrev pub Opening : Option Held → Option Held → ℕ → List SagLimits → ℤ → Type 0
Opening None new frames limits code = OpeningOf new frames limits code
Opening (Some old) new frames limits code = (new ≡ Some old) × (code ≡ refused EBUSY)
