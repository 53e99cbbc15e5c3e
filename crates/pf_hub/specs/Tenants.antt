-- What a contract sees of a hub.

use Rattle.std.specs.Prelude.{ℕ, ◌+◌, ◌-◌, Bool, List, map, Option, Some, None, is_some, IsSome}
use Rattle.std.specs.Option.{option_map}
use Rattle.pf_base.specs.Limits.{Limits}
use Rattle.pf_machine.specs.Houses.{Guest, House}
use Rattle.pf_machine.specs.Numbered.{at, sum_of}
use Rattle.pf_machine.specs.Queue.{Segment}
use Rattle.pf_machine.specs.State.{State, opening}
use Rattle.pf_frame.specs.Live.{Live}
use Rattle.pf_tables.specs.Meaning.{Namespace, meaning}

-- a namespace: its limits, the lone machine's state that it is in, and how many frames it holds
pub record Tenant : Type 0 where
  pub limits : Limits
  pub state : State Segment ℕ
  pub held : ℕ

-- a place for each number of a namespace that was ever given, with nothing in it where that namespace is retired; and
-- how many frames nobody holds
pub record Tenants : Type 0 where
  pub tenants : List (Option Tenant)
  pub free : ℕ

-- a hub: its world, and by number the allocator whose memory each living namespace's files stand in
pub record Housed (Z : Type 0) : Type 0 where
  pub world : Tenants
  pub allocators : List (Option Z)

-- a namespace that isn't there
abbrev pub nobody : Tenant
nobody = record { limits = record { reserve = 0; soft = 0; hard = 0; max = 0 }; state = opening; held = 0 }

abbrev pub tenant_or : Option Tenant → Tenant
tenant_or None = nobody
tenant_or (Some t) = t

-- whether a namespace lives: it is admitted, and not retired
abbrev pub is_living : Tenants → ℕ → Bool
is_living h n = is_some (at h.tenants n)

abbrev pub Lives : Tenants → ℕ → Type 0
Lives h n = IsSome (at h.tenants n)

-- the namespace of a number
abbrev pub tenant_at : Tenants → ℕ → Tenant
tenant_at h n = tenant_or (at h.tenants n)

abbrev pub limits_at : Tenants → ℕ → Limits
limits_at h n = (tenant_at h n).limits

abbrev pub state_at : Tenants → ℕ → State Segment ℕ
state_at h n = (tenant_at h n).state

abbrev pub held_at : Tenants → ℕ → ℕ
held_at h n = (tenant_at h n).held

-- how many frames there are: those that nobody holds, and those that each namespace holds
abbrev pub frames_in : Tenants → ℕ
frames_in h = h.free + sum_of (λ t. t.held) h.tenants

-- how many are reserved by those who live, and the slack: how many by nobody
abbrev pub reserved_in : Tenants → ℕ
reserved_in h = sum_of (λ t. t.limits.reserve) h.tenants

abbrev pub slack_in : Tenants → ℕ
slack_in h = frames_in h - reserved_in h

-- the house that it is, where it isn't said who holds which frames
abbrev pub guest_of : Tenant → Guest
guest_of t = record { limits = t.limits; state = t.state }

abbrev pub house_of : Tenants → House
house_of h = record { frames = frames_in h; guests = map (option_map guest_of) h.tenants }

-- what a namespace means, given its live frames
abbrev pub tenant_of : Live → Namespace → Tenant
tenant_of f s = record { limits = s.limits; state = meaning f s.state; held = f.held }
