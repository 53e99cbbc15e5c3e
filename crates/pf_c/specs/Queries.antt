-- What C is told of a hub without a step.

use Rattle.std.specs.Prelude.{◌≡◌, ℕ, zero, suc, ℤ, pos, Bool, true, false, ◌&&◌, if◌then◌else◌, Option, Some, None, Result, Ok, Err}
use Rattle.pf_base.specs.declared.errno.Errno.{Errno}
use Rattle.pf_base.specs.declared.readiness.Readiness.{Readiness}
use Rattle.pf_machine.specs.Queries.{can_go_on, readiness, IsNext}
use Rattle.pf_hub.specs.Tenants.{is_living, held_at, limits_at, state_at}
use Rattle.pf_c.specs.Codes.{no_namespace, refused}
use Rattle.pf_c.specs.Rows.{Held}
use Rattle.pf_c.specs.declared.ready.SagReady.{SagReady}

-- a shut handle has no namespace, and no frame
abbrev pub lives_in : Option Held → ℕ → Bool
lives_in None n = false
lives_in (Some hub) n = is_living hub.world n

abbrev pub free_in : Option Held → ℕ
free_in None = 0
free_in (Some hub) = hub.world.free

-- how many frames a namespace holds
abbrev pub held_code : Option Held → ℕ → ℤ
held_code None n = no_namespace
held_code (Some hub) n = if is_living hub.world n then pos (held_at hub.world n) else no_namespace

-- whether the call in which a process waits comes further when it is tried again
abbrev pub goes_on_in : Option Held → ℕ → ℕ → Bool
goes_on_in None n pid = false
goes_on_in (Some hub) n pid =
    is_living hub.world n && can_go_on (limits_at hub.world n) (state_at hub.world n) pid

-- a pid, or none, which is 0
abbrev pub pid_or_none : ℕ → Option ℕ
pid_or_none zero = None
pid_or_none (suc i) = Some (suc i)

-- the least pid above one whose process can go on
abbrev pub IsNextOf : Bool → Held → ℕ → ℕ → ℕ → Type 0
IsNextOf true hub n after next = IsNext (limits_at hub.world n) (state_at hub.world n) after (pid_or_none next)
IsNextOf false hub n after next = next ≡ 0

abbrev pub IsNextIn : Option Held → ℕ → ℕ → ℕ → Type 0
IsNextIn None n after next = next ≡ 0
IsNextIn (Some hub) n after next = IsNextOf (is_living hub.world n) hub n after next

-- what a descriptor's pipe is ready for, or that there is no such namespace
abbrev pub readiness_in : Option Held → ℕ → ℕ → ℕ → Option (Result Readiness Errno)
readiness_in None n pid fd = None
readiness_in (Some hub) n pid fd =
    if is_living hub.world n then Some (readiness (state_at hub.world n) pid fd) else None

abbrev pub code_of_readiness : Option (Result Readiness Errno) → ℤ
code_of_readiness None = no_namespace
code_of_readiness (Some (Ok ready)) = pos 0
code_of_readiness (Some (Err e)) = refused e

-- what stands in the host's record then: this, or what stood there
abbrev pub ready_or : Option (Result Readiness Errno) → SagReady → SagReady
ready_or (Some (Ok r)) before =
    record { bytes = r.bytes; room = r.room; has_reader = r.has_reader; has_writer = r.has_writer }
ready_or (Some (Err e)) before = before
ready_or None before = before
