-- What carries the isolation: what a namespace holds is what its own pipes hold, and what it may still take is there.

use Rattle.std.specs.Prelude.{◌≡◌, ℕ, ◌+◌, ◌-◌, ◌≤◌, [], length, Some}
use Rattle.pf_machine.specs.Numbered.{at, sum_of}
use Rattle.pf_machine.specs.Queue.{Segment, bytes_of}
use Rattle.pf_machine.specs.Counts.{total}
use Rattle.pf_machine.specs.State.{State, Pipe}
use Rattle.pf_hub.specs.Tenants.{Tenant, Tenants, tenant_at, frames_in, reserved_in, slack_in}

-- how many slots of all pipes are in use: one for each segment
abbrev pub occupied : State Segment ℕ → ℕ
occupied s = sum_of (λ p. length p.queue.segments) s.pipes

-- the frames that a namespace holds, its slots in use, the pages that its pipes are charged with, and its reservation
-- stand in rising order; and it holds none only where no pipe has a byte
pub record IsRising (t : Tenant) : Type 0 where
  pub frames : t.held ≤ occupied t.state
  pub slots : occupied t.state ≤ total t.state
  pub pages : total t.state ≤ t.limits.reserve
  pub none : t.held ≡ 0 → (n : ℕ) (p : Pipe Segment) → at t.state.pipes n ≡ Some p → bytes_of p.queue ≡ []

-- how many more frames a namespace may take
abbrev pub unspent : Tenant → ℕ
unspent t = t.limits.reserve - t.held

-- each namespace is so; those who live have reserved no more frames than there are; and at least as many frames are held
-- by nobody as nobody has reserved, and as all who live together may still take
pub record IsCovered (h : Tenants) : Type 0 where
  pub each : (n : ℕ) → IsRising (tenant_at h n)
  pub reserved : reserved_in h ≤ frames_in h
  pub credits : slack_in h + sum_of unspent h.tenants ≤ h.free
