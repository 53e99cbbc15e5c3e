-- What holds of a namespace over any frames of its own, as what bounds its replies and who can go on, holds in the hub.

use Rattle.std.proofs.Common.{ℕ, ◌≡◌, ◌≤◌, List, sym, ◌∙◌, ap, subst}
use Rattle.std.specs.Prelude.{Option, Some}
use Rattle.pf_base.specs.Limits.{Limits}
use Rattle.pf_machine.specs.Queue.{Segment}
use Rattle.pf_machine.specs.State.{State}
use Rattle.pf_machine.specs.Machine.{step_of}
use Rattle.pf_machine.specs.Numbered.{at}
use Rattle.pf_machine.specs.Replies.{reply_length}
use Rattle.pf_base.specs.declared.step.Step.{Step}
use Rattle.pf_depot.specs.declared.depot.Depot.{Depot}
use Rattle.pf_depot.specs.Loans.{loans_live}
use Rattle.pf_depot.specs.Lent.{loans_sound}
use Rattle.pf_frame.specs.Live.{Live, IsSound}
use Rattle.pf_tables.specs.Bounds.{Covers}
use Rattle.pf_tables.specs.Meaning.{meaning}
use Rattle.pf_tables.specs.Owns.{Owns}
use Rattle.pf_hub.specs.declared.tenant.Tenant.{Tenant as Lodger}
use Rattle.pf_hub.specs.Tenants.{Tenants, Tenant, tenant_at, limits_at, state_at}
use Rattle.pf_hub.specs.Shared.{IsShared, hub_of}
use Rattle.pf_hub.proofs.TenantLaws.{tenant_is}

pub held_in : {Z : Type 0} {d : Depot} {ts : List (Option (Lodger Z))} {alive : ℕ} {h : Tenants} (P : Limits → State Segment ℕ → Type 0) (n : ℕ) (t : Lodger Z)
    → IsShared d ts alive → hub_of d ts ≡ h → at ts n ≡ Some t
    → ((f : Live) → IsSound f → Owns f t.placed.space → P t.placed.space.limits (meaning f t.placed.space.state))
    → P (limits_at h n) (state_at h n)
held_in {Z} {d} {ts} {alive} {h} P n t shared is there holds =
    let here : tenant_at (hub_of d ts) n ≡ tenant_at h n = ap (λ (x : Tenants). tenant_at x n) is in
    subst (λ (x : Tenant). P x.limits x.state) (sym (tenant_is d ts n t there) ∙ here)
    (holds (loans_live t.loans) (loans_sound t.loans) (shared.owned n t there))

pub bounded : {Z : Type 0} {d : Depot} {ts : List (Option (Lodger Z))} {alive : ℕ} {h : Tenants} (n : ℕ) (t : Lodger Z) (step : Step) (most : ℕ)
    → IsShared d ts alive → hub_of d ts ≡ h → at ts n ≡ Some t → Covers t.placed.space step most
    → reply_length (step_of (limits_at h n) (state_at h n) step).reply ≤ most
bounded {Z} {d} {ts} {alive} {h} n t step most shared is there covers =
    held_in (λ c s. reply_length (step_of c s step).reply ≤ most) n t shared is there covers
