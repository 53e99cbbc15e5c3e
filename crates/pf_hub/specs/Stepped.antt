-- What a step of one namespace does to it, and to a hub.

use Rattle.std.specs.Prelude.{◌≡◌, ◌≢◌, ℕ, ◌+◌, length, false}
use Rattle.pf_machine.specs.Machine.{Answers, may_want_memory}
use Rattle.pf_machine.specs.Events.{IsDone}
use Rattle.pf_machine.specs.Numbered.{at}
use Rattle.pf_base.specs.declared.step.Step.{Step}
use Rattle.pf_base.specs.declared.step.Answer.{Answer}
use Rattle.pf_frame.specs.Live.{Live}
use Rattle.pf_depot.specs.declared.depot.Depot.{Depot}
use Rattle.pf_depot.specs.Depot.{free_of, frames_of, slack_of}
use Rattle.pf_depot.specs.Loans.{loans_live}
use Rattle.pf_tables.specs.Meaning.{Namespace, meaning}
use Rattle.pf_tables.specs.Owns.{Owns}
use Rattle.pf_hub.specs.declared.tenant.Tenant.{Tenant as Lodger}
use Rattle.pf_hub.specs.Covered.{IsCovered}
use Rattle.pf_hub.specs.Shared.{held_in, reserved_by}
use Rattle.pf_hub.specs.Tenants.{Tenants, Lives, limits_at, state_at, frames_in}

-- a namespace is another: its answer and its state are the lone machine's, and the live frames of its door are its own
-- again
pub record Moved (f g : Live) (old new : Namespace) (step : Step) (answer : Answer) : Type 0 where
  pub owns : Owns g new
  pub limits : new.limits ≡ old.limits
  pub answers : Answers old.limits answer (meaning f old.state) step (meaning g new.state)
  pub succeeds : may_want_memory old.limits (meaning f old.state) step ≡ false → IsDone answer

-- a tenant of a depot is another: what it holds came from there, or went back
pub record Lodges {Z : Type 0} (d e : Depot) (old new : Lodger Z) (step : Step) (answer : Answer) : Type 0 where
  pub frames : frames_of e ≡ frames_of d
  pub slack : slack_of e ≡ slack_of d
  pub spare : free_of e + held_in new ≡ free_of d + held_in old
  pub reserved : reserved_by new ≡ reserved_by old
  pub moved : Moved (loans_live old.loans) (loans_live new.loans) old.placed.space new.placed.space step answer
  pub allocator : new.placed.allocator ≡ old.placed.allocator

-- namespace n of a hub alone is another: no namespace and no frame comes or goes, and every other namespace is as it was
pub record Stepped (old new : Tenants) (n : ℕ) (step : Step) (answer : Answer) : Type 0 where
  pub number : length new.tenants ≡ length old.tenants
  pub lives : Lives new n
  pub frames : frames_in new ≡ frames_in old
  pub limits : limits_at new n ≡ limits_at old n
  pub answers : Answers (limits_at old n) answer (state_at old n) step (state_at new n)
  pub others : (m : ℕ) → m ≢ n → at new.tenants m ≡ at old.tenants m
  pub succeeds : may_want_memory (limits_at old n) (state_at old n) step ≡ false → IsDone answer
  pub covered : IsCovered new
