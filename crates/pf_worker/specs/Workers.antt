-- What a contract sees of a worker, and what is true of it at all times.

use Rattle.std.specs.Prelude.{◌≡◌, ℕ, suc, ◌+◌, ◌<◌, ⊤, List, [], ◌∷◌}
use Rattle.pf_base.specs.declared.admission.AdmitFault.{AdmitFault}
use Rattle.pf_base.specs.declared.admission.AdmitFault.TheVariants.{NoRoom, TooManyNamespaces, NoMemory}
use Rattle.pf_base.specs.Limits.{Limits}
use Rattle.pf_depot.specs.declared.loans.Loans.{Loans}
use Rattle.pf_depot.specs.AllLoans.{held_of, reserved_of}
use Rattle.pf_depot.specs.Loans.{loans_live}
use Rattle.pf_space.specs.declared.placed.Placed.{Placed}
use Rattle.pf_tables.specs.Meaning.{Namespace}
use Rattle.pf_tables.specs.Owns.{Owns}
use Rattle.pf_hub.specs.Opening.{new_tenant}
use Rattle.pf_hub.specs.Tenants.{Tenant, tenant_of}

-- a worker: the number that its namespace has among those over one depot, the namespace, and the allocator whose memory
-- its files stand in
pub record OneWorker (Z : Type 0) : Type 0 where
  pub number : ℕ
  pub tenant : Tenant
  pub allocator : Z

-- that of a namespace over its loans
abbrev pub worker_of : {Z : Type 0} → ℕ → Placed Z → Loans → OneWorker Z
worker_of number placed loans =
    record { number = number; tenant = tenant_of (loans_live loans) placed.space; allocator = placed.allocator }

-- that of a namespace of these limits, beside this allocator, that nothing has happened to
abbrev pub new_worker : {Z : Type 0} → ℕ → Limits × Z → OneWorker Z
new_worker number e = record { number = number; tenant = new_tenant e.0; allocator = e.1 }

-- those of these limits, each beside its allocator, whose numbers go on from this one
abbrev pub new_workers_from : {Z : Type 0} → ℕ → List (Limits × Z) → List (OneWorker Z)
new_workers_from number [] = []
new_workers_from number (e ∷ more) = new_worker number e ∷ new_workers_from (suc number) more

-- those of these limits: their numbers are their places
abbrev pub new_workers : {Z : Type 0} → List (Limits × Z) → List (OneWorker Z)
new_workers configs = new_workers_from 0 configs

-- the loans' frames are those that the namespace's rings name; for each frame that it may still take there is one in
-- stock or a credit; its other share is what it holds and what is in stock; and both shares have a part of their ledger,
-- so each can grow
pub record IsKept (space : Namespace) (loans : Loans) (credits held stock credits_parts held_parts : ℕ) : Type 0 where
  pub owns : Owns (loans_live loans) space
  pub unspent : credits + stock + held_of loans ≡ reserved_of loans
  pub lent : held ≡ held_of loans + stock
  pub credits_part : 0 < credits_parts
  pub held_part : 0 < held_parts

-- what is known of a refusal to admit so large a reservation, whatever the depot was when it was asked: the slack that is
-- told is below it
abbrev pub IsRefusal : ℕ → AdmitFault → Type 0
IsRefusal reserve (NoRoom slack) = slack < reserve
IsRefusal reserve TooManyNamespaces = ⊤
IsRefusal reserve NoMemory = ⊤
