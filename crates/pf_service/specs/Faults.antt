-- Why an event was refused.

use Rattle.std.specs.Prelude.{ℕ, ◌<◌, ◌≤◌, List, length}
use Rattle.pf_base.specs.declared.step.Step.{Step}
use Rattle.pf_base.specs.declared.step.Reply.{Reply}
use Rattle.pf_base.specs.declared.TheConstants.{MAX_NUMBERS}
use Rattle.pf_base.specs.declared.admission.AdmitFault.{AdmitFault}
use Rattle.pf_base.specs.declared.admission.AdmitFault.TheVariants as admit
use Rattle.pf_base.specs.declared.admission.RetireFault.{RetireFault}
use Rattle.pf_base.specs.declared.admission.RetireFault.TheVariants as retire
use Rattle.pf_service.specs.declared.TheConstants.{MAX_ENTRIES}
use Rattle.pf_service.specs.declared.fault.ServiceFault.{ServiceFault}
use Rattle.pf_service.specs.declared.fault.ServiceFault.TheVariants.{NoMemory, TranscriptFull, NoSuchNamespace, TooManySeats, Gone}

-- where these are the namespace's entries
abbrev pub IsApplyFault : List (Step × Reply) → ServiceFault → Type 0
IsApplyFault es TranscriptFull = MAX_ENTRIES ≤ length es
IsApplyFault es NoMemory = length es < MAX_ENTRIES
IsApplyFault es _ = ⊥

-- where nothing is known of its entries
abbrev pub IsEventFault : ServiceFault → Type 0
IsEventFault NoSuchNamespace = ⊥
IsEventFault TooManySeats = ⊥
IsEventFault _ = Unit {0}

-- where this is the number asked for, and so many were given from the start: which ones were given since lies behind locks
abbrev pub IsCallFault : ℕ → ℕ → ServiceFault → Type 0
IsCallFault first ns NoSuchNamespace = first ≤ ns
IsCallFault first ns TooManySeats = ⊥
IsCallFault first ns _ = ns < MAX_NUMBERS

-- why a namespace isn't asked, where this is its number and so many were given from the start
abbrev pub IsQueryFault : ℕ → ℕ → ServiceFault → Type 0
IsQueryFault first ns NoSuchNamespace = first ≤ ns
IsQueryFault first ns Gone = ns < MAX_NUMBERS
IsQueryFault first ns _ = ⊥

-- why a reservation isn't had, where nothing is known of the depot
abbrev pub IsAdmissionFault : ℕ → AdmitFault → Type 0
IsAdmissionFault reserve (admit.NoRoom slack) = slack < reserve
IsAdmissionFault reserve admit.TooManyNamespaces = Unit {0}
IsAdmissionFault reserve admit.NoMemory = Unit {0}

-- why a namespace isn't retired, where nothing is known of it
abbrev pub IsRetirementFault : RetireFault → Type 0
IsRetirementFault retire.NoSuchNamespace = Unit {0}
IsRetirementFault (retire.Alive processes) = 0 < processes
