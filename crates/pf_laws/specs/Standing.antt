-- Laws of every state that a run reaches from the opening state.

use Rattle.std.specs.Prelude.{◌≡◌, ◌⊎◌, ℕ, ◌+◌, ◌≤◌, ◌&&◌, List, Option, Some, None, nat_eq, nat_lt}
use Rattle.std.specs.Option.{option_and_then}
use Rattle.pf_base.specs.Limits.{Limits}
use Rattle.pf_machine.specs.FileMap.{Path, find}
use Rattle.pf_machine.specs.Queue.{Segment}
use Rattle.pf_machine.specs.Numbered.{at, weight, sum_of, keep, one_if}
use Rattle.pf_machine.specs.Calls.{Call, made_by}
use Rattle.pf_machine.specs.State.{itself, State, Process, Description, Pipe, opening, change_process, waiting}
use Rattle.pf_machine.specs.Counts.{named_in, readers, writers}
use Rattle.pf_machine.specs.Opens.{fifo_pipe}
use Rattle.pf_machine.specs.Machine.{call_of, step_of}
use Rattle.pf_machine.specs.Runs.{run_of}
use Rattle.pf_base.specs.declared.errno.Errno.{Errno}
use Rattle.pf_base.specs.declared.errno.Errno.TheVariants.{EPIPE}
use Rattle.pf_base.specs.declared.meta.File.{File}
use Rattle.pf_base.specs.declared.step.Reply.TheVariants as replies
use Rattle.pf_base.specs.declared.step.Step.{Step}
use Rattle.pf_base.specs.declared.step.Step.TheVariants as steps

-- the state to which a list of steps leads
abbrev pub reached : Limits → List Step → State Segment ℕ
reached c xs = (run_of c opening xs).state

-- FIFOs

-- a FIFO has one pipe at most: two pipes of one FIFO's number are one, and an open finds it
pub record OneFifoEach (s : State Segment ℕ) : Type 0 where
  pub one : (m n file : ℕ) (p q : Pipe Segment) → at s.pipes m ≡ Some p → at s.pipes n ≡ Some q
      → p.file ≡ Some file → q.file ≡ Some file → m ≡ n
  pub found : (n file : ℕ) (p : Pipe Segment) → at s.pipes n ≡ Some p → p.file ≡ Some file → fifo_pipe s file ≡ Some n

-- no two paths have files of one number; and no file, and no pipe of a FIFO, has the number that the next file gets. So a
-- FIFO that is made, also under a name that another had, has no pipe until it is opened
pub record NumbersApart (s : State Segment ℕ) : Type 0 where
  pub one : (p q : Path) (f g : File) → find p s.files ≡ Some f → find q s.files ≡ Some g → f.number ≡ g.number → p ≡ q
  pub drawn : (p : Path) (f : File) → find p s.files ≡ Some f → f.number ≤ s.files_made
  pub fresh : fifo_pipe s (s.files_made + 1) ≡ None

-- Ends

-- whether a call waits to open the description of a number, as 0 or 1: a parked open has made one
abbrev pub opens : ℕ → Option (Call ℕ) → ℕ
opens n call = weight (λ m. one_if (nat_eq m n)) (made_by call)

-- how many descriptors of all processes name a description, and how many parked opens have made it
abbrev pub held : List (Option (Process ℕ)) → ℕ → ℕ
held ps n = sum_of (λ p. named_in itself n p.descriptors) ps

abbrev pub opening_it : List (Option (Process ℕ)) → ℕ → ℕ
opening_it ps n = sum_of (λ p. opens n p.parked) ps

-- the number that the description of a parked open has, 0 of any other call
abbrev pub of_open : (Description ℕ → ℕ) → List (Option (Description ℕ)) → Option (Call ℕ) → ℕ
of_open h ds call = weight h (option_and_then (at ds) (made_by call))

-- a sum over the live descriptions, which some descriptor names, and over the opens that are parked
abbrev pub apart_count : (Description ℕ → ℕ) → State Segment ℕ → ℕ
apart_count h s =
    sum_of h (keep (λ n. nat_lt 0 (held s.processes n)) s.descriptions)
    + sum_of (λ p. of_open h s.descriptions p.parked) s.processes

-- 1 of a description that reads the pipe of a number, and 1 of one that writes it
abbrev pub reads_it : ℕ → Description ℕ → ℕ
reads_it p d = one_if (nat_eq d.pipe p && d.reads)

abbrev pub writes_it : ℕ → Description ℕ → ℕ
writes_it p d = one_if (nat_eq d.pipe p && d.writes)

-- who reads and who writes a pipe, as fifo(7) has it: live descriptions, and parked opens for that side. A description
-- that a parked open has made is named by no descriptor, and by one parked call only
pub record EndsApart (s : State Segment ℕ) : Type 0 where
  pub reading : (p : ℕ) → readers itself s p ≡ apart_count (reads_it p) s
  pub writing : (p : ℕ) → writers itself s p ≡ apart_count (writes_it p) s
  pub own : (n : ℕ) → (opening_it s.processes n ≡ 0) ⊎ ((opening_it s.processes n ≡ 1) × (held s.processes n ≡ 0))

-- Refusals

-- what a Resume leaves that is told an error, by the call in which its process waits. In none: it is refused, and the
-- state is as it was. In one: the error is the reply to that call, EPIPE alone. The call is over, and nothing else has
-- changed
abbrev pub AfterResume : State Segment ℕ → ℕ → Errno → State Segment ℕ → Option (Call ℕ) → Type 0
AfterResume old pid e new None = new ≡ old
AfterResume old pid e new (Some call) = (e ≡ EPIPE) × (new ≡ change_process (waiting None) old pid)

-- what any step leaves that is told an error: if it is no Resume, the state as it was
abbrev pub AfterError : State Segment ℕ → Step → Errno → State Segment ℕ → Type 0
AfterError old (steps.Resume pid) e new = AfterResume old pid e new (call_of old pid)
AfterError old _ e new = new ≡ old

-- the next step, whichever it is, leaves that where it is told an error; its sweep takes nothing
abbrev pub RefusalsChangeNothing : Limits → State Segment ℕ → Type 0
RefusalsChangeNothing c s =
    (step : Step) (e : Errno) → (step_of c s step).reply ≡ replies.Err e → AfterError s step e (step_of c s step).state
