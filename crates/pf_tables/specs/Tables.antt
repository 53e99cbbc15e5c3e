-- What the calls of the tables do, in terms of the lone machine's state.

use Rattle.std.specs.Prelude.{◌≡◌, ℕ, ◌-◌, ◌<◌, ◌≤◌, ⊤, length, nat_lt, if◌then◌else◌, Bool, true, false, List}
use Rattle.std.specs.Prelude.{Option, Some, None, Result, Ok, Err, nat_le, nat_eq}
use Rattle.std.specs.Map.{lookup}
use Rattle.std.specs.Option.{option_and_then}
use Rattle.pf_machine.specs.Refusals.{◌>>=◌, ◌>>◌, refuse_if, or_refuse}
use Rattle.pf_machine.specs.FileMap.{Files}
use Rattle.pf_machine.specs.Numbered.{at, clear_at, change_at, first_free}
use Rattle.pf_machine.specs.Calls.{Call, Opening, Moving}
use Rattle.pf_machine.specs.State.{itself, State, Process, Outcome, living, of_living, told, done, change_process}
use Rattle.pf_machine.specs.State.{waiting, with_descriptor}
use Rattle.pf_machine.specs.Descriptors.{without_descriptor}
use Rattle.pf_machine.specs.Machine.{call_of}
use Rattle.pf_machine.specs.Processes.{exit}
use Rattle.pf_machine.specs.Sweep.{sweep}
use Rattle.pf_machine.specs.Pipes.{second_free}
use Rattle.pf_base.specs.Capacities.{may_grow, told_as}
use Rattle.pf_base.specs.declared.TheConstants.{MAX_DESCRIPTORS}
use Rattle.pf_base.specs.declared.errno.Errno.{Errno}
use Rattle.pf_base.specs.declared.errno.Errno.TheVariants.{EMFILE, EPERM, EBUSY, EINVAL}
use Rattle.pf_base.specs.declared.fault.Fault.{Fault}
use Rattle.pf_base.specs.declared.fault.Fault.TheVariants as faults
use Rattle.pf_base.specs.declared.step.Reply.{Reply}
use Rattle.pf_base.specs.declared.step.Reply.TheVariants.{Num}
use Rattle.pf_limits.specs.UserPages.{UserPages, charged_to}
use Rattle.pf_frame.specs.Live.{Live}
use Rattle.pf_ring.specs.declared.ring.Window.{Window}
use Rattle.pf_tables.specs.Meaning.{Namespace}
use Rattle.pf_tables.specs.Rows as rows
use Rattle.pf_tables.specs.Rows.{ProcessRows, DescriptionRows, PipeRows, state_of, Tied}
use Rattle.pf_tables.specs.Owns.{Owns}
use Rattle.pf_tables.specs.Recharging.{Recharges}

module _ {X : Type 0} where
  -- the description's number at a descriptor of the process in place i
  abbrev pub descriptor : State X ℕ → ℕ → ℕ → Option ℕ
  descriptor s i fd = option_and_then (λ p. at p.descriptors fd) (at s.processes i)

  -- the process in place i has no descriptor fd
  abbrev pub emptied : State X ℕ → ℕ → ℕ → State X ℕ
  emptied s i fd = record s { processes = change_at (without_descriptor fd) s.processes i }

-- a process whose call is over: the description that an open made gets the lowest free descriptor
abbrev pub over : Option (Call ℕ) → Process ℕ → Process ℕ
over (Some (Opening n kept)) p = waiting None (with_descriptor (first_free p.descriptors) n p)
over _ p = waiting None p

abbrev pub woken : Process ℕ → Process ℕ
woken p = over p.parked p

abbrev pub awoken : {X : Type 0} → State X ℕ → ℕ → State X ℕ
awoken s pid = change_process woken s pid

-- whether the call in which a process waits is an open; or why it waits in none
abbrev pub is_open : Call ℕ → Bool
is_open (Opening n kept) = true
is_open (Moving call) = false

abbrev pub waits_in_open : {X : Type 0} → State X ℕ → ℕ → Result Bool Errno
waits_in_open s pid = do
  p ← living s pid
  call ← or_refuse EINVAL p.parked
  Ok (is_open call)

-- the two lowest free descriptors, or why there are not two
abbrev pub two_free : {N : Type 0} → List (Option N) → Result (ℕ × ℕ) Errno
two_free xs = do
  refuse_if (nat_le MAX_DESCRIPTORS (second_free xs)) EMFILE
  Ok (first_free xs, second_free xs)

-- A call was made that moves no bytes and lets no descriptor go; the end of an exit is one, since its process has none
-- any more. It leaves and is told what the machine's call leaves and is told at the tables' own state. The frames that
-- were the namespace's own still are, and nothing stands that nobody can reach
pub record Makes (old new : Namespace) (call : Result (Outcome Window ℕ) Errno) (reply : Reply) : Type 0 where
  pub is : call ≡ Ok (told new.state reply)
  pub limits : new.limits ≡ old.limits
  pub owned : (f : Live) → Owns f old → Owns f new
  pub swept : new.state ≡ sweep itself new.state

-- or its refusal is the call's; or memory was wanted
abbrev pub Says : Namespace → Namespace → Result Reply Fault → Result (Outcome Window ℕ) Errno → Type 0
Says old new (Ok reply) call = Makes old new call reply
Says old new (Err (faults.Errno e)) call = call ≡ Err e
Says old new (Err faults.NoMemory) call = ⊤

-- what a call is told that only was made
abbrev pub made_reply : Result (Unit {0}) Fault → Result Reply Fault
made_reply (Ok done) = Ok (Num 0)
made_reply (Err fault) = Err fault

-- which pipe went, if one did, by what is shown of each
abbrev pub LetsGo : {A : Type 0} → (ℕ × rows.Pipe → A) → List (Option A) → List (Option A) → Option rows.Pipe → Type 0
LetsGo show old new None = new ≡ old
LetsGo show old new (Some pipe) =
    (n : ℕ) × (place : ℕ) × (at old n ≡ Some (show (place, pipe))) × (new ≡ clear_at old n)

-- A call that lets something go was made: it leaves this state, without what nobody can reach any more. The pipe that
-- went with it, if one did, is handed out, and its slots still have their frames
pub record Leaves (old new : Namespace) (s : State Window ℕ) (pipe : Option rows.Pipe) : Type 0 where
  pub limits : new.limits ≡ old.limits
  pub state : new.state ≡ sweep itself s
  pub gone : LetsGo rows.pipe_of old.state.pipes new.state.pipes pipe

-- the same of a close; or its refusal is the call's
abbrev pub Closes : Namespace → Namespace → Result (Option rows.Pipe) Errno → Result (Outcome Window ℕ) Errno → Type 0
Closes old new (Ok gone) call = (s : State Window ℕ) × (call ≡ Ok (done s 0)) × Leaves old new s gone
Closes old new (Err e) call = call ≡ Err e

-- a process that waited in a transfer waits in no call any more
pub record Woken (old new : Namespace) (pid : ℕ) (call : rows.Call rows.Key) : Type 0 where
  pub waited : call_of old.state pid ≡ Some (rows.call_of call)
  pub moves : rows.made_by (Some call) ≡ None
  pub namespace : new ≡ record old { state = awoken old.state pid }
  pub still : old.state ≡ sweep itself old.state
  pub swept : new.state ≡ sweep itself new.state

-- or it waits on, in an open; or it doesn't wait
abbrev pub Wakes : Namespace → Namespace → ℕ → Result (Option (rows.Call rows.Key)) Errno → Type 0
Wakes old new pid (Ok (Some call)) = Woken old new pid call
Wakes old new pid (Ok None) = (new ≡ old) × (waits_in_open new.state pid ≡ Ok true)
Wakes old new pid (Err e) = (new ≡ old) × (waits_in_open new.state pid ≡ Err e)

-- the process in a place waits in no call, and has none of its first descriptors
pub record IsBare (s : State Window ℕ) (i n : ℕ) : Type 0 where
  pub p : Process ℕ
  pub stands : at s.processes i ≡ Some p
  pub awake : p.parked ≡ None
  pub bare : (fd : ℕ) → fd < n → at p.descriptors fd ≡ None

-- an exit began: who exits waits in no call any more
pub record Begun (old new : Namespace) (pid : ℕ) : Type 0 where
  pub some : 0 < pid
  pub p : Process ℕ
  pub lives : living old.state pid ≡ Ok p
  pub namespace : new ≡ record old { state = awoken old.state pid }
  pub swept : new.state ≡ sweep itself new.state
  pub bare : IsBare new.state (pid - 1) 0

-- or its refusal is the call's
abbrev pub Begins : Namespace → Namespace → ℕ → Result (Unit {0}) Errno → Type 0
Begins old new pid (Ok begun) = Begun old new pid
Begins old new pid (Err e) = of_living old.state pid (λ p. exit old.state pid) ≡ Err e

-- whether a pipe of an owner with so many pages may have so many slots
abbrev pub verdict : UserPages → Bool → rows.Pipe → ℕ → Result (Unit {0}) Errno
verdict u privileged p to =
    if nat_lt p.ring.capacity to
    then told_as EPERM (may_grow u.limits privileged (charged_to u p.owner) u.total p.ring.capacity to)
    else refuse_if (nat_lt to (length p.ring.segments)) EBUSY

-- a pipe has so many slots, and its owner is charged with them: where it grew, all pages are within the reservation; or
-- it has not, and nobody is charged otherwise
pub record Resizes (u v : UserPages) (p q : rows.Pipe) (privileged : Bool) (to : ℕ) : Type 0 where
  pub may : verdict u privileged p to ≡ Ok tt
  pub pipe : q ≡ record p { ring = record { capacity = to; segments = p.ring.segments } }
  pub fits : length p.ring.segments ≤ to
  pub charges : Recharges u v p.owner p.ring.capacity to
  pub room : p.ring.capacity < to → v.total ≤ v.limits.reserve

pub record Refuses (u v : UserPages) (p q : rows.Pipe) : Type 0 where
  pub pipe : q ≡ p
  pub charges : Recharges u v p.owner 0 0

abbrev pub Resizing : UserPages → UserPages → rows.Pipe → rows.Pipe → Bool → ℕ → Result (Unit {0}) Fault → Type 0
Resizing u v p q privileged to (Ok done) = Resizes u v p q privileged to
Resizing u v p q privileged to (Err (faults.Errno e)) = (verdict u privileged p to ≡ Err e) × Refuses u v p q
Resizing u v p q privileged to (Err faults.NoMemory) = (verdict u privileged p to ≡ Ok tt) × Refuses u v p q

-- the rows that are left are tied, and show the state without a descriptor and without what nobody can reach any more
pub record Left (ps : ProcessRows) (ds : DescriptionRows) (pipes : PipeRows) (ps' : ProcessRows) (ds' : DescriptionRows)
    (pipes' : PipeRows) (i fd : ℕ) : Type 0 where
  pub tied : Tied ps' ds' pipes'
  pub state : (files : Files) (files_made : ℕ)
      → state_of ps' ds' pipes' files files_made ≡ sweep itself (emptied (state_of ps ds pipes files files_made) i fd)

-- a FIFO's key is there no more, and the others are
abbrev pub Forgets : Option ℕ → List (ℕ × rows.Key) → List (ℕ × rows.Key) → Type 0
Forgets None old new = new ≡ old
Forgets (Some file) old new =
    (n : ℕ) → lookup (nat_eq n) new ≡ (if nat_eq file n then None else lookup (nat_eq n) old)
