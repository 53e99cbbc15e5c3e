-- What an open of a FIFO does to the tables and tells.

use Rattle.std.specs.Prelude.{◌≡◌, ℕ, ◌+◌, ◌-◌, ◌^◌, ◌<◌, ◌≤◌, Bool, not, ◌&&◌, List, [], ◌∷◌, ◌++◌, length, Option}
use Rattle.std.specs.Prelude.{Some}
use Rattle.std.specs.Prelude.{None, nat_eq, if◌then◌else◌, Result, Ok, Err}
use Rattle.std.specs.Map.{lookup}
use Rattle.pf_machine.specs.Refusals.{◌>>◌, refuse_if}
use Rattle.pf_machine.specs.Calls.{Opening}
use Rattle.pf_base.specs.Capacities.{new_capacity, told_as}
use Rattle.pf_base.specs.Permissions.{is_privileged}
use Rattle.pf_machine.specs.Numbered.{change_at, first_free, one_if}
use Rattle.pf_machine.specs.State.{itself, of_living}
use Rattle.pf_machine.specs.Pipes.{is_spent}
use Rattle.pf_machine.specs.Attempts.{again, reopened}
use Rattle.pf_machine.specs.Machine.{call_of}
use Rattle.pf_machine.specs.Opens.{Access, is_waiting}
use Rattle.pf_base.specs.declared.TheConstants.{MAX_DESCRIPTORS}
use Rattle.pf_base.specs.declared.cred.Cred.{Cred}
use Rattle.pf_base.specs.declared.errno.Errno.{Errno}
use Rattle.pf_base.specs.declared.errno.Errno.TheVariants.{ENFILE, ENOMEM}
use Rattle.pf_base.specs.declared.fault.Fault.{Fault}
use Rattle.pf_base.specs.declared.fault.Fault.TheVariants as faults
use Rattle.pf_base.specs.declared.step.Reply.{Reply}
use Rattle.pf_base.specs.declared.step.Reply.TheVariants.{Num, Parked}
use Rattle.pf_limits.specs.UserPages.{UserPages, Charges, charged_to}
use Rattle.pf_fds.specs.Registry.{find}
use Rattle.pf_parked.specs.declared.call.Call.TheVariants.{Open}
use Rattle.pf_pipe.specs.Pipe.{unopened}
use Rattle.pf_tables.specs.declared.tables.opens.Access.{Access as Stored}
use Rattle.pf_tables.specs.Meaning.{Namespace}
use Rattle.pf_tables.specs.Rows.{ProcessRows, DescriptionRows, PipeRows, Key, Process, Description, Pipe, process_in}
use Rattle.pf_tables.specs.Rows.{with_key, description_in}
use Rattle.pf_tables.specs.Tables.{Makes}

-- How a FIFO is opened

abbrev pub access_seen : Stored → Access
access_seen a = record { reads = a.reads; writes = a.writes; nonblock = a.nonblock }

abbrev pub waits : Stored → ℕ → ℕ → Bool
waits a readers writers = is_waiting (access_seen a) readers writers

-- how often the other side of a pipe was opened than that which an end is for
abbrev pub other_opens : Bool → Pipe → ℕ
other_opens reads p = if reads then p.opens.write else p.opens.read

-- the same of the pipe that the description of a key is an end of, 0 where there is none
abbrev pub others_of : Description → Option Pipe → ℕ
others_of d None = 0
others_of d (Some p) = other_opens d.reads p

abbrev pub others_in : PipeRows → Option Description → ℕ
others_in pipes None = 0
others_in pipes (Some d) = others_of d (find pipes d.pipe.slot d.pipe.serial)

abbrev pub others_at : DescriptionRows → PipeRows → Key → ℕ
others_at ds pipes k = others_in pipes (description_in ds k)

-- how often the other side was opened, where an open of it waits
abbrev pub before : Stored → Pipe → Option ℕ
before a p = if waits a p.readers p.writers then Some (other_opens a.reads p) else None

-- a pipe with the ends of one open more
abbrev pub counted : Stored → Pipe → Pipe
counted a p = record p {
  readers = p.readers + one_if a.reads;
  writers = p.writers + one_if a.writes;
  opens = record p.opens {
    read = if a.reads then p.opens.read + 1 else p.opens.read;
    write = if a.writes then p.opens.write + 1 else p.opens.write;
  };
}

-- one end or open more passes the end of no count
pub record IsFew (p : Pipe) : Type 0 where
  pub readers : p.readers < 2 ^ 64 - 1
  pub writers : p.writers < 2 ^ 64 - 1
  pub read_opens : p.opens.read < 2 ^ 64 - 1
  pub write_opens : p.opens.write < 2 ^ 64 - 1

-- the description that it makes
abbrev pub end_of : Stored → Key → Description
end_of a k = record { pipe = k; reads = a.reads; writes = a.writes; nonblocking = a.nonblock }

-- how many ends read the pipe that a FIFO has, none where it has none
abbrev pub readers_of : Option Pipe → ℕ
readers_of None = 0
readers_of (Some p) = p.readers

abbrev pub readers_at : PipeRows → Option Key → ℕ
readers_at pipes None = 0
readers_at pipes (Some k) = readers_of (find pipes k.slot k.serial)

-- nobody reads it, and it is opened for writing alone, with O_NONBLOCK
abbrev pub lacks_readers : Access → ℕ → Bool
lacks_readers a readers = a.writes && not a.reads && a.nonblock && nat_eq readers 0

-- The pipe of a FIFO

-- how many slots it gets that a process makes, or why it gets none
abbrev pub fifo_capacity : UserPages → PipeRows → Cred → Result ℕ Errno
fifo_capacity u pipes cred = do
  refuse_if (is_spent pipes 1) ENFILE
  told_as ENOMEM (new_capacity u.limits (is_privileged cred) (charged_to u cred.uid) u.total)

-- as it is made, with no end yet
abbrev pub unopened_pipe : ℕ → ℕ → ℕ → Pipe
unopened_pipe slots owner file = record {
  ring = record { capacity = slots; segments = [] };
  owner = owner;
  readers = 0;
  writers = 0;
  opens = unopened (Some file);
}

-- the same FIFOs have keys
abbrev pub SameKeys : List (ℕ × Key) → List (ℕ × Key) → Type 0
SameKeys es fs = (n : ℕ) → lookup (nat_eq n) fs ≡ lookup (nat_eq n) es

module _ (u v : UserPages) (pipes pipes' : PipeRows) (es fs : List (ℕ × Key)) (cred : Cred) (file : ℕ) where
  -- one pipe more, with its FIFO's key, and its opener is charged with it
  pub record MakesFifo (k : Key) : Type 0 where
    pub slots : ℕ
    pub may : fifo_capacity u pipes cred ≡ Ok slots
    pub room : u.total + slots ≤ u.limits.reserve
    pub k_is : k.serial ≡ length pipes
    pub stored : pipes' ≡ pipes ++ Some (k.slot, unopened_pipe slots cred.uid file) ∷ []
    pub keys : (n : ℕ) → lookup (nat_eq n) fs ≡ (if nat_eq file n then Some k else lookup (nat_eq n) es)
    pub charged : Charges u v cred.uid slots

  -- nothing has changed, but that the keys may lie otherwise
  pub record KeepsFifos : Type 0 where
    pub pages : v ≡ u
    pub rows : pipes' ≡ pipes
    pub keys : SameKeys es fs

  -- the pipe that it has, which is at this key, or else one that was made; or why there is none
  abbrev pub GetsPipe : Result Key Fault → Option Key → Type 0
  GetsPipe (Ok k) None = MakesFifo k
  GetsPipe (Ok k) (Some j) = (k ≡ j) × KeepsFifos
  GetsPipe (Err (faults.Errno e)) None = (fifo_capacity u pipes cred ≡ Err e) × KeepsFifos
  GetsPipe (Err (faults.Errno e)) (Some j) = ⊥
  GetsPipe (Err faults.NoMemory) key = KeepsFifos

-- Its description

-- a process that has a description at a descriptor, or waits in the open that has made it
abbrev pub taking : ℕ → Option ℕ → Key → Process → Process
taking fd None k p = with_key fd k p
taking fd (Some kept) k p = record p { parked = Some (Open k kept) }

-- what it is told
abbrev pub told_at : ℕ → Option ℕ → Reply
told_at fd None = Num fd
told_at fd (Some kept) = Parked

-- its lowest free descriptor is one
abbrev pub HasFree : ProcessRows → ℕ → Type 0
HasFree ps pid = (p : Process) → process_in ps pid ≡ Ok p → first_free p.descriptors < MAX_DESCRIPTORS

-- one description more, which has one name
pub record Describes (ps ps' : ProcessRows) (ds ds' : DescriptionRows) (pid fd : ℕ) (end : Description)
    (kept : Option ℕ) (reply : Reply) : Type 0 where
  pub k : Key
  pub k_is : k.serial ≡ length ds
  pub described : ds' ≡ ds ++ Some (k.slot, record { value = end; names = 1 }) ∷ []
  pub seated : ps' ≡ change_at (taking fd kept k) ps (pid - 1)
  pub told : reply ≡ told_at fd kept

-- The open in which a process waits, tried again

-- what is left of the open in which a process waits, and told, is what the machine leaves and tells of it
pub record Reopens (old new : Namespace) (pid : ℕ) (reply : Reply) : Type 0 where
  pub n : ℕ
  pub before : ℕ
  pub waits : call_of old.state pid ≡ Some (Opening n before)
  pub makes : Makes old new
      (of_living old.state pid (λ p. Ok (again old.state pid (reopened itself old.state pid p n before)))) reply
