-- What the tables mean to the lone machine, and how their counters are tied to it. Public clauses cite of it what shows a
-- call that waits and a pipe that goes: `call_of`, `made_by`, `pipe_of`.

use Rattle.std.specs.Prelude.{◌≡◌, ℕ, zero, suc, ◌+◌, ◌-◌, ◌*◌, ◌<◌, ◌≤◌, Bool, true, false, not, ◌&&◌, List, [], ◌∷◌}
use Rattle.std.specs.Prelude.{length, map, Option, Some, None, is_some, nat_lt, nat_eq, ⊤, if◌then◌else◌, Result, Ok}
use Rattle.std.specs.Option.{option_map, option_and_then}
use Rattle.std.specs.Map.{lookup}
use Rattle.pf_ring.specs.declared.ring.Window.{Window}
use Rattle.pf_machine.specs.Refusals.{◌>>=◌, ◌>>◌, refuse_if, or_refuse}
use Rattle.pf_machine.specs.FileMap.{Files}
use Rattle.pf_machine.specs.Numbered.{at, put_at, clear_at, change_at, first_free, sum_of, one_if}
use Rattle.pf_machine.specs.State as machine
use Rattle.pf_machine.specs.State.{State}
use Rattle.pf_base.specs.declared.TheConstants.{MAX_PROCESSES, MAX_DESCRIPTORS}
use Rattle.pf_base.specs.declared.errno.Errno.{Errno}
use Rattle.pf_base.specs.declared.errno.Errno.TheVariants.{ESRCH, EBUSY, EBADF}
use Rattle.pf_base.specs.declared.progress.Side.{Side}
use Rattle.pf_base.specs.declared.progress.Side.TheVariants as sides
pub use Rattle.pf_fds.specs.declared.registry.Key.{Key}
pub use Rattle.pf_fds.specs.declared.descriptions.Named.{Named}
use Rattle.pf_fds.specs.declared.marks.Marks.{Marks}
use Rattle.pf_fds.specs.Descriptions.{one_more}
use Rattle.pf_fds.specs.Marks.{is_marked}
use Rattle.pf_fds.specs.Registry.{find}
pub use Rattle.pf_ring.specs.Ring.{Ring}
pub use Rattle.pf_pipe.specs.Pipe.{Opens}
pub use Rattle.pf_pipe.specs.Pipe.{CountedPipe as Pipe}
use Rattle.pf_machine.specs.Calls as calls
pub use Rattle.pf_parked.specs.declared.call.Call.{Call}
use Rattle.pf_parked.specs.declared.call.Call.TheVariants.{Open, Read, Write, Cross}
pub use Rattle.pf_tables.specs.declared.process_table.Process.{Process}
pub use Rattle.pf_tables.specs.declared.tables.Description.{Description}
use Rattle.pf_limits.specs.UserPages.{UserPages}
use Rattle.pf_tables.specs.Meaning.{AreCharged}

-- The rows of the tables: what stands at each number, with the place that a registry keeps it in
abbrev pub ProcessRows : Type 0
ProcessRows = List (Option Process)

abbrev pub DescriptionRows : Type 0
DescriptionRows = List (Option (ℕ × Named Description))

abbrev pub PipeRows : Type 0
PipeRows = List (Option (ℕ × Pipe))

-- One row

-- the process of a pid
abbrev pub process_at : ProcessRows → ℕ → Option Process
process_at ps zero = None
process_at ps (suc i) = at ps i

abbrev pub process_in : ProcessRows → ℕ → Result Process Errno
process_in ps pid = or_refuse ESRCH (process_at ps pid)

-- the same where it waits in no call
abbrev pub awake : Process → Result Process Errno
awake p = do
  refuse_if (is_some p.parked) EBUSY
  Ok p

abbrev pub ready_in : ProcessRows → ℕ → Result Process Errno
ready_in ps pid = process_in ps pid >>= awake

-- the call in which the process of a pid waits
abbrev pub call_in : ProcessRows → ℕ → Option (Call Key)
call_in ps pid = option_and_then (λ p. p.parked) (process_at ps pid)

-- a process whose call is over: the description that an open made gets the lowest free descriptor
abbrev pub over : Option (Call Key) → Process → Process
over (Some (Open description kept)) p =
    record p { descriptors = put_at p.descriptors (first_free p.descriptors) description; parked = None }
over _ p = record p { parked = None }

abbrev pub woken : Process → Process
woken p = over p.parked p

-- a process that waits in an open has a descriptor to come
abbrev pub IsSpare : Process → Type 0
IsSpare p = (description : Key) (kept : ℕ) → p.parked ≡ Some (Open description kept)
    → first_free p.descriptors < MAX_DESCRIPTORS

-- the places of the table
pub record IsSeated (ps : ProcessRows) : Type 0 where
  pub places : length ps ≡ MAX_PROCESSES
  pub spare : (i : ℕ) (p : Process) → at ps i ≡ Some p → IsSpare p

-- whether a process waits in a call
abbrev pub waits : Option Process → Bool
waits None = false
waits (Some p) = is_some p.parked

-- the places, of which those are marked whose processes wait in a call
pub record IsWatched (waiting : Marks) (ps : ProcessRows) : Type 0 where
  pub seated : IsSeated ps
  pub marked : (i : ℕ) → i < MAX_PROCESSES → is_marked waiting i ≡ waits (at ps i)

abbrev pub HasSpare : ProcessRows → ℕ → Type 0
HasSpare ps pid = (p : Process) → process_in ps pid ≡ Ok p → IsSpare p

-- an open may wait where it has a descriptor to come
abbrev pub MayWait : Call Key → Option Process → Type 0
MayWait (Open description kept) (Some p) = first_free p.descriptors < MAX_DESCRIPTORS
MayWait call p = ⊤

-- a process that waits in a call, or in none
abbrev pub with_call : Option (Call Key) → Process → Process
with_call call p = record p { parked = call }

-- the key at a descriptor of what stands in a place
abbrev pub key_at : ℕ → Option Process → Option Key
key_at fd None = None
key_at fd (Some p) = at p.descriptors fd

abbrev pub without_key : ℕ → Option Process → Option Process
without_key fd None = None
without_key fd (Some p) = Some (record p { descriptors = clear_at p.descriptors fd })

abbrev pub with_key : ℕ → Key → Process → Process
with_key fd k p = record p { descriptors = put_at p.descriptors fd k }

abbrev pub with_keys : ℕ → Key → ℕ → Key → Option Process → Option Process
with_keys a j b k None = None
with_keys a j b k (Some p) = Some (record p { descriptors = put_at (put_at p.descriptors a j) b k })

-- the key at a process's descriptor
abbrev pub key_in : ProcessRows → ℕ → ℕ → Result Key Errno
key_in ps pid fd = ready_in ps pid >>= (λ p. or_refuse EBADF (at p.descriptors fd))

-- whether a description is for a side, where one is asked for
abbrev pub has : Option Side → Description → Bool
has None d = true
has (Some sides.Read) d = d.reads
has (Some sides.Write) d = d.writes

-- the description of a key
abbrev pub description_in : DescriptionRows → Key → Option Description
description_in ds k = option_map (λ n. n.value) (find ds k.slot k.serial)

-- the description of the end that a descriptor of a process names, of a side where one is asked for
abbrev pub end_of_row : Option Side → Process → DescriptionRows → ℕ → Result Description Errno
end_of_row side p ds fd = do
  k ← or_refuse EBADF (at p.descriptors fd)
  d ← or_refuse EBADF (description_in ds k)
  refuse_if (not (has side d)) EBADF
  Ok d

-- the same of the process that has a pid and waits in no call
abbrev pub end_in : Option Side → ProcessRows → DescriptionRows → ℕ → ℕ → Result Description Errno
end_in side ps ds pid fd = ready_in ps pid >>= (λ p. end_of_row side p ds fd)

-- a pipe that an end has gone from
abbrev pub with_fewer : Description → Pipe → Pipe
with_fewer d p = record p { readers = p.readers - one_if d.reads; writers = p.writers - one_if d.writes }

-- some description is still an end of it
abbrev pub is_used : Pipe → Bool
is_used p = nat_lt 0 (p.readers + p.writers)

-- what is left of a pipe, and the pipe that is gone
abbrev pub left : Description → Pipe → Option (ℕ × Pipe)
left d p = if is_used (with_fewer d p) then Some (d.pipe.slot, with_fewer d p) else None

abbrev pub gone : Description → Pipe → Option Pipe
gone d p = if is_used (with_fewer d p) then None else Some (with_fewer d p)

-- All rows

-- the lone machine's call, which knows a description by its number
abbrev pub call_of : Call Key → calls.Call ℕ
call_of (Open description kept) = calls.Opening description.serial kept
call_of (Read fd n) = calls.Moving (calls.Reading fd n)
call_of (Write fd write) = calls.Moving (calls.Writing fd write.bytes write.written)
call_of (Cross crossing source sink n) = calls.Moving (calls.Bringing crossing source sink n)

abbrev pub process_of : Process → machine.Process ℕ
process_of p = record {
  cred = p.cred;
  descriptors = map (option_map (λ k. k.serial)) p.descriptors;
  parked = option_map call_of p.parked;
}

abbrev pub description_of : ℕ × Named Description → machine.Description ℕ
description_of e = record {
  pipe = e.1.value.pipe.serial;
  reads = e.1.value.reads;
  writes = e.1.value.writes;
  nonblocking = e.1.value.nonblocking;
}

abbrev pub pipe_with : Ring → ℕ → Opens → machine.Pipe Window
pipe_with ring owner opens = record {
  queue = ring;
  owner = owner;
  file = opens.file;
  read_opens = opens.read;
  write_opens = opens.write;
}

abbrev pub pipe_shown : Pipe → machine.Pipe Window
pipe_shown p = pipe_with p.ring p.owner p.opens

abbrev pub pipe_of : ℕ × Pipe → machine.Pipe Window
pipe_of e = pipe_shown e.1

abbrev pub processes_of : ProcessRows → List (Option (machine.Process ℕ))
processes_of ps = map (option_map process_of) ps

abbrev pub descriptions_of : DescriptionRows → List (Option (machine.Description ℕ))
descriptions_of ds = map (option_map description_of) ds

abbrev pub pipes_of : PipeRows → List (Option (machine.Pipe Window))
pipes_of ps = map (option_map pipe_of) ps

abbrev pub state_of : ProcessRows → DescriptionRows → PipeRows → Files → ℕ → State Window ℕ
state_of ps ds pipes files files_made = record {
  processes = processes_of ps;
  descriptions = descriptions_of ds;
  pipes = pipes_of pipes;
  files = files;
  files_made = files_made;
}

-- Counted afresh over the rows, and over what the code holds in its hand

-- how often a key names the description of a number
abbrev pub names_it : ℕ → Key → ℕ
names_it n k = one_if (nat_eq k.serial n)

-- the key of the description that a parked call has made: an open's
abbrev pub made_by : Option (Call Key) → Option Key
made_by (Some (Open description kept)) = Some description
made_by _ = None

-- all keys of a process: that of its parked open, whose description no descriptor names yet, and those of its
-- descriptors
abbrev pub keys_of : Process → List (Option Key)
keys_of p = made_by p.parked ∷ p.descriptors

-- how many keys of a process name it, and how many of all processes
abbrev pub keys_to : ℕ → Process → ℕ
keys_to n p = sum_of (names_it n) (keys_of p)

abbrev pub named : ProcessRows → ℕ → ℕ
named ps n = sum_of (keys_to n) ps

-- whether a description reads the pipe of a number, and whether it writes it
abbrev pub reads_it : ℕ → Description → ℕ
reads_it n d = one_if (nat_eq d.pipe.serial n && d.reads)

abbrev pub writes_it : ℕ → Description → ℕ
writes_it n d = one_if (nat_eq d.pipe.serial n && d.writes)

abbrev pub read_by : DescriptionRows → ℕ → ℕ
read_by ds n = sum_of (λ e. reads_it n e.1.value) ds

abbrev pub written_by : DescriptionRows → ℕ → ℕ
written_by ds n = sum_of (λ e. writes_it n e.1.value) ds

-- over what is in the hand
abbrev pub held : {X : Type 0} → (X → ℕ) → List X → ℕ
held h [] = 0
held h (x ∷ xs) = h x + held h xs

abbrev pub Each : {X : Type 0} → (X → Type 0) → List X → Type 0
Each P [] = ⊤
Each P (x ∷ xs) = P x × Each P xs

-- an optional thing is in the hand too
abbrev pub holding : {X : Type 0} → Option X → List X → List X
holding None xs = xs
holding (Some x) xs = x ∷ xs

-- Tied

-- a key finds something: what stands at its number stands in its place
abbrev pub Finds : {T : Type 0} → List (Option (ℕ × T)) → Key → Type 0
Finds rows k = option_map (λ e. e.0) (at rows k.serial) ≡ Some k.slot

-- each of a process's keys finds a description
abbrev pub AllFind : List (Option Key) → DescriptionRows → Type 0
AllFind ks ds = (fd : ℕ) (k : Key) → at ks fd ≡ Some k → Finds ds k

-- no description has more names than all processes together have descriptors and parked calls
abbrev pub AreFew : DescriptionRows → Type 0
AreFew ds = (n : ℕ) (e : ℕ × Named Description) → at ds n ≡ Some e → e.1.names ≤ MAX_PROCESSES * (MAX_DESCRIPTORS + 1)

-- a description with one name more, where there is a key for it
abbrev pub with_name : Option Key → DescriptionRows → DescriptionRows
with_name None ds = ds
with_name (Some k) ds = change_at one_more ds k.serial

-- one name more for each of these keys
abbrev pub named_once_more : List (Option Key) → DescriptionRows → DescriptionRows
named_once_more [] ds = ds
named_once_more (k ∷ ks) ds = named_once_more ks (with_name k ds)

-- a description row by how many name it: nothing stands where nothing names it
abbrev pub NamedRow : ℕ → Option (ℕ × Named Description) → Type 0
NamedRow c None = c ≡ 0
NamedRow c (Some e) = (e.1.names ≡ c) × (0 < c)

-- a pipe row by how many read and write it
abbrev pub UsedRow : ℕ → ℕ → Option (ℕ × Pipe) → Type 0
UsedRow r w None = (r ≡ 0) × (w ≡ 0)
UsedRow r w (Some e) = (e.1.readers ≡ r) × (e.1.writers ≡ w) × (0 < r + w)

-- a description is an end of a pipe that stands
abbrev pub IsEnd : PipeRows → Description → Type 0
IsEnd pipes d = Finds pipes d.pipe × (0 < one_if d.reads + one_if d.writes)

-- The counters, with keys in the hand that count as names, and descriptions in the hand that count as ends: what the
-- code has taken out of a table and not yet put down. Between two calls nothing is in the hand.
module _ (keys : List Key) (ends : List Description) (ps : ProcessRows) (ds : DescriptionRows) (pipes : PipeRows) where
  pub record TiedWith : Type 0 where
    pub places : length ps ≡ MAX_PROCESSES
    pub wide : (i : ℕ) (p : Process) → at ps i ≡ Some p → length p.descriptors ≡ MAX_DESCRIPTORS
    pub finds : (i m : ℕ) (p : Process) (k : Key) → at ps i ≡ Some p → at (keys_of p) m ≡ Some k → Finds ds k
    pub in_hand : Each (Finds ds) keys
    pub names : (n : ℕ) → NamedRow (named ps n + held (names_it n) keys) (at ds n)
    pub is_end : (n : ℕ) (e : ℕ × Named Description) → at ds n ≡ Some e → IsEnd pipes e.1.value
    pub ends_in_hand : Each (IsEnd pipes) ends
    pub uses : (n : ℕ) → UsedRow (read_by ds n + held (reads_it n) ends) (written_by ds n + held (writes_it n) ends)
        (at pipes n)

-- nothing in the hand
abbrev pub Tied : ProcessRows → DescriptionRows → PipeRows → Type 0
Tied ps ds pipes = TiedWith [] [] ps ds pipes

-- FIFOs

-- the FIFO's number and the opens of each pipe, at its place
abbrev pub opens_at : ℕ × Pipe → ℕ × Opens
opens_at e = (e.0, e.1.opens)

abbrev pub opens_of : PipeRows → List (Option (ℕ × Opens))
opens_of ps = map (option_map opens_at) ps

-- the FIFO's number alone, at its place
abbrev pub file_at : ℕ × Opens → ℕ × Option ℕ
file_at o = (o.0, o.1.file)

abbrev pub files_of : List (Option (ℕ × Opens)) → List (Option (ℕ × Option ℕ))
files_of opens = map (option_map file_at) opens

-- there are no more opens of a pipe than so many
abbrev pub NoMore : ℕ → ℕ × Opens → Type 0
NoMore drawn o = (o.1.read ≤ drawn) × (o.1.write ≤ drawn)

-- a key is there for the number of each FIFO that a pipe is of, and finds that pipe
pub record AreKeys (fifos : List (ℕ × Key)) (files : List (Option (ℕ × Option ℕ))) : Type 0 where
  pub finds : (file : ℕ) (k : Key) → lookup (nat_eq file) fifos ≡ Some k → at files k.serial ≡ Some (k.slot, Some file)
  pub there : (n place file : ℕ) → at files n ≡ Some (place, Some file)
      → lookup (nat_eq file) fifos ≡ Some (record { slot = place; serial = n })

-- and there are no more opens than descriptions were drawn
pub record AreFifos (fifos : List (ℕ × Key)) (drawn : ℕ) (opens : List (Option (ℕ × Opens))) : Type 0 where
  pub keys : AreKeys fifos (files_of opens)
  pub few : (n : ℕ) (o : ℕ × Opens) → at opens n ≡ Some o → NoMore drawn o

-- the counters are tied, and those of pages are the sums over all pipes
pub record Kept (charges : UserPages) (ps : ProcessRows) (ds : DescriptionRows) (pipes : PipeRows) : Type 0 where
  pub tied : Tied ps ds pipes
  pub charged : AreCharged charges (pipes_of pipes)

-- and the keys of the FIFOs are those of their pipes
pub record Whole (charges : UserPages) (fifos : List (ℕ × Key)) (ps : ProcessRows) (ds : DescriptionRows)
    (pipes : PipeRows) : Type 0 where
  pub kept : Kept charges ps ds pipes
  pub filed : AreFifos fifos (length ds) (opens_of pipes)
