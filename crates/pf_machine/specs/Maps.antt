-- One state as another: other things in the slots, and other names. Code that keeps a state of its own says by such a
-- map what it means.

use Rattle.std.specs.Prelude.{map, List, Option, Result, Ok, Err}
use Rattle.std.specs.Option.{option_map}
use Rattle.pf_base.specs.declared.errno.Errno.{Errno}
use Rattle.pf_machine.specs.Queue.{Slots}
use Rattle.pf_machine.specs.Calls.{Call, Opening, Moving}
use Rattle.pf_machine.specs.Attempts.{Attempt, Finished, Waits}
use Rattle.pf_machine.specs.State.{Process, Description, Pipe, State, Outcome, End}

-- of what is not refused
abbrev pub if_ok : {A B : Type 0} → (A → B) → Result A Errno → Result B Errno
if_ok h (Ok a) = Ok (h a)
if_ok h (Err e) = Err e

-- of each thing that stands
abbrev pub each : {A B : Type 0} → (A → B) → List (Option A) → List (Option B)
each h xs = map (option_map h) xs

-- What slots hold

module _ {X Y : Type 0} (f : X → Y) where
  abbrev pub slots_as : Slots X → Slots Y
  slots_as q = record { capacity = q.capacity; segments = map f q.segments }

  abbrev pub pipe_as : Pipe X → Pipe Y
  pipe_as p = record {
    queue = slots_as p.queue;
    owner = p.owner;
    file = p.file;
    read_opens = p.read_opens;
    write_opens = p.write_opens;
  }

-- Names

module _ {N M : Type 0} (g : N → M) where
  abbrev pub call_as : Call N → Call M
  call_as (Opening n kept) = Opening (g n) kept
  call_as (Moving transfer) = Moving transfer

  abbrev pub process_as : Process N → Process M
  process_as p = record {
    cred = p.cred;
    descriptors = each g p.descriptors;
    parked = option_map call_as p.parked;
  }

  abbrev pub description_as : Description N → Description M
  description_as d = record { pipe = g d.pipe; reads = d.reads; writes = d.writes; nonblocking = d.nonblocking }

-- Both

module _ {X Y : Type 0} (f : X → Y) {N M : Type 0} (g : N → M) where
  abbrev pub state_as : State X N → State Y M
  state_as s = record {
    processes = each (process_as g) s.processes;
    descriptions = each (description_as g) s.descriptions;
    pipes = each (pipe_as f) s.pipes;
    files = s.files;
    files_made = s.files_made;
  }

  abbrev pub outcome_as : Outcome X N → Outcome Y M
  outcome_as o = record { state = state_as o.state; reply = o.reply }

  abbrev pub end_as : End X N → End Y M
  end_as e = record { description = description_as g e.description; pipe = pipe_as f e.pipe }

  abbrev pub attempt_as : Attempt X N → Attempt Y M
  attempt_as (Finished s reply) = Finished (state_as s) reply
  attempt_as (Waits s call) = Waits (state_as s) (call_as g call)
