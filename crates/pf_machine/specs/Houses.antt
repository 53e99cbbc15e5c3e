-- Namespaces that come and go over shared frames: what each event is answered, and what it does. The profile's own; no
-- standard speaks of it. A namespace in a house is its lone machine: nothing here lets one see another, but for the
-- frames that nobody has reserved, which an admission is told of.

use Rattle.std.specs.Prelude.{◌≡◌, ℕ, ◌-◌, ◌⊎◌, Bool, true, nat_lt, nat_eq, if◌then◌else◌, is_some}
use Rattle.std.specs.Prelude.{List, [], ◌∷◌, ◌++◌, length, Option, Some, None}
use Rattle.pf_base.specs.declared.TheConstants.{MAX_NAMESPACES, MAX_NUMBERS}
use Rattle.pf_base.specs.declared.admission.AdmitFault.{AdmitFault}
use Rattle.pf_base.specs.declared.admission.AdmitFault.TheVariants as admission
use Rattle.pf_base.specs.declared.admission.RetireFault.{RetireFault}
use Rattle.pf_base.specs.declared.admission.RetireFault.TheVariants.{NoSuchNamespace, Alive}
use Rattle.pf_base.specs.declared.admission.EventAnswer.{EventAnswer}
use Rattle.pf_base.specs.declared.admission.EventAnswer.TheVariants as told
use Rattle.pf_base.specs.declared.step.Answer.{Answer}
use Rattle.pf_base.specs.declared.step.Answer.TheVariants.{Done, NoMemory}
use Rattle.pf_base.specs.declared.step.Reply.{Reply}
use Rattle.pf_base.specs.declared.step.Step.{Step}
use Rattle.pf_base.specs.Limits.{Limits}
use Rattle.pf_machine.specs.Events.{kept, replies}
use Rattle.pf_machine.specs.Machine.{step_of, may_want_memory}
use Rattle.pf_machine.specs.Numbered.{at, put_at, clear_at, sum_of}
use Rattle.pf_machine.specs.Processes.{alive}
use Rattle.pf_machine.specs.Queue.{Segment}
use Rattle.pf_machine.specs.Runs.{run_of, lone}
use Rattle.pf_machine.specs.State.{State, opening}

-- a namespace by itself: its limits, and the lone machine's state that it is in
pub record Guest : Type 0 where
  pub limits : Limits
  pub state : State Segment ℕ

-- a house: how many frames there are, and a place for each number of a namespace that was ever given, with nothing in
-- it where that namespace is retired. The next number to give is the length
pub record House : Type 0 where
  pub frames : ℕ
  pub guests : List (Option Guest)

-- an event: a step of the namespace of a number, the admission of one with these limits, or a retirement
pub data Event : Type 0 where
  Stepping : (ns : ℕ) (step : Step) → Event
  Admitting : (limits : Limits) → Event
  Retiring : (ns : ℕ) → Event

-- a namespace lives from its admission to its retirement
abbrev pub lives : House → ℕ → Bool
lives h n = is_some (at h.guests n)

-- how many live, and how many numbers are given
abbrev pub number_living : House → ℕ
number_living h = sum_of (λ g. 1) h.guests

abbrev pub given : House → ℕ
given h = length h.guests

-- the frames that those who live have reserved, and the slack: how many are left
abbrev pub reserved : House → ℕ
reserved h = sum_of (λ g. g.limits.reserve) h.guests

abbrev pub slack : House → ℕ
slack h = h.frames - reserved h

-- a namespace of these limits that nothing has happened to
abbrev pub newcomer : Limits → Guest
newcomer limits = record { limits = limits; state = opening }

-- Events, where memory never runs out

-- the house that an event leaves, and its answer
pub record Turn : Type 0 where
  pub house : House
  pub answer : EventAnswer

-- a step of whoever lives under a number; nobody has nothing done for it
abbrev pub step_turn : House → ℕ → Step → Option Guest → Turn
step_turn h n step None = record { house = h; answer = told.Gone }
step_turn h n step (Some g) =
    let made = step_of g.limits g.state step in
    record {
      house = record h { guests = put_at h.guests n (record { limits = g.limits; state = made.state }) };
      answer = told.Answer (Done made.reply);
    }

-- why one more of this reservation isn't admitted, if it isn't: too many live, or were given a number; then, too little
-- slack
abbrev pub admit_fault : House → ℕ → Option AdmitFault
admit_fault h reserve =
    if nat_lt (number_living h) MAX_NAMESPACES
    then (if nat_lt (given h) MAX_NUMBERS
    then (if nat_lt (slack h) reserve then Some (admission.NoRoom (slack h)) else None)
    else Some admission.TooManyNamespaces)
    else Some admission.TooManyNamespaces

-- one more, under the next number
abbrev pub admit_turn : House → Limits → Option AdmitFault → Turn
admit_turn h limits None = record {
  house = record h { guests = h.guests ++ Some (newcomer limits) ∷ [] };
  answer = told.Admitted (given h);
}
admit_turn h limits (Some fault) = record { house = h; answer = told.NotAdmitted fault }

-- why whoever lives under a number isn't retired, if it isn't: nobody does; then, it has processes
abbrev pub retire_fault : Option Guest → Option RetireFault
retire_fault None = Some NoSuchNamespace
retire_fault (Some g) = if nat_lt 0 (alive g.state) then Some (Alive (alive g.state)) else None

-- one less: its number isn't given again
abbrev pub retire_turn : House → ℕ → Option RetireFault → Turn
retire_turn h n None = record { house = record h { guests = clear_at h.guests n }; answer = told.Retired }
retire_turn h n (Some fault) = record { house = h; answer = told.NotRetired fault }

abbrev pub turn_of : House → Event → Turn
turn_of h (Stepping n step) = step_turn h n step (at h.guests n)
turn_of h (Admitting limits) = admit_turn h limits (admit_fault h limits.reserve)
turn_of h (Retiring n) = retire_turn h n (retire_fault (at h.guests n))

-- and all of a list, in turn
abbrev pub turns_of : House → List Event → List EventAnswer
turns_of h [] = []
turns_of h (e ∷ es) = (turn_of h e).answer ∷ turns_of (turn_of h e).house es

-- Events, where memory may be wanted

-- who lives may want memory for a step
abbrev pub MayWant : Option Guest → Step → Type 0
MayWant None step = ⊥
MayWant (Some g) step = may_want_memory g.limits g.state step ≡ true

-- the answer says that memory was wanted, and the event may want it: such a step of who lives, or an admission that
-- nothing else stands against
abbrev pub Wants : House → Event → EventAnswer → Type 0
Wants h (Stepping n step) answer = (answer ≡ told.Answer NoMemory) × MayWant (at h.guests n) step
Wants h (Admitting limits) answer =
    (answer ≡ told.NotAdmitted admission.NoMemory) × (admit_fault h limits.reserve ≡ None)
Wants h (Retiring n) answer = ⊥

-- an event is answered as where memory never runs out, and does the same; or memory was wanted, and nothing has changed
pub record Happens (old : House) (event : Event) (answer : EventAnswer) (new : House) : Type 0 where
  pub turn : (◌≡◌ {A = Turn} (record { house = new; answer = answer }) (turn_of old event))
      ⊎ (Wants old event answer × (new ≡ old))

-- events happen in turn, each in the house that those before it left
abbrev pub Happen : House → List Event → List EventAnswer → House → Type 0
Happen old [] [] new = new ≡ old
Happen old (e ∷ es) (a ∷ answers) new = (mid : House) × Happens old e a mid × Happen mid es answers new
Happen old [] (a ∷ answers) new = ⊥
Happen old (e ∷ es) [] new = ⊥

-- What one namespace is told of it

-- the steps that were answered while their namespaces lived
abbrev pub step_in : Event → EventAnswer → List (ℕ × Step) → List (ℕ × Step)
step_in (Stepping n step) (told.Answer answer) rest = (n, step) ∷ rest
step_in (Stepping n step) told.Gone rest = rest
step_in (Stepping n step) (told.Admitted m) rest = rest
step_in (Stepping n step) (told.NotAdmitted fault) rest = rest
step_in (Stepping n step) told.Retired rest = rest
step_in (Stepping n step) (told.NotRetired fault) rest = rest
step_in (Admitting limits) answer rest = rest
step_in (Retiring n) answer rest = rest

abbrev pub answer_in : Event → EventAnswer → List Answer → List Answer
answer_in (Stepping n step) (told.Answer answer) rest = answer ∷ rest
answer_in (Stepping n step) told.Gone rest = rest
answer_in (Stepping n step) (told.Admitted m) rest = rest
answer_in (Stepping n step) (told.NotAdmitted fault) rest = rest
answer_in (Stepping n step) told.Retired rest = rest
answer_in (Stepping n step) (told.NotRetired fault) rest = rest
answer_in (Admitting limits) answer rest = rest
answer_in (Retiring n) answer rest = rest

abbrev pub steps_in : List Event → List EventAnswer → List (ℕ × Step)
steps_in [] answers = []
steps_in (e ∷ es) [] = []
steps_in (e ∷ es) (a ∷ answers) = step_in e a (steps_in es answers)

-- and their answers
abbrev pub answers_in : List Event → List EventAnswer → List Answer
answers_in [] answers = []
answers_in (e ∷ es) [] = []
answers_in (e ∷ es) (a ∷ answers) = answer_in e a (answers_in es answers)

-- of these, the steps of n but for those that memory was wanted for, and the replies to them
abbrev pub kept_in : List Event → List EventAnswer → ℕ → List Step
kept_in events answers n = kept (steps_in events answers) (answers_in events answers) n

abbrev pub replies_in : List Event → List EventAnswer → ℕ → List Reply
replies_in events answers n = replies (steps_in events answers) (answers_in events answers) n

-- the namespace that an event begins under the number n, where it does
abbrev pub begun_by : Event → EventAnswer → ℕ → Option Guest → Option Guest
begun_by (Admitting limits) (told.Admitted m) n rest = if nat_eq m n then Some (newcomer limits) else rest
begun_by (Admitting limits) (told.Answer answer) n rest = rest
begun_by (Admitting limits) told.Gone n rest = rest
begun_by (Admitting limits) (told.NotAdmitted fault) n rest = rest
begun_by (Admitting limits) told.Retired n rest = rest
begun_by (Admitting limits) (told.NotRetired fault) n rest = rest
begun_by (Stepping m step) answer n rest = rest
begun_by (Retiring m) answer n rest = rest

abbrev pub begun_in : List Event → List EventAnswer → ℕ → Option Guest
begun_in [] answers n = None
begun_in (e ∷ es) [] n = None
begun_in (e ∷ es) (a ∷ answers) n = begun_by e a n (begun_in es answers n)

-- how n begins: as it lives in the house, or else where it is admitted, with those limits at the opening state. A
-- number is given once
abbrev pub begun : Option Guest → List Event → List EventAnswer → ℕ → Option Guest
begun (Some g) events answers n = Some g
begun None events answers n = begun_in events answers n

-- where n lives at the end, it is this
abbrev pub IsLeft : Option Guest → Guest → Type 0
IsLeft None end = Unit {0}
IsLeft (Some g) end = g ≡ end

-- who began so was told, from its admission to its retirement, what its lone machine is told on its own kept steps; and
-- where it lives at the end, it is in the state where that run ended
pub record IsOwn (g : Guest) (end : Option Guest) (steps : List Step) (told : List Reply) : Type 0 where
  pub replies : told ≡ (run_of g.limits g.state steps).replies
  pub left : IsLeft end (record { limits = g.limits; state = (run_of g.limits g.state steps).state })

-- all that begin are told so
abbrev pub AreOwn : House → List Event → List EventAnswer → House → Type 0
AreOwn old events answers new = (n : ℕ) (g : Guest) → begun (at old.guests n) events answers n ≡ Some g →
    IsOwn g (at new.guests n) (kept_in events answers n) (replies_in events answers n)

-- the isolation theorem, of namespaces that come and go: who begins at its opening state, which is who is admitted too, is
-- told from its admission to its retirement what its lone machine is told
abbrev pub AreAloneIn : House → List Event → List EventAnswer → Type 0
AreAloneIn old events answers = (n : ℕ) (g : Guest) → begun (at old.guests n) events answers n ≡ Some g →
    g.state ≡ opening → replies_in events answers n ≡ lone g.limits (kept_in events answers n)
