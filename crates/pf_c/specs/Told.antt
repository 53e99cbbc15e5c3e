-- What a step from C does to a hub, and what C is told.

use Rattle.std.specs.Prelude.{◌≡◌, ◌≢◌, ℕ, ℤ, Bool, true, false, nat_le, List, [], ◌∷◌, length, take, min}
use Rattle.std.specs.Prelude.{Option, Some, None}
use Rattle.pf_base.specs.declared.TheConstants.{BYTES_IN_PLACE}
use Rattle.pf_base.specs.declared.open_flags.OpenFlags.{OpenFlags}
use Rattle.pf_base.specs.declared.step.Answer.{Answer}
use Rattle.pf_base.specs.declared.step.Answer.TheVariants.{Done, NoMemory}
use Rattle.pf_base.specs.declared.step.Reply.{Reply}
use Rattle.pf_base.specs.declared.step.Reply.TheVariants.{Fds, Bytes, Names}
use Rattle.pf_base.specs.declared.step.Step.{Step}
use Rattle.pf_machine.specs.Machine.{Answers, may_want_memory}
use Rattle.pf_machine.specs.Numbered.{at}
use Rattle.pf_frame.specs.Bytes.{filled}
use Rattle.pf_hub.specs.Covered.{IsCovered}
use Rattle.pf_hub.specs.Tenants.{Lives, is_living, limits_at, state_at, frames_in}
use Rattle.pf_c.specs.Codes.{code_of_answer}
use Rattle.pf_c.specs.Rows.{Held}

-- a step of namespace n was made: its reply and its state are the lone machine's, and every other namespace is as it
-- was
pub record Made (old new : Held) (n : ℕ) (step : Step) (reply : Reply) : Type 0 where
  pub lived : Lives old.world n
  pub lives : Lives new.world n
  pub number : length new.world.tenants ≡ length old.world.tenants
  pub frames : frames_in new.world ≡ frames_in old.world
  pub limits : limits_at new.world n ≡ limits_at old.world n
  pub answers : Answers (limits_at old.world n) (Done reply) (state_at old.world n) step (state_at new.world n)
  pub others : (m : ℕ) → m ≢ n → at new.world.tenants m ≡ at old.world.tenants m
  pub allocators : new.allocators ≡ old.allocators
  pub covered : IsCovered new.world

-- a step of namespace n may want memory, or what the call copies of the host's memory doesn't fit in place
abbrev pub Needs : Held → ℕ → Step → Bool → Type 0
Needs old n step fits =
    may_want_memory (limits_at old.world n) (state_at old.world n) step ≡ false → fits ≡ false

-- or memory was wanted, and nothing has changed. It comes of no step that needs none, where what is copied fits in
-- place
pub record Wanted (old new : Held) (n : ℕ) (step : Step) (fits : Bool) : Type 0 where
  pub lived : Lives old.world n
  pub needed : Needs old n step fits
  pub same : new ≡ old

-- or there is no such namespace, and nothing has changed
pub record Missing (old new : Held) (n : ℕ) : Type 0 where
  pub missing : is_living old.world n ≡ false
  pub same : new ≡ old

abbrev pub Answered : Held → Held → ℕ → Step → Bool → Option Answer → Type 0
Answered old new n step fits (Some (Done reply)) = Made old new n step reply
Answered old new n step fits (Some NoMemory) = Wanted old new n step fits
Answered old new n step fits None = Missing old new n

-- of a handle: a shut one has no namespace, and stays shut; an open one stays open
abbrev pub IsAnswered : Option Held → Option Held → ℕ → Step → Bool → Option Answer → Type 0
IsAnswered (Some old) (Some new) n step fits answer = Answered old new n step fits answer
IsAnswered (Some old) None n step fits answer = ⊥
IsAnswered None (Some new) n step fits answer = ⊥
IsAnswered None None n step fits answer = answer ≡ None

-- what C is told of a step
pub record Told (old new : Option Held) (n : ℕ) (step : Step) (fits : Bool) (code : ℤ) : Type 0 where
  pub answer : Option Answer
  pub answered : IsAnswered old new n step fits answer
  pub says : code ≡ code_of_answer answer

-- bytes of the host's that are few enough to be copied in place, without memory of the heap
abbrev pub fits_in_place : List ℕ → Bool
fits_in_place bytes = nat_le (length bytes) BYTES_IN_PLACE

-- a process has its groups in memory of the heap, where it has any
abbrev pub has_none : List ℕ → Bool
has_none [] = true
has_none _ = false

-- What stands in the host's memory then

-- the bytes of an answer
abbrev pub bytes_of : Option Answer → List ℕ
bytes_of (Some (Done (Bytes bytes))) = bytes
bytes_of (Some (Done (Names names))) = names
bytes_of _ = []

-- the first of them, as many as the host's buffer has room for, at the front of that, and the rest of it as it was
pub record Filled (old new : Option Held) (n : ℕ) (step : Step) (fits : Bool) (code : ℤ)
    (before after : List ℕ) : Type 0 where
  pub answer : Option Answer
  pub answered : IsAnswered old new n step fits answer
  pub says : code ≡ code_of_answer answer
  pub bytes : after ≡ filled 0 (take (min (length (bytes_of answer)) (length before)) (bytes_of answer)) before

-- the descriptors of an answer, the one for reading first
abbrev pub fds_of : Option Answer → Option (ℕ × ℕ)
fds_of (Some (Done (Fds reading writing))) = Some (reading, writing)
fds_of _ = None

-- what stands in the host's pair then: these, or what stood there
abbrev pub fds_or : Option (ℕ × ℕ) → List ℕ → List ℕ
fds_or (Some fds) before = fds.0 ∷ fds.1 ∷ []
fds_or None before = before

pub record Paired (old new : Option Held) (n : ℕ) (step : Step) (code : ℤ) (before after : List ℕ) : Type 0 where
  pub answer : Option Answer
  pub answered : IsAnswered old new n step true answer
  pub says : code ≡ code_of_answer answer
  pub fds : after ≡ fds_or (fds_of answer) before

-- how a FIFO is opened, as C says it
abbrev pub flags_of : ℕ → OpenFlags
flags_of n = record { 0 = n }
