-- What went through a pipe in a run (pipe(7)): what each step put in, what the steps took out, and what the replies
-- say of both.

use Rattle.std.specs.Prelude.{◌≡◌, ℕ, suc, ◌⊎◌, List, [], ◌∷◌, ◌++◌, take, map, filter, Option, Some, None, is_some, nat_eq, if◌then◌else◌, Result, Ok, Err, Bool, true, false, ◌≤◌, length, All, ⊤}
use Rattle.std.specs.List.{flat_map}
use Rattle.std.specs.Option.{option_and_then}
use Rattle.pf_machine.specs.Refusals.{◌>>=◌, or_refuse}
use Rattle.pf_base.specs.Limits.{Limits}
use Rattle.pf_machine.specs.Queue.{Segment, Queue, bytes_of, taken}
use Rattle.pf_machine.specs.Numbered.{at}
use Rattle.pf_base.specs.declared.TheConstants.{PIPE_BUF}
use Rattle.pf_machine.specs.Calls.{Transfer, Call, Opening, Moving, Reading, Writing, Bringing}
use Rattle.pf_machine.specs.State.{itself, State, Process, Pipe, End, opening, process, living, ready, end_at}
use Rattle.pf_machine.specs.Transfers.{Tried, tried}
use Rattle.pf_machine.specs.Machine.{call_of, step_of}
use Rattle.pf_machine.specs.Runs.{run_of}
use Rattle.pf_base.specs.declared.errno.Errno.{Errno}
use Rattle.pf_base.specs.declared.errno.Errno.TheVariants.{EINVAL}
use Rattle.pf_base.specs.declared.progress.Crossing.TheVariants as crossings
use Rattle.pf_base.specs.declared.step.Reply.{Reply}
use Rattle.pf_base.specs.declared.step.Reply.TheVariants as replies
use Rattle.pf_base.specs.declared.step.Step.{Step}
use Rattle.pf_base.specs.declared.step.Step.TheVariants as steps

-- The transfer of a step

-- that of a call, if it is one
abbrev pub tried_call : State Segment ℕ → Process ℕ → Call ℕ → Result Tried Errno
tried_call s p (Opening description kept) = Err EINVAL
tried_call s p (Moving transfer) = tried s p transfer

-- that of a step, if it tries one, and if this is not refused
abbrev pub transfer_of : State Segment ℕ → Step → Result Tried Errno
transfer_of s (steps.Read pid fd n) = ready s pid >>= (λ p. tried s p (Reading fd n))
transfer_of s (steps.Write pid fd payload) = ready s pid >>= (λ p. tried s p (Writing fd payload 0))
transfer_of s (steps.Tee pid source sink n nonblock) =
    ready s pid >>= (λ p. tried s p (Bringing crossings.Tee source sink n))
transfer_of s (steps.Splice pid source sink n nonblock) =
    ready s pid >>= (λ p. tried s p (Bringing crossings.Splice source sink n))
transfer_of s (steps.Resume pid) = living s pid >>= (λ p. or_refuse EINVAL p.parked >>= tried_call s p)
transfer_of s _ = Err EINVAL

-- bytes that moved at a pipe, if it was this one
abbrev pub if_at : ℕ → Option ℕ → List ℕ → List ℕ
if_at p None x = []
if_at p (Some q) x = if nat_eq q p then x else []

-- what a transfer put into a pipe, and what it took out of it
abbrev pub put_in : ℕ → Result Tried Errno → List ℕ
put_in p (Ok t) = if_at p t.into t.bytes
put_in p (Err e) = []

abbrev pub taken_out : ℕ → Result Tried Errno → List ℕ
taken_out p (Ok t) = if_at p t.from t.bytes
taken_out p (Err e) = []

-- What the steps put in

-- some bytes that a step put into a pipe, and the place in the list of steps where its call began
pub record Gift : Type 0 where
  pub call : ℕ
  pub pipe : ℕ
  pub bytes : List ℕ

-- some bytes are one gift, none are none
abbrev pub gift : ℕ → ℕ → List ℕ → List Gift
gift k n [] = []
gift k n (b ∷ x) = record { call = k; pipe = n; bytes = b ∷ x } ∷ []

-- what a transfer of a call gave, into whatever pipe
abbrev pub gift_into : ℕ → List ℕ → Option ℕ → List Gift
gift_into k x None = []
gift_into k x (Some n) = gift k n x

abbrev pub gift_of : ℕ → Result Tried Errno → List Gift
gift_of k (Ok t) = gift_into k t.bytes t.into
gift_of k (Err e) = []

-- whether a process waits in a call
abbrev pub in_call : Option (Process ℕ) → Bool
in_call None = false
in_call (Some p) = is_some p.parked

abbrev pub is_parked : State Segment ℕ → ℕ → Bool
is_parked s pid = in_call (process s pid)

-- where the call of a step at place i began; `began` is the place of the call in which each process waits
abbrev pub call_at : (ℕ → ℕ) → ℕ → Step → ℕ
call_at began i (steps.Resume pid) = began pid
call_at began i _ = i

-- the same after the step at place i: who waits then, and didn't before, waits in the call of this step
abbrev pub beginning : State Segment ℕ → (ℕ → ℕ) → ℕ → ℕ → ℕ
beginning s began i pid = if is_parked s pid then began pid else i

-- what the steps from place i on put into pipes
abbrev pub gifts : Limits → State Segment ℕ → (ℕ → ℕ) → ℕ → List Step → List Gift
gifts c s began i [] = []
gifts c s began i (x ∷ xs) =
    gift_of (call_at began i x) (transfer_of s x)
    ++ gifts c (step_of c s x).state (beginning s began i) (suc i) xs

-- in a run from the opening state
abbrev pub given : Limits → List Step → List Gift
given c xs = gifts c opening (λ pid. 0) 0 xs

-- the bytes of a list of pieces, joined
abbrev pub joined : List (List ℕ) → List ℕ
joined pieces = flat_map (λ x. x) pieces

-- what was given to one pipe, and what one call gave
abbrev pub given_to : ℕ → List Gift → List (List ℕ)
given_to n gs = map (λ g. g.bytes) (filter (λ g. nat_eq g.pipe n) gs)

abbrev pub given_by : ℕ → List Gift → List (List ℕ)
given_by k gs = map (λ g. g.bytes) (filter (λ g. nat_eq g.call k) gs)

-- What the steps took out

abbrev pub took_from : Limits → State Segment ℕ → List Step → ℕ → List ℕ
took_from c s [] p = []
took_from c s (x ∷ xs) p = taken_out p (transfer_of s x) ++ took_from c (step_of c s x).state xs p

abbrev pub took : Limits → List Step → ℕ → List ℕ
took c xs p = took_from c opening xs p

-- What the replies say was taken out

-- the end that a descriptor of the process of a pid names, if it names one
abbrev pub end_named : State Segment ℕ → ℕ → ℕ → Option (End Segment ℕ)
end_named s pid fd = option_and_then (λ p. option_and_then (end_at itself s) (at p.descriptors fd)) (process s pid)

-- bytes out of the pipe of an end, if it is this pipe; they may depend on what it holds
abbrev pub out_of : ℕ → Option (End Segment ℕ) → (Queue → List ℕ) → List ℕ
out_of p None x = []
out_of p (Some e) x = if nat_eq e.description.pipe p then x e.pipe.queue else []

-- a read is told the bytes that it took, and a splice how many; these are the first ones of its source. Whoever is told
-- anything else took none
abbrev pub says_taken : ℕ → State Segment ℕ → ℕ → Transfer → Reply → List ℕ
says_taken p s pid (Reading fd n) (replies.Bytes x) = out_of p (end_named s pid fd) (λ q. x)
says_taken p s pid (Bringing crossings.Splice source sink n) (replies.Num k) =
    out_of p (end_named s pid source) (λ q. taken q k)
says_taken p s pid _ _ = []

-- a Resume is told what the call is in which its process waits
abbrev pub says_again : ℕ → State Segment ℕ → ℕ → Option (Call ℕ) → Reply → List ℕ
says_again p s pid (Some (Moving transfer)) reply = says_taken p s pid transfer reply
says_again p s pid _ reply = []

abbrev pub says_out : ℕ → State Segment ℕ → Step → Reply → List ℕ
says_out p s (steps.Read pid fd n) reply = says_taken p s pid (Reading fd n) reply
says_out p s (steps.Splice pid source sink n nonblock) reply =
    says_taken p s pid (Bringing crossings.Splice source sink n) reply
says_out p s (steps.Resume pid) reply = says_again p s pid (call_of s pid) reply
says_out p s _ reply = []

-- exactly these bytes went out of one pipe at a step
abbrev pub Took : State Segment ℕ → Step → List ℕ → Type 0
Took s x y = (n : ℕ) × (taken_out n (transfer_of s x) ≡ y)

-- What the replies say was given

-- a reply, and the place in the list of steps where the call began that is told it
pub record Told : Type 0 where
  pub call : ℕ
  pub reply : Reply

-- a Resume of a process that waits is told for the call in which it waits; any other step begins its own
abbrev pub told_at : State Segment ℕ → (ℕ → ℕ) → ℕ → Step → ℕ
told_at s began i (steps.Resume pid) = beginning s began i pid
told_at s began i _ = i

-- what the steps from place i on are told
abbrev pub tells : Limits → State Segment ℕ → (ℕ → ℕ) → ℕ → List Step → List Told
tells c s began i [] = []
tells c s began i (x ∷ xs) =
    record { call = told_at s began i x; reply = (step_of c s x).reply }
    ∷ tells c (step_of c s x).state (beginning s began i) (suc i) xs

-- in a run from the opening state
abbrev pub told : Limits → List Step → List Told
told c xs = tells c opening (λ pid. 0) 0 xs

-- what one call was told: Parked as often as it waited, and then what ended it
abbrev pub told_to : ℕ → List Told → List Reply
told_to k ts = map (λ t. t.reply) (filter (λ t. nat_eq t.call k) ts)

-- a call that is told this gave so many bytes in all: a number says how many, an error that there were none, and Parked
-- says nothing yet
abbrev pub Counts : ℕ → Reply → Type 0
Counts m (replies.Num n) = m ≡ n
Counts m (replies.Err e) = m ≡ 0
Counts m replies.Parked = ⊤
Counts m _ = ⊥

-- a step that gives bytes, if it isn't refused
abbrev pub gives : Step → Bool
gives (steps.Write pid fd payload) = true
gives (steps.Tee pid source sink n nonblock) = true
gives (steps.Splice pid source sink n nonblock) = true
gives _ = false

-- the step at a place is one that gives
abbrev pub IsGiving : List Step → ℕ → Type 0
IsGiving xs k = (x : Step) × ((at (map Some xs) k ≡ Some x) × (gives x ≡ true))

-- The law

-- what was taken from a pipe, and then what it holds, is what was given to it, in order
abbrev pub IsStream : Limits → List Step → ℕ → Pipe Segment → Type 0
IsStream c xs n p = took c xs n ++ bytes_of p.queue ≡ joined (given_to n (given c xs))

-- what a call gives stands in its order
abbrev pub IsInOrder : List ℕ → List (List ℕ) → Type 0
IsInOrder x pieces = (m : ℕ) × (joined pieces ≡ take m x)

-- it is one piece, or none
abbrev pub IsWhole : List ℕ → List (List ℕ) → Type 0
IsWhole x pieces = (pieces ≡ []) ⊎ (pieces ≡ x ∷ [])

-- the step at a place is a Write of these bytes
abbrev pub IsWrite : List Step → ℕ → List ℕ → Type 0
IsWrite xs k x = (pid : ℕ) × (fd : ℕ) × (at (map Some xs) k ≡ Some (steps.Write pid fd x))

-- in a run from the opening state each pipe at its end is a stream; what a Write gives stands in its order, and what a
-- Write of at most PIPE_BUF bytes gives is one piece or none. The replies say so: in any state a step takes out of each
-- pipe what its reply says, and whoever is told bytes took these; and in the run a Write, a Tee or a Splice gives in
-- all as many bytes as it is told
pub record StreamLaw (c : Limits) (xs : List Step) : Type 0 where
  pub stream : (n : ℕ) (p : Pipe Segment) → at (run_of c opening xs).state.pipes n ≡ Some p → IsStream c xs n p
  pub in_order : (k : ℕ) (x : List ℕ) → IsWrite xs k x → IsInOrder x (given_by k (given c xs))
  pub whole : (k : ℕ) (x : List ℕ) → IsWrite xs k x → length x ≤ PIPE_BUF → IsWhole x (given_by k (given c xs))
  pub taken_told : (s : State Segment ℕ) (x : Step) (n : ℕ)
      → taken_out n (transfer_of s x) ≡ says_out n s x (step_of c s x).reply
  pub bytes_told : (s : State Segment ℕ) (x : Step) (y : List ℕ) → (step_of c s x).reply ≡ replies.Bytes y → Took s x y
  pub given_told : (k : ℕ) → IsGiving xs k
      → All (Counts (length (joined (given_by k (given c xs))))) (told_to k (told c xs))
