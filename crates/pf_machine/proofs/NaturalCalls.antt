-- What a call does at a state of one's own, the lone machine's call does at what that state means: of the kinds of step
-- that move no bytes, those that draw a name, and those that let something go or on. Of the others the lemma of their
-- own says it, by `call-as`. A slot shows a segment, and a name stands for a number.

use Rattle.std.proofs.Common.{◌≡◌, ℕ, ◌+◌, List, length, Bool, Option, Some, None, Result, Ok, refl, sym, ap, ◌∙◌}
use Rattle.std.specs.Option.{option_map, option_and_then}
use Rattle.std.proofs.lemmas.List.{length-map}
use Rattle.pf_base.specs.Limits.{Limits}
use Rattle.pf_base.specs.declared.errno.Errno.{Errno}
use Rattle.pf_base.specs.declared.errno.Errno.TheVariants.{ESRCH, EINVAL}
use Rattle.pf_base.specs.declared.open_flags.OpenFlags.{OpenFlags}
use Rattle.pf_base.specs.declared.step.Step.TheVariants.{Exit, Pipe, Close, Open, Resume}
use Rattle.pf_machine.specs.Refusals.{◌>>=◌, or_refuse}
use Rattle.pf_machine.specs.Queue.{Segment}
use Rattle.pf_machine.specs.Calls.{Call, Opening}
use Rattle.pf_machine.specs.State.{itself, State, Process, Outcome, process, living, of_living, of_ready}
use Rattle.pf_machine.specs.Processes.{exit}
use Rattle.pf_machine.specs.Descriptors.{close}
use Rattle.pf_machine.specs.Pipes.{pipe}
use Rattle.pf_machine.specs.Attempts.{attempt, reopened, again, resume}
use Rattle.pf_machine.specs.Opens.{open_path, access_of}
use Rattle.pf_machine.specs.Machine.{call, call_of}
use Rattle.pf_machine.specs.Maps.{if_ok, call_as, process_as, description_as, pipe_as, state_as, outcome_as}
use Rattle.pf_machine.proofs.MapLaws.{bind-as}
use Rattle.pf_machine.proofs.Natural.{process-as, living-as, call-as, exit-as, close-as, pipe-as}
use Rattle.pf_machine.proofs.NaturalOpens.{open_path-as}
use Rattle.pf_machine.proofs.NaturalWaits.{reopened-as, again-as}

module _ {X N : Type 0} (shows : X → Segment) (number : N → ℕ) where
  abbrev S : State X N → State Segment ℕ
  S = state_as shows number

  abbrev O : Outcome X N → Outcome Segment ℕ
  O = outcome_as shows number

  module _ (c : Limits) (s : State X N) (pid : ℕ) where
    -- Processes

    pub exit-call : call c (S s) (Exit pid) ≡ if_ok O (of_living s pid (λ p. exit s pid))
    exit-call =
        ap (λ r. r >>= (λ p. exit (S s) pid)) (living-as shows number s pid)
        ∙ bind-as (process_as number) O (living s pid) _ _ (λ p. exit-as shows number s pid)

    -- Descriptors

    pub close-call : (fd : ℕ) → call c (S s) (Close pid fd) ≡ if_ok O (of_ready s pid (λ p. close s pid p fd))
    close-call fd = call-as shows number O s pid _ _ (λ p. close-as shows number s pid p fd)

    -- Pipes

    -- whatever the names are that the numbers drawn get
    pub pipe-call : (r w n : N) → number r ≡ length s.descriptions → number w ≡ length s.descriptions + 1
        → number n ≡ length s.pipes → (nonblock : Bool)
        → call c (S s) (Pipe pid nonblock) ≡ if_ok O (of_ready s pid (λ p. pipe r w n c s pid p nonblock))
    pipe-call r w n first second new nonblock =
        let drawn = length-map s.descriptions (option_map (description_as number)) in
        (λ i. of_ready (S s) pid (λ p. pipe
        ((drawn ∙ sym first) i) ((ap (λ m. m + 1) drawn ∙ sym second) i)
        ((length-map s.pipes (option_map (pipe_as shows)) ∙ sym new) i) c (S s) pid p nonblock))
        ∙ call-as shows number O s pid _ _ (λ p. pipe-as shows number r w n c s pid p nonblock)

    -- Opens

    -- whatever the name is that the description gets, and those of pipes
    pub open-call : (path : List ℕ) (name : N) (of : ℕ → N) → number name ≡ length s.descriptions
        → ((n : ℕ) → number (of n) ≡ n) → (flags : OpenFlags)
        → call c (S s) (Open pid path flags)
        ≡ if_ok O (of_ready s pid (λ p. open_path number name of c s pid p path (access_of flags.0)))
    open-call path name of drawn numbers flags =
        ap (λ m. of_ready (S s) pid (λ p. open_path itself m itself c (S s) pid p path (access_of flags.0)))
        (length-map s.descriptions (option_map (description_as number)) ∙ sym drawn)
        ∙ call-as shows number O s pid _ _ (λ p. open_path-as shows number number itself (λ k. refl) name of itself
        (λ n. sym (numbers n)) c s pid p path (access_of flags.0))

    -- Resume

    -- the call in which a process waits, tried again
    abbrev tries : Process N → Option (Call N) → Result (Outcome Segment ℕ) Errno
    tries p o =
        or_refuse EINVAL (option_map (call_as number) o)
        >>= (λ call. Ok (again (S s) pid (attempt (S s) pid (process_as number p) call)))

    resume-of : (o : Option (Call N)) (own : Process N → Result (Outcome X N) Errno) → call_of s pid ≡ o
        → ((p : Process N) → tries p o ≡ if_ok O (own p)) → call c (S s) (Resume pid) ≡ if_ok O (of_living s pid own)
    resume-of o own is same =
        ap (λ q. or_refuse ESRCH q >>= (λ p. resume (S s) pid p)) (process-as shows number s pid)
        ∙ by_process (process s pid) is
      where
        by_process : (q : Option (Process N)) → option_and_then (λ p. p.parked) q ≡ o
            → (or_refuse ESRCH (option_map (process_as number) q) >>= (λ p. resume (S s) pid p))
            ≡ if_ok O (or_refuse ESRCH q >>= own)
        by_process None is = refl
        by_process (Some p) is = ap (tries p) is ∙ same p

    -- of an open that waits
    pub resume-call : (n : N) (kept : ℕ) → call_of s pid ≡ Some (Opening n kept)
        → call c (S s) (Resume pid)
        ≡ if_ok O (of_living s pid (λ p. Ok (again s pid (reopened number s pid p n kept))))
    resume-call n kept waits =
        resume-of (Some (Opening n kept)) _ waits (λ p.
        ap (λ r. Ok (again (S s) pid r)) (reopened-as shows number number itself (λ k. refl) s pid p n kept)
        ∙ ap Ok (again-as shows number s pid (reopened number s pid p n kept)))
