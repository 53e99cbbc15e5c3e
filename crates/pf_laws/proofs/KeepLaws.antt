-- What changes to single parts of a state keep, each step keeps, and each run.

use Rattle.std.specs.Prelude.{◌≡◌, ℕ, List, [], ◌∷◌, ◌++◌, Bool, Option, Some, None, Result, Ok, Err, nat_lt, length}
use Rattle.pf_base.specs.Limits.{Limits}
use Rattle.pf_machine.specs.FileCalls as calls
use Rattle.pf_machine.specs.Files.{with_files, with_new}
use Rattle.pf_machine.specs.Sweep.{sweep}
use Rattle.pf_machine.specs.Machine.{call, act, step_of}
use Rattle.pf_machine.specs.Runs.{run_of}
use Rattle.pf_machine.specs.FileMap.{Files}
use Rattle.pf_base.specs.declared.cred.Cred.{Cred}
use Rattle.pf_base.specs.declared.meta.File.{File}
use Rattle.pf_machine.specs.Queue.{Segment, Queue, empty}
use Rattle.pf_machine.specs.Numbered.{keep}
use Rattle.pf_machine.specs.Calls.{Transfer}
use Rattle.pf_machine.specs.State.{itself, State, Process, Description, Outcome, change_pipe, with_queue, settle}
use Rattle.pf_machine.specs.Counts.{ends}
use Rattle.pf_machine.specs.Pipes.{new_pipe}
use Rattle.pf_machine.specs.Attempts.{transfer, resume}
use Rattle.pf_machine.specs.Opens.{Access, fifo_pipe, Found, counted, open_path}
use Rattle.pf_base.specs.declared.meta.Kind.{Kind}
use Rattle.pf_base.specs.declared.step.Step.{Step}
use Rattle.pf_base.specs.declared.step.Step.TheVariants as steps
use Rattle.pf_base.specs.declared.errno.Errno.{Errno}
use Rattle.pf_machine.proofs.HoldsLaws.{Holds}
use Rattle.pf_machine.proofs.AttemptLaws.{There, transfer-comes, resume-comes, made, open-comes}
use Rattle.pf_machine.proofs.RunLaws.{run-keeps}
use Rattle.pf_machine.proofs.StepLaws.{Refiled, Still, all-move, step-keeps}

-- changes to single parts of a state that keep a property
pub record Kept (P : State Segment ℕ → Type 0) : Type 0 where
  pub people : (s : State Segment ℕ) (ps : List (Option (Process ℕ))) → P s → P (record s { processes = ps })
  pub drawn : (s : State Segment ℕ) (ds : List (Option (Description ℕ))) → P s → P (record s { descriptions = ds })
  pub held : (s : State Segment ℕ) (n : ℕ) (q : Queue) → P s → P (with_queue s n q)
  pub opens : (s : State Segment ℕ) (a : Access) (n : ℕ) → P s → P (change_pipe (counted a) s n)
  pub fifo : (s : State Segment ℕ) (q : Queue) (owner : ℕ) (f : File) → There s.files f → fifo_pipe s f.number ≡ None → P s → P (record s { pipes = s.pipes ++ Some (new_pipe q owner (Some f.number)) ∷ [] })
  pub piped : (s : State Segment ℕ) (q : Queue) (owner : ℕ) → P s
      → P (record s { pipes = s.pipes ++ Some (new_pipe q owner None) ∷ [] })
  pub fewer : (s : State Segment ℕ) (test : ℕ → Bool) → P s → P (record s { pipes = keep test s.pipes })
  pub made : (s : State Segment ℕ) (c : Cred) (kind : Kind) (path : List ℕ) (mode : ℕ) (files : Files)
      → calls.make kind s.files s.files_made c path mode ≡ Ok files → P s → P (with_new s files)
  pub filed : (s : State Segment ℕ) (c : Cred) (files : Files) → Refiled s.files c files → P s → P (with_files s files)

module _ (P : State Segment ℕ → Type 0) (k : Kept P) (s : State Segment ℕ) (m : P s) where
  abbrev Keeps : Outcome Segment ℕ → Type 0
  Keeps o = P o.state

  transfer-keeps : (pid : ℕ) (p : Process ℕ) (flag : Bool) (call : Transfer) → Holds Keeps (transfer s pid p flag call)
  transfer-keeps pid p flag call =
      transfer-comes s P m k.held p Keeps pid (λ t r h fine. h) (λ t call h may n. k.people t _ h) flag call

  resume-keeps : (pid : ℕ) (p : Process ℕ) → Holds Keeps (resume s pid p)
  resume-keeps pid p =
      resume-comes s P m k.held p Keeps pid (λ t r h. k.people t _ h) (λ t call h may n. k.people t _ h)
      (λ n kept w. k.people s _ m) (λ n kept w. k.people s _ m)

  open-keeps : (c : Limits) (pid : ℕ) (p : Process ℕ) (path : List ℕ) (a : Access)
      → Holds Keeps (open_path itself (length s.descriptions) itself c s pid p path a)
  open-keeps c pid p path a =
      open-comes s Keeps c pid p a (λ x. P x.state) (λ n file e. m)
      (λ f there e slots. k.fifo s (empty slots) p.cred.uid f there e m)
      (λ x h. k.people _ _ (made-keeps x h)) (λ x h kept. k.people _ _ (made-keeps x h)) path
    where
      made-keeps : (x : Found Segment ℕ) → P x.state → P (made a x)
      made-keeps x h = k.opens _ a x.pipe (k.drawn x.state _ h)

  -- Steps

  still : Still s Keeps
  still = record {
    spawned = λ cred. k.people s _ m;
    forked = λ pid p f. k.people s _ m;
    exited = λ pid p l. k.people s _ m;
    duped = λ pid p fd n f e. k.people s _ m;
    closed = λ pid p fd f. k.people s _ m;
    flagged = λ n on. k.drawn s _ m;
    piped = λ pid p nonblock f slots. k.people _ _ (k.drawn _ _ (k.piped s (empty slots) p.cred.uid m));
    sized = λ p fd e is pages. k.held s e.description.pipe _ m;
    looked = λ r fine short. m;
    made = λ c kind path mode files e. k.made s c kind path mode files e m;
    filed = λ c files how. k.filed s c files how m;
    opened = λ c pid p path a f. open-keeps c pid p path a;
  }

  call-keeps : (c : Limits) (x : Step) → Holds Keeps (call c s x)
  call-keeps c (steps.Resume pid) = step-keeps s Keeps still c (steps.Resume pid) (λ p l. resume-keeps pid p)
  call-keeps c x =
      step-keeps s Keeps still c x
      (all-move s Keeps (λ pid p flag call f. transfer-keeps pid p flag call) (λ names. m) x tt)

  pub kept-step : (c : Limits) (x : Step) → P (step_of c s x).state
  kept-step c x = swept (act c s x).state (settled (call c s x) (call-keeps c x))
    where
      settled : (r : Result (Outcome Segment ℕ) Errno) → Holds Keeps r → P (settle s r).state
      settled (Ok o) h = h
      settled (Err e) h = m

      swept : (t : State Segment ℕ) → P t → P (sweep itself t)
      swept t h = k.drawn _ _ (k.fewer t (λ n. nat_lt 0 (ends itself (sweep itself t).descriptions n)) h)

pub kept-run : (P : State Segment ℕ → Type 0) → Kept P → (c : Limits) (s : State Segment ℕ) (xs : List Step) → P s
    → P (run_of c s xs).state
kept-run P k c = run-keeps P c (λ s x m. kept-step P k s m c x)
