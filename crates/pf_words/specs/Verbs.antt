-- The calls of a script: what a verb and the words behind it stand for, and how a step is written.

use Rattle.std.specs.Prelude.{ℕ, Bool, List, [], ◌∷◌, codes, bytes_eq, Option, Some, None, Result, Ok, Err}
use Rattle.std.specs.Prelude.{if◌then◌else◌}
use Rattle.pf_words.specs.declared.cause.Cause.{Cause}
use Rattle.pf_words.specs.declared.cause.Cause.TheVariants as causes
use Rattle.pf_base.specs.declared.step.Step.{Step}
use Rattle.pf_base.specs.declared.step.Step.TheVariants as steps
use Rattle.pf_base.specs.declared.open_flags.OpenFlags.{OpenFlags}
use Rattle.pf_words.specs.Arguments.{◌>>=◌, u32_at, octal_at, groups_at, flag_at, switch_at, flags_at, bytes_at}
use Rattle.pf_words.specs.Arguments.{pid_of, descriptor_of, sized_of, crossing_of, named_of, moded_of}

-- Verbs whose words no other verb has

unfoldable pub spawn_with : List ℕ → List ℕ → List ℕ → Option (List ℕ) → Result Step Cause
spawn_with uid gid umask groups = do
  u ← u32_at uid
  g ← u32_at gid
  m ← octal_at umask
  gs ← groups_at groups
  Ok (steps.Spawn u g m gs)

-- spawn UID GID UMASK [GROUP,GROUP,..]
unfoldable pub spawn_of : List (List ℕ) → Result Step Cause
spawn_of (uid ∷ gid ∷ umask ∷ []) = spawn_with uid gid umask None
spawn_of (uid ∷ gid ∷ umask ∷ groups ∷ []) = spawn_with uid gid umask (Some groups)
spawn_of _ = Err causes.WrongWords

unfoldable pub pipe_with : List ℕ → Option (List ℕ) → Result Step Cause
pipe_with pid flag = do
  p ← u32_at pid
  n ← flag_at flag
  Ok (steps.Pipe p n)

-- pipe PID [n]
unfoldable pub pipe_of : List (List ℕ) → Result Step Cause
pipe_of (pid ∷ []) = pipe_with pid None
pipe_of (pid ∷ flag ∷ []) = pipe_with pid (Some flag)
pipe_of _ = Err causes.WrongWords

unfoldable pub nonblock_with : List ℕ → List ℕ → List ℕ → Result Step Cause
nonblock_with pid fd switch = do
  p ← u32_at pid
  d ← u32_at fd
  b ← switch_at switch
  Ok (steps.SetNonblock p d b)

-- nonblock PID FD on|off
unfoldable pub nonblock_of : List (List ℕ) → Result Step Cause
nonblock_of (pid ∷ fd ∷ switch ∷ []) = nonblock_with pid fd switch
nonblock_of _ = Err causes.WrongWords

unfoldable pub write_with : List ℕ → List ℕ → List ℕ → Result Step Cause
write_with pid fd data_word = do
  p ← u32_at pid
  d ← u32_at fd
  bytes ← bytes_at data_word
  Ok (steps.Write p d bytes)

-- write PID FD DATA
unfoldable pub write_of : List (List ℕ) → Result Step Cause
write_of (pid ∷ fd ∷ data_word ∷ []) = write_with pid fd data_word
write_of _ = Err causes.WrongWords

unfoldable pub open_with : List ℕ → List ℕ → List ℕ → Result Step Cause
open_with pid path flags = do
  p ← u32_at pid
  f ← flags_at flags
  Ok (steps.Open p path f)

-- open PID PATH FLAGS
unfoldable pub open_of : List (List ℕ) → Result Step Cause
open_of (pid ∷ path ∷ flags ∷ []) = open_with pid path flags
open_of _ = Err causes.WrongWords

-- The table of verbs: a line has a verb's word, how the words behind it are read, and the step. It is in groups, one
-- after the other.

-- the step that is made of what words say
abbrev pub made : {A : Type 0} → (A → Step) → Result A Cause → Result Step Cause
made step (Ok said) = Ok (step said)
made step (Err cause) = Err cause

unfoldable pub file_call : List ℕ → List (List ℕ) → Result Step Cause
file_call verb words =
    if bytes_eq verb (codes "mkdir") then made (λ a. steps.Mkdir a.pid a.path a.mode) (moded_of words)
    else if bytes_eq verb (codes "mkfifo") then made (λ a. steps.Mkfifo a.pid a.path a.mode) (moded_of words)
    else if bytes_eq verb (codes "chmod") then made (λ a. steps.Chmod a.pid a.path a.mode) (moded_of words)
    else if bytes_eq verb (codes "unlink") then made (λ a. steps.Unlink a.pid a.path) (named_of words)
    else if bytes_eq verb (codes "rmdir") then made (λ a. steps.Rmdir a.pid a.path) (named_of words)
    else if bytes_eq verb (codes "stat") then made (λ a. steps.Stat a.pid a.path) (named_of words)
    else if bytes_eq verb (codes "list") then made (λ a. steps.List a.pid a.path) (named_of words)
    else if bytes_eq verb (codes "open") then open_of words
    else Err causes.UnknownVerb

unfoldable pub process_call : List ℕ → List (List ℕ) → Result Step Cause
process_call verb words =
    if bytes_eq verb (codes "spawn") then spawn_of words
    else if bytes_eq verb (codes "fork") then made (λ p. steps.Fork p) (pid_of words)
    else if bytes_eq verb (codes "exit") then made (λ p. steps.Exit p) (pid_of words)
    else if bytes_eq verb (codes "resume") then made (λ p. steps.Resume p) (pid_of words)
    else file_call verb words

unfoldable pub crossing_call : List ℕ → List (List ℕ) → Result Step Cause
crossing_call verb words =
    if bytes_eq verb (codes "tee") then made (λ c. steps.Tee c.pid c.source c.sink c.n c.nonblock) (crossing_of words)
    else if bytes_eq verb (codes "splice")
    then made (λ c. steps.Splice c.pid c.source c.sink c.n c.nonblock) (crossing_of words)
    else process_call verb words

-- the call that a verb and its words stand for
unfoldable pub call_of : List ℕ → List (List ℕ) → Result Step Cause
call_of verb words =
    if bytes_eq verb (codes "write") then write_of words
    else if bytes_eq verb (codes "read") then made (λ a. steps.Read a.pid a.fd a.n) (sized_of words)
    else if bytes_eq verb (codes "pipe") then pipe_of words
    else if bytes_eq verb (codes "close") then made (λ a. steps.Close a.pid a.fd) (descriptor_of words)
    else if bytes_eq verb (codes "dup") then made (λ a. steps.Dup a.pid a.fd) (descriptor_of words)
    else if bytes_eq verb (codes "setsize") then made (λ a. steps.SetSize a.pid a.fd a.n) (sized_of words)
    else if bytes_eq verb (codes "getsize") then made (λ a. steps.GetSize a.pid a.fd) (descriptor_of words)
    else if bytes_eq verb (codes "nonblock") then nonblock_of words
    else crossing_call verb words

-- The same the other way round

-- a field of a step, by how it is written: a small number is one of 32 bits, a large one of 64
pub data Field : Type 0 where
  Small : ℕ → Field
  Large : ℕ → Field
  Mode : ℕ → Field
  Path : List ℕ → Field
  Bytes : List ℕ → Field
  Groups : List ℕ → Field
  Switch : Bool → Field
  Flag : Bool → Field
  Flags : OpenFlags → Field

-- a step's verb, and the fields behind it in the order of their words
unfoldable pub text_of : Step → List ℕ × List Field
text_of (steps.Spawn uid gid umask groups) =
    (codes "spawn", Small uid ∷ Small gid ∷ Mode umask ∷ Groups groups ∷ [])
text_of (steps.Fork pid) = (codes "fork", Small pid ∷ [])
text_of (steps.Exit pid) = (codes "exit", Small pid ∷ [])
text_of (steps.Resume pid) = (codes "resume", Small pid ∷ [])
text_of (steps.Dup pid fd) = (codes "dup", Small pid ∷ Small fd ∷ [])
text_of (steps.Close pid fd) = (codes "close", Small pid ∷ Small fd ∷ [])
text_of (steps.SetNonblock pid fd on) = (codes "nonblock", Small pid ∷ Small fd ∷ Switch on ∷ [])
text_of (steps.Pipe pid nonblock) = (codes "pipe", Small pid ∷ Flag nonblock ∷ [])
text_of (steps.SetSize pid fd bytes) = (codes "setsize", Small pid ∷ Small fd ∷ Large bytes ∷ [])
text_of (steps.GetSize pid fd) = (codes "getsize", Small pid ∷ Small fd ∷ [])
text_of (steps.Read pid fd n) = (codes "read", Small pid ∷ Small fd ∷ Large n ∷ [])
text_of (steps.Write pid fd payload) = (codes "write", Small pid ∷ Small fd ∷ Bytes payload ∷ [])
text_of (steps.Tee pid source sink n nonblock) =
    (codes "tee", Small pid ∷ Small source ∷ Small sink ∷ Large n ∷ Flag nonblock ∷ [])
text_of (steps.Splice pid source sink n nonblock) =
    (codes "splice", Small pid ∷ Small source ∷ Small sink ∷ Large n ∷ Flag nonblock ∷ [])
text_of (steps.Mkdir pid path mode) = (codes "mkdir", Small pid ∷ Path path ∷ Mode mode ∷ [])
text_of (steps.Mkfifo pid path mode) = (codes "mkfifo", Small pid ∷ Path path ∷ Mode mode ∷ [])
text_of (steps.Chmod pid path mode) = (codes "chmod", Small pid ∷ Path path ∷ Mode mode ∷ [])
text_of (steps.Unlink pid path) = (codes "unlink", Small pid ∷ Path path ∷ [])
text_of (steps.Rmdir pid path) = (codes "rmdir", Small pid ∷ Path path ∷ [])
text_of (steps.Stat pid path) = (codes "stat", Small pid ∷ Path path ∷ [])
text_of (steps.List pid path) = (codes "list", Small pid ∷ Path path ∷ [])
text_of (steps.Open pid path flags) = (codes "open", Small pid ∷ Path path ∷ Flags flags ∷ [])

-- the words behind a namespace's name
unfoldable pub step_words : List (List ℕ) → Result Step Cause
step_words [] = Err causes.WrongWords
step_words (verb ∷ words) = call_of verb words
