-- Files: Mkdir, Mkfifo, Unlink, Rmdir, Chmod and Stat (mkdir(), mkfifo(), unlink(), rmdir(), chmod() and stat() of
-- POSIX.1-2017), and List, which is this profile's own. What they do to the map of files, FileCalls says.

use Rattle.std.specs.Prelude.{ℕ, ◌+◌, List, Result, Ok}
use Rattle.pf_machine.specs.Refusals.{◌>>=◌}
use Rattle.pf_machine.specs.FileMap.{Files}
use Rattle.pf_machine.specs.FileCalls as calls
use Rattle.pf_base.specs.Permissions.{mode_of}
use Rattle.pf_machine.specs.State.{State, Process, Outcome, told, done}
use Rattle.pf_base.specs.declared.errno.Errno.{Errno}
use Rattle.pf_base.specs.declared.meta.Kind.{Kind}
use Rattle.pf_base.specs.declared.step.Reply.TheVariants.{Names, Meta}

module _ {X N : Type 0} where
  -- with these files
  abbrev pub with_files : State X N → Files → State X N
  with_files s files = record s { files = files }

  -- with these files, of which one is new
  abbrev pub with_new : State X N → Files → State X N
  with_new s files = record s { files = files; files_made = s.files_made + 1 }

-- Mkdir and Mkfifo. More than the permission bits and the sticky bit is EINVAL (the set-user-ID and set-group-ID bits
-- aren't kept)
abbrev pub make : {X N : Type 0} → Kind → State X N → Process N → List ℕ → ℕ → Result (Outcome X N) Errno
make kind s p path bits = do
  mode ← mode_of bits
  files ← calls.make kind s.files s.files_made p.cred path mode
  Ok (done (with_new s files) 0)

abbrev pub unlink : {X N : Type 0} → State X N → Process N → List ℕ → Result (Outcome X N) Errno
unlink s p path = do
  files ← calls.unlink s.files p.cred path
  Ok (done (with_files s files) 0)

abbrev pub rmdir : {X N : Type 0} → State X N → Process N → List ℕ → Result (Outcome X N) Errno
rmdir s p path = do
  files ← calls.rmdir s.files p.cred path
  Ok (done (with_files s files) 0)

abbrev pub chmod : {X N : Type 0} → State X N → Process N → List ℕ → ℕ → Result (Outcome X N) Errno
chmod s p path bits = do
  mode ← mode_of bits
  files ← calls.chmod s.files p.cred path mode
  Ok (done (with_files s files) 0)

abbrev pub stat : {X N : Type 0} → State X N → Process N → List ℕ → Result (Outcome X N) Errno
stat s p path = do
  meta ← calls.stat s.files p.cred path
  Ok (told s (Meta meta))

abbrev pub list : {X N : Type 0} → State X N → Process N → List ℕ → Result (Outcome X N) Errno
list s p path = do
  names ← calls.list s.files p.cred path
  Ok (told s (Names names))
