-- What the calls on files answer, over the map of files: mkdir(), mkfifo(), unlink(), rmdir(), chmod(), stat() of POSIX.1-2017,
-- and a list of names, which is this profile's own.

use Rattle.std.specs.Prelude.{ℕ, ◌+◌, Bool, true, false, not, ◌||◌, ◌&&◌, List, [], ◌∷◌, ◌++◌, length, is_some, nat_eq, nat_lt, nat_le, Result, Ok, Err}
use Rattle.pf_machine.specs.Refusals.{◌>>=◌, ◌>>◌, refuse_if, or_refuse}
use Rattle.pf_base.specs.Permissions.{allows, is_privileged, masked, may_remove}
use Rattle.pf_machine.specs.FileMap.{Files, Path, find, insert, remove, set_mode, names_below, listed, is_directory}
use Rattle.pf_machine.specs.Paths.{Resolved, Last, Nothing, Dot, DotDot, Named, target, entry, is_nonempty}
use Rattle.pf_base.specs.declared.TheConstants.{MAX_FILES, MAX_MADE}
use Rattle.pf_base.specs.declared.cred.Cred.{Cred}
use Rattle.pf_base.specs.declared.errno.Errno.{Errno}
use Rattle.pf_base.specs.declared.errno.Errno.TheVariants.{EPERM, ENOENT, EACCES, EBUSY, EEXIST, ENOTDIR, EINVAL, ENOSPC, ENOTEMPTY}
use Rattle.pf_base.specs.declared.meta.File.{File}
use Rattle.pf_base.specs.declared.meta.Kind.{Kind}
use Rattle.pf_base.specs.declared.meta.Kind.TheVariants.{Fifo, Directory}
use Rattle.pf_base.specs.declared.meta.Meta.{Meta}
use Rattle.pf_base.specs.declared.permissions.Want.TheVariants.{Read, Write}

-- An entry: a name in a directory

pub record Place : Type 0 where
  pub path : Path
  pub directory : File
  pub slash : Bool

-- the place of an entry; the errors are the call's own for the root, for `.` and for `..`
abbrev pub place_of : Errno → Errno → Errno → Resolved → Last → Result Place Errno
place_of at_root at_dot at_dot_dot e Nothing = Err at_root
place_of at_root at_dot at_dot_dot e Dot = Err at_dot
place_of at_root at_dot at_dot_dot e DotDot = Err at_dot_dot
place_of at_root at_dot at_dot_dot e (Named n) = Ok (record { path = e.path ++ n ∷ []; directory = e.file; slash = e.slash })

abbrev pub place : Errno → Errno → Errno → Files → Cred → List ℕ → Result Place Errno
place at_root at_dot at_dot_dot files c bs = do
  e ← entry files c bs
  place_of at_root at_dot at_dot_dot e e.last

-- entries come and go by the write permission on their directory
abbrev pub permitted_change : Cred → File → Result (Unit {0}) Errno
permitted_change c directory = refuse_if (not (allows c directory.meta Write)) EACCES

-- and an entry goes, besides, as the directory's sticky bit lets it
abbrev pub permitted_removal : Cred → File → File → Result (Unit {0}) Errno
permitted_removal c directory f = do
  permitted_change c directory
  refuse_if (not (may_remove c directory.meta f.meta)) EPERM

-- Making

abbrev pub is_fifo : Kind → Bool
is_fifo Fifo = true
is_fifo Directory = false

-- no room for another file besides the root, or no number for it (this profile's limits)
abbrev pub is_full : Files → ℕ → Bool
is_full files made = nat_lt MAX_FILES (length files) || nat_le MAX_MADE made

-- a file as a process makes it: its own, with the mode that its umask leaves, and the next number
abbrev pub made_by : Cred → Kind → ℕ → ℕ → File
made_by c kind mode made = record { meta = record { kind = kind; mode = masked mode c.umask; uid = c.uid; gid = c.gid }; number = made + 1 }

-- mkdir() and mkfifo(), where so many files were ever made
abbrev pub make : Kind → Files → ℕ → Cred → List ℕ → ℕ → Result Files Errno
make kind files made c path mode = do
  l ← place EEXIST EEXIST EEXIST files c path
  refuse_if (is_some (find l.path files)) EEXIST
  refuse_if (is_fifo kind && l.slash) ENOENT
  permitted_change c l.directory
  refuse_if (is_full files made) ENOSPC
  Ok (insert l.path (made_by c kind mode made) files)

-- Taking away

abbrev pub unlink : Files → Cred → List ℕ → Result Files Errno
unlink files c path = do
  l ← place EPERM EPERM EPERM files c path
  f ← or_refuse ENOENT (find l.path files)
  refuse_if (l.slash && not (is_directory f)) ENOTDIR
  permitted_removal c l.directory f
  refuse_if (is_directory f) EPERM
  Ok (remove l.path files)

abbrev pub rmdir : Files → Cred → List ℕ → Result Files Errno
rmdir files c path = do
  l ← place EBUSY EINVAL EINVAL files c path
  f ← or_refuse ENOENT (find l.path files)
  refuse_if (not (is_directory f)) ENOTDIR
  permitted_removal c l.directory f
  refuse_if (is_nonempty (names_below l.path files)) ENOTEMPTY
  Ok (remove l.path files)

-- Looking and changing

abbrev pub chmod : Files → Cred → List ℕ → ℕ → Result Files Errno
chmod files c path mode = do
  t ← target files c path
  refuse_if (not (is_privileged c) && not (nat_eq c.uid t.file.meta.uid)) EPERM
  Ok (set_mode t.path mode files)

abbrev pub stat : Files → Cred → List ℕ → Result Meta Errno
stat files c path = do
  t ← target files c path
  Ok t.file.meta

abbrev pub list : Files → Cred → List ℕ → Result (List ℕ) Errno
list files c path = do
  t ← target files c path
  refuse_if (not (is_directory t.file)) ENOTDIR
  refuse_if (not (allows c t.file.meta Read)) EACCES
  Ok (listed (names_below t.path files))
