-- Paths as bytes, and where a path leads (POSIX.1-2017, 4.13 "Pathname Resolution"). Relative and absolute paths both begin
-- at the root: a process has no other working directory (this profile's choice).

use Rattle.std.specs.Prelude.{ℕ, List, [], ◌∷◌, ◌++◌, length, filter, Bool, true, false, not, if◌then◌else◌, nat_eq, nat_lt, ◌&&◌, ◌||◌, Result, Ok, Err}
use Rattle.std.specs.List.{list_any, slice_split}
use Rattle.pf_machine.specs.Refusals.{◌>>=◌, ◌>>◌, refuse_if, or_refuse}
use Rattle.pf_base.specs.Permissions.{allows}
use Rattle.pf_machine.specs.FileMap.{Files, Name, Path, find, front, is_directory, same_name}
use Rattle.pf_base.specs.declared.TheConstants.{MAX_NAME, MAX_PATH}
use Rattle.pf_base.specs.declared.cred.Cred.{Cred}
use Rattle.pf_base.specs.declared.errno.Errno.{Errno}
use Rattle.pf_base.specs.declared.errno.Errno.TheVariants.{ENOENT, ENOTDIR, EACCES, EINVAL, ENAMETOOLONG}
use Rattle.pf_base.specs.declared.meta.File.{File}
use Rattle.pf_base.specs.declared.permissions.Want.TheVariants.{Search}

-- Cutting a path

-- what lies between slashes; none where slashes meet
abbrev pub is_component : Name → Bool
is_component n = not (nat_eq (length n) 0)

abbrev pub components : List ℕ → List Name
components bs = filter is_component (slice_split (λ b. nat_eq b 47) bs)

abbrev pub ends_in_slash : List ℕ → Bool
ends_in_slash [] = false
ends_in_slash (b ∷ []) = nat_eq b 47
ends_in_slash (b ∷ c ∷ bs) = ends_in_slash (c ∷ bs)

abbrev pub is_nonempty : List Name → Bool
is_nonempty [] = false
is_nonempty (n ∷ ns) = true

-- a path's components, and whether a slash stands behind the last
pub record Words : Type 0 where
  pub names : List Name
  pub slash : Bool

-- what is refused before the walk: a byte 0 (this profile's EINVAL), an empty path, and more bytes than {NAME_MAX} and
-- {PATH_MAX} allow, which has a byte 0 behind the path
abbrev pub words_of : List ℕ → Result Words Errno
words_of bs = do
  refuse_if (list_any (λ b. nat_eq b 0) bs) EINVAL
  refuse_if (nat_eq (length bs) 0) ENOENT
  refuse_if (nat_lt MAX_PATH (length bs) || list_any (λ n. nat_lt MAX_NAME (length n)) (components bs)) ENAMETOOLONG
  Ok (record { names = components bs; slash = ends_in_slash bs && is_nonempty (components bs) })

-- The walk

abbrev pub is_dot : Name → Bool
is_dot n = same_name n (46 ∷ [])

abbrev pub is_dot_dot : Name → Bool
is_dot_dot n = same_name n (46 ∷ 46 ∷ [])

-- a name that is no entry's
abbrev pub is_dotted : Name → Bool
is_dotted n = is_dot n || is_dot_dot n

abbrev pub may_turn : Result Words Errno → Bool
may_turn (Ok words) = list_any is_dotted words.names
may_turn (Err e) = false

-- whether a path is walked and one of its names is `.` or `..`, so that the walk may turn back
abbrev pub has_dots : List ℕ → Bool
has_dots bs = may_turn (words_of bs)

-- a walk may go on from a file: a directory, on which there is search permission
abbrev pub permitted : Cred → File → Result (Unit {0}) Errno
permitted c f = refuse_if (not (is_directory f)) ENOTDIR >> refuse_if (not (allows c f.meta Search)) EACCES

abbrev pub searched : Files → Cred → Path → Result File Errno
searched files c at = do
  f ← or_refuse ENOENT (find at files)
  permitted c f
  Ok f

-- where a component leads from a path: `.` stays, `..` goes to the parent, from the root to the root
abbrev pub step_to : Files → Path → Name → Result Path Errno
step_to files at n =
    if is_dot n then Ok at
    else if is_dot_dot n then Ok (front at)
    else (or_refuse ENOENT (find (at ++ n ∷ []) files) >>= (λ _. Ok (at ++ n ∷ [])))

-- one component from a path, which first may be gone on from
abbrev pub stepped : Files → Cred → Path → Name → Result Path Errno
stepped files c at n = searched files c at >>= (λ d. step_to files at n)

-- where components lead from a path
abbrev pub reach : Files → Cred → Path → List Name → Result Path Errno
reach files c at [] = Ok at
reach files c at (n ∷ ns) = stepped files c at n >>= (λ next. reach files c next ns)

-- What a path is resolved to

-- what a path names last
pub data Last : Type 0 where
  Nothing : Last
  Dot : Last
  DotDot : Last
  Named : Name → Last

abbrev pub last_of : List Name → Last
last_of [] = Nothing
last_of (n ∷ []) = if is_dot n then Dot else if is_dot_dot n then DotDot else Named n
last_of (n ∷ m ∷ ns) = last_of (m ∷ ns)

-- the file that is reached, the names that lead to it from the root, and what the path names last, below it
pub record Resolved : Type 0 where
  pub path : Path
  pub file : File
  pub last : Last
  pub slash : Bool

-- Open, Chmod, Stat, List: all components are walked, and no search is asked on the last file itself. Before a slash at the
-- end stands a directory
abbrev pub target_of : Files → Cred → Words → Result Resolved Errno
target_of files c words = do
  at ← reach files c [] words.names
  f ← or_refuse ENOENT (find at files)
  refuse_if (words.slash && not (is_directory f)) ENOTDIR
  Ok (record { path = at; file = f; last = Nothing; slash = words.slash })

abbrev pub target : Files → Cred → List ℕ → Result Resolved Errno
target files c bs = words_of bs >>= (λ words. target_of files c words)

-- Mkdir, Mkfifo, Unlink, Rmdir: all components but the last are walked, and the file reached is to be a directory with search
-- permission
abbrev pub entry_of : Files → Cred → Words → Result Resolved Errno
entry_of files c words = do
  at ← reach files c [] (front words.names)
  f ← searched files c at
  Ok (record { path = at; file = f; last = last_of words.names; slash = words.slash })

abbrev pub entry : Files → Cred → List ℕ → Result Resolved Errno
entry files c bs = words_of bs >>= (λ words. entry_of files c words)
