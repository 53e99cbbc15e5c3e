-- Who may do what with a file (POSIX.1-2017, 4.5 "File Access Permissions").

use Rattle.std.specs.Prelude.{ℕ, ◌+◌, Bool, not, ◌||◌, nat_eq, nat_lt, bit_and, if◌then◌else◌, Result, Ok, Err}
use Rattle.std.specs.List.{list_any}
use Rattle.std.specs.Int.{bit_at, bit_not, w32}
use Rattle.pf_base.specs.declared.TheConstants.{MAX_MODE}
use Rattle.pf_base.specs.declared.cred.Cred.{Cred}
use Rattle.pf_base.specs.declared.errno.Errno.{Errno}
use Rattle.pf_base.specs.declared.errno.Errno.TheVariants.{EINVAL}
use Rattle.pf_base.specs.declared.meta.Meta.{Meta}
use Rattle.pf_base.specs.declared.permissions.Class.{Class}
use Rattle.pf_base.specs.declared.permissions.Class.TheVariants.{Owner, Group, Other}
use Rattle.pf_base.specs.declared.permissions.Want.{Want}
use Rattle.pf_base.specs.declared.permissions.Want.TheVariants.{Read, Write, Search}

-- a mode is a number of ten bits: the nine permission bits, and above them the sticky bit
abbrev pub mode_of : ℕ → Result ℕ Errno
mode_of bits = if nat_lt MAX_MODE bits then Err EINVAL else Ok bits

-- a mode without the bits of a umask, which has permission bits alone (POSIX.1-2017, umask())
abbrev pub masked : ℕ → ℕ → ℕ
masked mode umask = bit_and mode (bit_not w32 umask)

-- the places of the permission bits (POSIX.1-2017, `<sys/stat.h>`): 0700 is the owner's, 0070 the group's, 0007 the others'
abbrev pub class_shift : Class → ℕ
class_shift Owner = 6
class_shift Group = 3
class_shift Other = 0

-- and in each class 4 is read, 2 is write, 1 is search
abbrev pub want_shift : Want → ℕ
want_shift Read = 2
want_shift Write = 1
want_shift Search = 0

-- whether a mode has the permission's bit in a class
abbrev pub grants : ℕ → Class → Want → Bool
grants mode class want = nat_eq (bit_at mode (class_shift class + want_shift want)) 1

-- whether a mode has the sticky bit (S_ISVTX, 01000)
abbrev pub is_sticky : ℕ → Bool
is_sticky mode = nat_eq (bit_at mode 9) 1

-- privileged callers are those of the uid 0
abbrev pub is_privileged : Cred → Bool
is_privileged c = nat_eq c.uid 0

-- the group class of a file: processes whose group id or one of whose supplementary group ids is the file's
abbrev pub is_member : Cred → ℕ → Bool
is_member c gid = nat_eq c.gid gid || list_any (λ g. nat_eq g gid) c.groups

-- the one class that decides: the owner's for the owner, else the group's for its members, else the others'
abbrev pub class_of : Cred → Meta → Class
class_of c f = if nat_eq c.uid f.uid then Owner else if is_member c f.gid then Group else Other

-- all is granted to the privileged; to any other what its class has the bit for
abbrev pub allows : Cred → Meta → Want → Bool
allows c f want = is_privileged c || grants f.mode (class_of c f) want

-- who may take an entry out of a directory, besides the permission to write it: in a sticky directory the privileged, the
-- file's owner and the directory's owner alone (POSIX.1-2017, 4.3 "Directory Protection")
abbrev pub may_remove : Cred → Meta → Meta → Bool
may_remove c directory file =
    not (is_sticky directory.mode) || is_privileged c || nat_eq c.uid file.uid || nat_eq c.uid directory.uid
