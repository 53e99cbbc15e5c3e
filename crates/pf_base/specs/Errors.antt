-- The errors' numbers and names: POSIX.1-2017 <errno.h> for the names, errno(3) of Linux for the numbers.

use Rattle.std.specs.Prelude.{ℕ, List, codes}
use Rattle.pf_base.specs.declared.errno.Errno.{Errno}
use Rattle.pf_base.specs.declared.errno.Errno.TheVariants.{EPERM, ENOENT, ESRCH, ENXIO, EBADF, EAGAIN, ENOMEM, EACCES, EBUSY, EEXIST, ENOTDIR, EISDIR, EINVAL, ENFILE, EMFILE, ENOSPC, EPIPE, ENAMETOOLONG, ENOTEMPTY}

pub record Row : Type 0 where
  pub code : ℕ
  pub name : List ℕ

-- the table of errors
abbrev pub row_of : Errno → Row
row_of EPERM = record { code = 1; name = codes "EPERM" }
row_of ENOENT = record { code = 2; name = codes "ENOENT" }
row_of ESRCH = record { code = 3; name = codes "ESRCH" }
row_of ENXIO = record { code = 6; name = codes "ENXIO" }
row_of EBADF = record { code = 9; name = codes "EBADF" }
row_of EAGAIN = record { code = 11; name = codes "EAGAIN" }
row_of ENOMEM = record { code = 12; name = codes "ENOMEM" }
row_of EACCES = record { code = 13; name = codes "EACCES" }
row_of EBUSY = record { code = 16; name = codes "EBUSY" }
row_of EEXIST = record { code = 17; name = codes "EEXIST" }
row_of ENOTDIR = record { code = 20; name = codes "ENOTDIR" }
row_of EISDIR = record { code = 21; name = codes "EISDIR" }
row_of EINVAL = record { code = 22; name = codes "EINVAL" }
row_of ENFILE = record { code = 23; name = codes "ENFILE" }
row_of EMFILE = record { code = 24; name = codes "EMFILE" }
row_of ENOSPC = record { code = 28; name = codes "ENOSPC" }
row_of EPIPE = record { code = 32; name = codes "EPIPE" }
row_of ENAMETOOLONG = record { code = 36; name = codes "ENAMETOOLONG" }
row_of ENOTEMPTY = record { code = 39; name = codes "ENOTEMPTY" }

abbrev pub code_of : Errno → ℕ
code_of e = (row_of e).code

abbrev pub name_of : Errno → List ℕ
name_of e = (row_of e).name
