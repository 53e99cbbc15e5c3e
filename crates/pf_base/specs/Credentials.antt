-- Which credentials a process may have.

use Rattle.std.specs.Prelude.{Bool, nat_le, ◌&&◌, length}
use Rattle.pf_base.specs.declared.TheConstants.{MAX_UMASK, MAX_GROUPS}
use Rattle.pf_base.specs.declared.cred.Cred.{Cred}

-- a umask of permission bits alone (POSIX.1-2017, umask()), and not too many supplementary groups (this profile's
-- limit)
abbrev pub is_valid : Cred → Bool
is_valid c = nat_le c.umask MAX_UMASK && nat_le (length c.groups) MAX_GROUPS
