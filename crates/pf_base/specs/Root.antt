-- The root directory, as a namespace has it at its opening.

use Rattle.pf_base.specs.declared.TheConstants.{ALL_PERMISSIONS}
use Rattle.pf_base.specs.declared.meta.File.{File}
use Rattle.pf_base.specs.declared.meta.Kind.TheVariants.{Directory}

-- all may read, change and search it, and it is of the uid 0 and the gid 0 (this profile's choice): the file of the number
-- 0
abbrev pub root : File
root = record { meta = record { kind = Directory; mode = ALL_PERMISSIONS; uid = 0; gid = 0 }; number = 0 }
