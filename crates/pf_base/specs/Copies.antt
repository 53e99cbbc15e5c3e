-- Which steps and replies are copied without memory: those of the kinds that have no bytes, no path and no groups.

use Rattle.std.specs.Prelude.{Bool, true, false}
use Rattle.pf_base.specs.declared.step.Reply.{Reply}
use Rattle.pf_base.specs.declared.step.Reply.TheVariants.{Bytes, Names}
use Rattle.pf_base.specs.declared.step.Step.{Step}
use Rattle.pf_base.specs.declared.step.Step.TheVariants as steps

-- whether a step is of such a kind
abbrev pub is_bare : Step → Bool
is_bare (steps.Spawn uid gid umask groups) = false
is_bare (steps.Write pid fd payload) = false
is_bare (steps.Mkdir pid path mode) = false
is_bare (steps.Mkfifo pid path mode) = false
is_bare (steps.Open pid path flags) = false
is_bare (steps.Unlink pid path) = false
is_bare (steps.Rmdir pid path) = false
is_bare (steps.Chmod pid path mode) = false
is_bare (steps.Stat pid path) = false
is_bare (steps.List pid path) = false
is_bare _ = true

-- whether a reply is
abbrev pub is_bare_reply : Reply → Bool
is_bare_reply (Bytes x) = false
is_bare_reply (Names x) = false
is_bare_reply _ = true
