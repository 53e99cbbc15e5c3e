-- How much a reply hands out, known before its step is made.

use Rattle.std.specs.Prelude.{ℕ, ◌+◌, ◌*◌, length, Option, Some, None}
use Rattle.pf_base.specs.declared.TheConstants.{PAGE_SIZE, MAX_FRAMES, MAX_FILES, MAX_NAME}
use Rattle.pf_base.specs.declared.step.Reply.{Reply}
use Rattle.pf_base.specs.declared.step.Reply.TheVariants.{Bytes, Names}
use Rattle.pf_base.specs.declared.step.Step.{Step}
use Rattle.pf_base.specs.declared.step.Step.TheVariants.{Read, List as Lists, Resume}
use Rattle.pf_machine.specs.Calls.{Call, written_of}

-- how many bytes a reply hands out
abbrev pub reply_length : Reply → ℕ
reply_length (Bytes x) = length x
reply_length (Names x) = length x
reply_length _ = 0

-- the most that the reply to a step hands out, in any state: what a read asks for, the longest names of the most files, with
-- a slash behind each, and all that the most frames hold
abbrev pub most_of : Step → ℕ
most_of (Read pid fd n) = n
most_of (Lists pid path) = MAX_FILES * (MAX_NAME + 1)
most_of (Resume pid) = MAX_FRAMES * PAGE_SIZE
most_of _ = 0

-- how many bytes of its write went in before a process waited
abbrev pub written_in : {N : Type 0} → Option (Call N) → ℕ
written_in None = 0
written_in (Some call) = written_of call
