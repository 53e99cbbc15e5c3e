-- What a namespace was asked and told.

use Rattle.std.specs.Prelude.{◌≡◌, ℕ, List, [], map, slice_index_or}
use Rattle.pf_base.specs.Limits.{Limits}
use Rattle.pf_machine.specs.Runs.{lone}
use Rattle.pf_base.specs.declared.step.Step.{Step}
use Rattle.pf_base.specs.declared.step.Reply.{Reply}

-- what a contract sees of a transcript
pub record OneTranscript : Type 0 where
  pub limits : Limits
  pub entries : List (Step × Reply)

abbrev pub steps_in : List (Step × Reply) → List Step
steps_in es = map (λ e. e.0) es

abbrev pub replies_in : List (Step × Reply) → List Reply
replies_in es = map (λ e. e.1) es

-- its replies are the lone machine's on its steps
abbrev pub IsLone : OneTranscript → Type 0
IsLone t = replies_in t.entries ≡ lone t.limits (steps_in t.entries)

-- nothing was asked yet
abbrev pub new_transcript : Limits → OneTranscript
new_transcript limits = record { limits = limits; entries = [] }

-- that of a namespace which isn't there
abbrev pub no_transcript : OneTranscript
no_transcript = new_transcript (record { reserve = 0; soft = 0; hard = 0; max = 0 })

-- the transcript of a namespace
abbrev pub transcript_at : List OneTranscript → ℕ → OneTranscript
transcript_at ts n = slice_index_or ts n no_transcript
