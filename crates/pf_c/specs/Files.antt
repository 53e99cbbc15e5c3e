-- What C is told of a file.

use Rattle.std.specs.Prelude.{◌≡◌, ℕ, ◌+◌, ℤ, Bool, Option, Some, None}
use Rattle.pf_base.specs.declared.meta.Kind.{Kind}
use Rattle.pf_base.specs.declared.meta.Kind.TheVariants.{Fifo, Directory}
use Rattle.pf_base.specs.declared.meta.Meta.{Meta as FileMeta}
use Rattle.pf_base.specs.declared.step.Answer.{Answer}
use Rattle.pf_base.specs.declared.step.Answer.TheVariants.{Done}
use Rattle.pf_base.specs.declared.step.Reply.TheVariants.{Meta}
use Rattle.pf_base.specs.declared.step.Step.{Step}
use Rattle.pf_c.specs.Codes.{code_of_answer}
use Rattle.pf_c.specs.Rows.{Held}
use Rattle.pf_c.specs.Told.{IsAnswered}
use Rattle.pf_c.specs.declared.meta.SagMeta.{SagMeta}

-- the type and the mode in one number: S_IFIFO is 010000, S_IFDIR is 040000 (inode(7))
abbrev pub mode_in : Kind → ℕ → ℕ
mode_in Fifo bits = 4096 + bits
mode_in Directory bits = 16384 + bits

abbrev pub meta_in : FileMeta → SagMeta
meta_in m = record { mode = mode_in m.kind m.mode; uid = m.uid; gid = m.gid }

abbrev pub meta_of : Option Answer → Option SagMeta
meta_of (Some (Done (Meta m))) = Some (meta_in m)
meta_of _ = None

-- what stands in the host's record then: the file's, or what stood there
abbrev pub meta_or : Option SagMeta → SagMeta → SagMeta
meta_or (Some m) before = m
meta_or None before = before

pub record Stated (old new : Option Held) (n : ℕ) (step : Step) (fits : Bool) (code : ℤ)
    (before after : SagMeta) : Type 0 where
  pub answer : Option Answer
  pub answered : IsAnswered old new n step fits answer
  pub says : code ≡ code_of_answer answer
  pub meta : after ≡ meta_or (meta_of answer) before
