use Rattle.std.proofs.Common.{ap, rules, ◌∙◌}
use Rattle.std.specs.Prelude.{List, ℕ}
use Rattle.pf_ring.specs.Laid.{laid}
use Rattle.pf_c.specs.Handle.{hub_of}
use Rattle.pf_c.specs.Read.{code_of_read}
use Rattle.pf_c.proofs.Resumed as resumed
use Rattle.pf_c.proofs.processes.sag_resume.Goals as goal

pub returns : goal.returns
returns c =
    let told = c.resume_of-told.ensures in
    let same =
    resumed.is_same (hub_of c.args.h.now) (hub_of c.resume_of-told.new.h) c.args.ns c.args.pid told.reply told.is in
    let says = c.code_of_read.ensures ∙ ap code_of_read told.told_is ∙ same.code in
    let bytes =
    told.bytes_lie ∙ ap (λ (bytes : List ℕ). laid bytes c.args.into.now) same.bytes ∙ resumed.lie _ c.args.into.now in
    record { reply = told.reply; answered = told.is; says = search (says, rules); bytes = bytes }
