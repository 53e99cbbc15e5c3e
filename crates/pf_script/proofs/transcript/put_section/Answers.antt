use Rattle.pf_script.specs.Text.{answers_of}
use Rattle.pf_script.proofs.Places.{within}
use Rattle.pf_script.specs.Answers.{answers_in}
use Rattle.pf_script.proofs.PrinterPut.{put_more}
use Rattle.pf_script.proofs.Texts.{section_named, chosen_are}
use Rattle.pf_script.proofs.transcript.put_section.Goals as goal

pub put_chosen-requires : goal.put_chosen-requires
put_chosen-requires g c = rw c.places.ensures (within c.args.script.now.steps _ c.args.ns c.requires.answered)

pub returns : goal.returns
returns g c =
    let lines = rw (c.places.ensures, ← chosen_are c.args.script.now.steps (answers_in c.args.answers) c.args.ns c.requires.answered) at c.put_chosen.ensures in
    rw (section_named c.args.script.now (answers_of c.args.script.now.steps (answers_in c.args.answers) c.args.ns) c.args.ns c.name.result.now c.name.ensures) (put_more c.put_header.ensures lines)
