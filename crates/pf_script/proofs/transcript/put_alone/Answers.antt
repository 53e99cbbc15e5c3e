use Rattle.pf_script.specs.Answers.{answers_in}
use Rattle.pf_script.proofs.PrinterPut.{put_more}
use Rattle.pf_script.proofs.Texts.{section_named}
use Rattle.pf_script.proofs.transcript.put_alone.Goals as goal

pub returns : goal.returns
returns g c = rw (section_named c.args.script.now (answers_in c.args.answers) c.args.ns c.name.result.now c.name.ensures) (put_more c.put_header.ensures c.put_lines.ensures)
