use Rattle.std.proofs.Common.{length, true, rules, subst, ◌∙◌}
use Rattle.std.specs.Prelude.{Option}
use Rattle.pf_base.specs.declared.step.Answer.{Answer}
use Rattle.pf_base.specs.declared.step.Step.TheVariants as steps
use Rattle.pf_c.specs.Handle.{hub_of}
use Rattle.pf_c.specs.Told.{IsAnswered}
use Rattle.pf_c.proofs.Buffers as buffers
use Rattle.pf_c.proofs.pipes.sag_read.Goals as goal

pub returns : goal.returns
returns c =
    let told = c.code_of_read.ensures ∙ buffers.says c.args.into.now c.read_of-read.new.into c.read_of-read.result c.read_of-read.ensures.lies in
    record {
      reply = buffers.reply_of_read c.read_of-read.new.into c.read_of-read.result;
      answered =
          subst (λ (answer : Option Answer). IsAnswered (hub_of c.args.h.now) (hub_of c.read_of-read.new.h) c.args.ns (steps.Read c.args.pid c.args.fd (length c.args.into.now)) true answer)
          (buffers.answer_is c.read_of-read.new.into c.read_of-read.result) (c.read_of-read.ensures.answered true);
      says = search (told, rules);
      bytes = buffers.bytes_are c.args.into.now c.read_of-read.new.into c.read_of-read.result c.read_of-read.ensures.lies;
    }
