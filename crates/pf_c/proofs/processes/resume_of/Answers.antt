use Rattle.std.proofs.Common.{None, true, refl}
use Rattle.std.specs.Option.{option_map}
use Rattle.pf_base.specs.declared.step.Answer.TheVariants.{Done}
use Rattle.pf_base.specs.declared.step.Step.TheVariants as steps
use Rattle.pf_ring.proofs.LaidLaws.{no_byte_lies}
use Rattle.pf_c.proofs.Stepped.{stepped, shut}
use Rattle.pf_c.proofs.processes.resume_of.Goals as goal

pub returns-then-not-h : goal.returns-then-not-h
returns-then-not-h c = record {
  reply = None;
  is = rw (← c.h.view_is) (shut c.h.inside.is_open c.h.inside.place.held c.args.ns (steps.Resume c.args.pid) true c.if-not-h.true);
  told_is = refl;
  bytes_lie = no_byte_lies c.args.into.now;
}

pub returns : goal.returns
returns c =
    let told = c.resume_in.ensures in
    let answered = rw c.hub.ensures.value at told.is in
    record {
      reply = told.reply;
      is =
          rw (← c.h.view_is)
          (stepped c.h.inside.is_open c.h.inside.place.held c.resume_in.new.hub c.args.ns
          (steps.Resume c.args.pid) true (option_map Done told.reply) c.if-not-h.false answered);
      told_is = told.told_is;
      bytes_lie = told.bytes_lie;
    }
