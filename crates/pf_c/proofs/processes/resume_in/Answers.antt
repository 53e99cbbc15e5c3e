use Rattle.std.proofs.Common.{Some, None, refl, sym, ap, ◌∙◌}
use Rattle.pf_ring.proofs.LaidLaws.{no_byte_lies}
use Rattle.pf_c.proofs.processes.resume_in.Goals as goal

pub returns-then-not-lives : goal.returns-then-not-lives
returns-then-not-lives c = record {
  reply = None;
  is = record { missing = sym c.lives.ensures.living ∙ c.if-not-lives.true; same = refl };
  told_is = refl;
  bytes_lie = no_byte_lies c.args.into.now;
}

pub returns : goal.returns
returns c =
    let made = c.resume_into.ensures in
    record {
      reply = Some made.answers.reply;
      is = record {
        lived = sym c.lives.ensures.living ∙ c.if-not-lives.false;
        lives = made.lives;
        number = made.number;
        frames = made.frames;
        limits = made.limits;
        answers = made.answers.is;
        others = made.others;
        allocators = made.allocators;
        covered = made.covered;
      };
      told_is = ap Some made.answers.told_is;
      bytes_lie = made.answers.bytes_lie;
    }
