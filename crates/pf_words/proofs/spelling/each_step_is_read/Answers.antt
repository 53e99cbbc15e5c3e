use Rattle.pf_words.proofs.SpellingLaws.{each_step_is_read}
use Rattle.pf_words.proofs.spelling.each_step_is_read.Goals as goal

pub returns : goal.returns
returns c = each_step_is_read
