-- The answers to lines, in either of the forms that they are kept in.

use Rattle.std.specs.Prelude.{List}
use Rattle.pf_base.specs.declared.admission.EventAnswer.{EventAnswer}
use Rattle.pf_script.specs.declared.answers.Answers.{Answers}
use Rattle.pf_script.specs.declared.answers.Answers.TheVariants as forms

abbrev pub answers_in : Answers → List EventAnswer
answers_in (forms.Whole all) = all.now
answers_in (forms.Short all) = all.now
