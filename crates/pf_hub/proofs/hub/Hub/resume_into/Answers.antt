-- Each clause is a part of that one fact.

use Rattle.pf_hub.proofs.hub.Hub.resume_into.Goals as goal

pub returns-clause-number : goal.returns-clause-number
returns-clause-number g c = c.resume_in.ensures.stepped.is.number

pub returns-clause-lives : goal.returns-clause-lives
returns-clause-lives g c = c.resume_in.ensures.stepped.is.lives

pub returns-clause-frames : goal.returns-clause-frames
returns-clause-frames g c = c.resume_in.ensures.stepped.is.frames

pub returns-clause-limits : goal.returns-clause-limits
returns-clause-limits g c = c.resume_in.ensures.stepped.is.limits

pub returns-clause-answers : goal.returns-clause-answers
returns-clause-answers g c =
    let told = c.resume_in.ensures.stepped in
    record { reply = told.reply; is = told.is.answers; told_is = told.told_is; bytes_lie = told.bytes_lie }

pub returns-clause-others : goal.returns-clause-others
returns-clause-others g c = c.resume_in.ensures.stepped.is.others

pub returns-clause-covered : goal.returns-clause-covered
returns-clause-covered g c = c.resume_in.ensures.stepped.is.covered
