use Rattle.std.proofs.Common.{false, refl}
use Rattle.std.proofs.lemmas.Result.{IfErr-weaker, IfOk-weaker}
use Rattle.pf_play.proofs.EngineLaws.{cut_short, told_whole}
use Rattle.pf_play.proofs.run.replay_script.Goals as goal

pub print_answers-end-requires : goal.print_answers-end-requires
print_answers-end-requires g c = let run = c.in_ok-played.ensures.run in (c.in-Ok.only, run.0, run.1)

pub returns-clause-played : goal.returns-clause-played
returns-clause-played g c =
    let run = c.in_ok-played.ensures.run in
    λ input rest read. IfOk-weaker c.print_answers-end.result _ _
    (λ r told. (
      read.0,
      read.1,
      told_whole false _ _ _ _ _ _ _ _ read.2 (λ e. absurd (cc)) c.in-Ok.ensures.names run.2 told.0 told.1,
    ))
    (c.print_answers-end.ensures.written c.in-Ok.only run.0 run.1)

pub returns-clause-fault : goal.returns-clause-fault
returns-clause-fault g c =
    let run = c.in_ok-played.ensures.run in
    λ input rest read. IfErr-weaker c.print_answers-end.result _ _
    (λ fault told. rw told.0 (
      read.0,
      read.1,
      cut_short false _ _ _ _ _ _ _ _ read.2 (λ e. absurd (cc)) c.in-Ok.ensures.names run.2 refl told.1,
    ))
    (c.print_answers-end.ensures.cut c.in-Ok.only run.0 run.1)
