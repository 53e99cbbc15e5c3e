use Rattle.std.proofs.Common.{rules, true, refl, sym, ◌∙◌, ◌≡◌, ℕ, Option, option_copied}
use Rattle.std.proofs.lemmas.Result.{IfErr-weaker, IfOk-weaker}
use Rattle.pf_script.specs.Ports.{IsWritten}
use Rattle.pf_script.specs.Script.{read_script}
use Rattle.pf_script.specs.Text.{text}
use Rattle.pf_play.specs.Plays.{nomem_of}
use Rattle.pf_play.specs.Replays.{Names}
use Rattle.pf_play.specs.Workers.{IsPassedFor}
use Rattle.pf_play.proofs.EngineLaws.{cut_short, from_ok, judged, told_framed, told_whole}
use Rattle.pf_play.proofs.run_threads.replay_script_threads.Goals as goal

pub print_answers-end-requires : goal.print_answers-end-requires
print_answers-end-requires g c = let run = c.in_ok-answered.ensures.played in (c.in-Ok.only, run.0, run.1)

pub returns-clause-played : goal.returns-clause-played
returns-clause-played g c =
    let run = c.in_ok-answered.ensures.played in
    λ input rest read. IfOk-weaker c.print_answers-end.result _ _
    (λ r told. (
      read.0,
      read.1,
      told_whole true _ _ _ _ _ _ _ _ read.2 (λ e. sym c.comes_and_goes.ensures.comes ∙ c.if-comes_and_goes.false)
          c.in-Ok.ensures.names run.2 told.0 told.1,
    ))
    (c.print_answers-end.ensures.written c.in-Ok.only run.0 run.1)

pub returns-clause-fault : goal.returns-clause-fault
returns-clause-fault g c =
    let run = c.in_ok-answered.ensures.played in
    λ input rest read. IfErr-weaker c.print_answers-end.result _ _
    (λ fault told. rw told.0 (
      read.0,
      read.1,
      cut_short true _ _ _ _ _ _ _ _ read.2 (λ e. sym c.comes_and_goes.ensures.comes ∙ c.if-comes_and_goes.false)
          c.in-Ok.ensures.names run.2 refl told.1,
    ))
    (c.print_answers-end.ensures.cut c.in-Ok.only run.0 run.1)

pub returns-clause-passed : goal.returns-clause-passed
returns-clause-passed g c = λ input rest read ok.
    let passed = g.G.Gate.passed c.args.gate.now in
    let name = option_copied c.args.options.now.only in
    judged (λ script. (only : Option ℕ) × Names script name only × IsPassedFor passed script only) input rest
    c.args.script.now read (c.in-Ok.only, c.in-Ok.ensures.names, c.in_ok-answered.ensures.passed refl)

pub returns-clause-framed : goal.returns-clause-framed
returns-clause-framed g c = λ input rest read ok.
    let framed = g.G.Gate.framed c.args.gate.now in
    let name = option_copied c.args.options.now.only in
    let old = g.W.Sink.output c.args.writer.now in
    let new = g.W.Sink.output c.print_answers-end.new.writer in
    let script = c.args.script.now in
    let run = c.in_ok-answered.ensures.framed in
    let told = from_ok c.print_answers-end.result
    (λ r. IsWritten old new (text script run.0 c.in-Ok.only) × (r.nomem ≡ nomem_of run.0))
    (c.print_answers-end.ensures.written c.in-Ok.only run.0 run.1) ok in (
      read.0,
      read.1,
      told_framed framed old new script (read_script read.0) name c.in-Ok.only run.0 read.2 c.in-Ok.ensures.names run.2
          told.1.0 run.3,
    )

pub returns-in_default-clause-fault : goal.returns-in_default-clause-fault
returns-in_default-clause-fault g c = search rules steps 500000
