use Rattle.pf_play.proofs.run.replay.Goals as goal

pub returns-clause-played : goal.returns-clause-played
returns-clause-played g c = c.replay_script-end.ensures.played (g.R.Source.input c.args.reader.now)
    (g.R.Source.input c.read_script.new.reader) c.in_ok-script.ensures.read

pub returns-clause-fault : goal.returns-clause-fault
returns-clause-fault g c = c.replay_script-end.ensures.fault (g.R.Source.input c.args.reader.now)
    (g.R.Source.input c.read_script.new.reader) c.in_ok-script.ensures.read
