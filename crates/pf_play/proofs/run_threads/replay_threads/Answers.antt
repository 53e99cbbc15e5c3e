use Rattle.pf_play.proofs.run_threads.replay_threads.Goals as goal

pub returns-clause-played : goal.returns-clause-played
returns-clause-played g c = c.replay_script_threads-end.ensures.played (g.R.Source.input c.args.reader.now)
    (g.R.Source.input c.read_script.new.reader) c.in_ok-script.ensures.read

pub returns-clause-fault : goal.returns-clause-fault
returns-clause-fault g c = c.replay_script_threads-end.ensures.fault (g.R.Source.input c.args.reader.now)
    (g.R.Source.input c.read_script.new.reader) c.in_ok-script.ensures.read

pub returns-clause-passed : goal.returns-clause-passed
returns-clause-passed g c = c.replay_script_threads-end.ensures.passed (g.R.Source.input c.args.reader.now)
    (g.R.Source.input c.read_script.new.reader) c.in_ok-script.ensures.read

pub returns-clause-framed : goal.returns-clause-framed
returns-clause-framed g c = c.replay_script_threads-end.ensures.framed (g.R.Source.input c.args.reader.now)
    (g.R.Source.input c.read_script.new.reader) c.in_ok-script.ensures.read
