use Rattle.std.proofs.Common.{map, string_bytes}
use Rattle.pf_play.proofs.ProgramLaws.{obeyed}
use Rattle.pf_play.proofs.program.obey.Goals as goal

pub returns-in-Ok-clause-obeys : goal.returns-in-Ok-clause-obeys
returns-in-Ok-clause-obeys g c =
    let asked = c.in-Ok.ensures in
    obeyed (map string_bytes c.args.words.now) _ _ _ _ _ _ _ _ asked.refusals asked.threads asked.tree_heap asked.only c.do_asked.ensures.run
    c.do_asked.ensures.one_thread
