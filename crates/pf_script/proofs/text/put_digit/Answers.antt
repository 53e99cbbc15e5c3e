use Rattle.std.proofs.lemmas.Fmt.{decimal_digit}
use Rattle.pf_script.proofs.text.put_digit.Goals as goal

pub returns : goal.returns
returns g c = rw (decimal_digit c.args.n c.requires) c.put.ensures
