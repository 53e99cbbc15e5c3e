use Rattle.std.proofs.Common.{◌≡◌, None, sym, ap, ◌∙◌, rules}
use Rattle.pf_machine.specs.Numbered.{at}
use Rattle.pf_fds.proofs.Takes.{at-padded}
use Rattle.pf_fds.proofs.places.Places.get.Goals as goal

pub returns-in_default : goal.returns-in_default
returns-in_default g c =
    let none : None ≡ at c.self.inside.values.items c.args.n = search rules in
    none ∙ sym (at-padded c.self.inside.values.items c.args.n) ∙ ap (λ xs. at xs c.args.n) c.self.view_is
