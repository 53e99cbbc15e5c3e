-- There are as many namespaces as spaces.
use Rattle.std.proofs.Common.{◌≡◌, length, sym, ◌∙◌, rules}
use Rattle.pf_plain.proofs.PlainLemmas.{number}
use Rattle.pf_plain.proofs.plain.Plain.namespaces.Goals as goal

pub returns : goal.returns
returns g c =
    let spaces : c.len.result ≡ length c.self.inside.spaces.items = search rules in
    spaces ∙ sym (number c.self.inside.pool c.self.inside.spaces.items c.args.self.now c.self.view_is)
