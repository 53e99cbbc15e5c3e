-- Each namespace that there is lives.
use Rattle.std.proofs.Common.{◌≡◌, nat_lt, length, ap, sym, ◌∙◌, rules}
use Rattle.pf_plain.proofs.PlainLemmas.{living_is}
use Rattle.pf_plain.proofs.plain.Plain.lives.Goals as goal

pub returns : goal.returns
returns g c =
    let spaces : c.len.result ≡ length c.self.inside.spaces.items = search rules in
    ap (nat_lt c.args.ns) spaces
    ∙ sym (living_is c.self.inside.pool c.self.inside.spaces.items c.args.self.now c.args.ns c.self.view_is)
