use Rattle.std.proofs.Common.{rules, ◌≡◌, ◌+◌, ◌≤◌, nat_eq, sym, ap, subst, ◌∙◌, arith}
use Rattle.std.specs.Prelude.{unwrap_or}
use Rattle.std.specs.HashMap.{get}
use Rattle.pf_limits.proofs.KeptLaws.{IsKept-charge}
use Rattle.pf_limits.specs.UserPages.{UserPages, charged_to}
use Rattle.pf_limits.proofs.user_pages.UserPages.charge.Goals as goal

pub invariant_of-self-2 : goal.invariant_of-self-2
invariant_of-self-2 c =
    let was : c.charged.result ≡ unwrap_or (get nat_eq c.self.inside.users c.args.uid) 0 =
    c.charged.ensures.number ∙ sym (ap (λ p. charged_to p c.args.uid) c.self.view_is) in
    let within : c.self.inside.total + c.args.pages ≤ c.self.inside.config.reserve =
    subst (λ (p : UserPages). p.total + c.args.pages ≤ p.limits.reserve) (sym c.self.view_is) c.requires in
    let inserts = c.in_ok-insert.ensures in
    IsKept-charge c.self.inside.users c.insert.new.self c.args.uid _ _ _ c.args.pages c.self.invariant _ _
    (omega arith) (omega (arith, within)) (omega (arith, was)) (omega (arith, c.if-pages-eq0.false))
    inserts.old inserts.entries inserts.updates.0

pub returns-then-pages-eq0-clause-known : goal.returns-then-pages-eq0-clause-known
returns-then-pages-eq0-clause-known g c = search rules steps 20000
