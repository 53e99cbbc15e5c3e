use Rattle.std.proofs.Common.{◌≡◌, ◌≤◌, nat_eq, sym, ap, ◌∙◌, arith}
use Rattle.std.specs.Prelude.{unwrap_or}
use Rattle.std.specs.HashMap.{get}
use Rattle.pf_limits.proofs.KeptLaws.{charged-le-total, IsKept-gone, IsKept-refund}
use Rattle.pf_limits.specs.UserPages.{charged_to}
use Rattle.pf_limits.proofs.user_pages.UserPages.refund.Goals as goal

pub invariant_of-self : goal.invariant_of-self
invariant_of-self c =
    let was : c.charged.result ≡ unwrap_or (get nat_eq c.self.inside.users c.args.uid) 0 =
    c.charged.ensures.number ∙ sym (ap (λ p. charged_to p c.args.uid) c.self.view_is) in
    let enough : c.args.pages ≤ c.charged.result = omega (arith, c.charged.ensures.number, c.requires) in
    let within = charged-le-total c.self.inside.users c.args.uid _ _ c.self.invariant in
    IsKept-gone c.self.inside.users c.remove.new.self c.args.uid _ _ _ c.args.pages c.self.invariant
    (omega (arith, was, within, enough)) (omega (arith, c.if-left-eq0.true, was, enough))
    c.remove.ensures.entries c.remove.ensures.updates.0

pub invariant_of-self-2 : goal.invariant_of-self-2
invariant_of-self-2 c =
    let finds = c.in-Some.ensures.value in
    let had : unwrap_or (get nat_eq c.self.inside.users c.args.uid) 0 ≡ c.in-Some.charged.now = sym (ap (λ o. unwrap_or o 0) finds) in
    let was : c.charged.result ≡ c.in-Some.charged.now =
    c.charged.ensures.number ∙ sym (ap (λ p. charged_to p c.args.uid) c.self.view_is) ∙ had in
    let enough : c.args.pages ≤ c.charged.result = omega (arith, c.charged.ensures.number, c.requires) in
    let within = charged-le-total c.self.inside.users c.args.uid _ _ c.self.invariant in
    IsKept-refund c.self.inside.users c.get_mut.follows.lender c.args.uid _ _ _ c.args.pages _ _ c.self.invariant
    c.get_mut.follows.holds (sym finds) (omega (arith, was, had, within, enough)) (omega (arith, was, enough)) (omega (arith, c.if-left-eq0.false))
