-- What is said of the event, of its receipt, which is appended.
use Rattle.std.proofs.Common.{ℕ, ◌++◌, ◌∷◌, [], List, ap, ◌∙◌, subst}
use Rattle.pf_service.specs.declared.receipt.Receipt.{Receipt}
use Rattle.pf_service.specs.Tenants.{IsToldOfMore}
use Rattle.pf_service.proofs.waiting.try_once.Goals as goal

pub returns-in-Ok-clause-tried : goal.returns-in-Ok-clause-tried
returns-in-Ok-clause-tried g c =
    let r = c.in-Ok.receipt in
    let at = c.in-Ok.ensures.told.0 in
    let passed = subst (λ (n : ℕ). g.G.Gate.passed c.args.gate.now n r.place) at c.in-Ok.ensures.passed in
    let appended =
    c.push_reserved.ensures.items
    ∙ ap (λ (rs : List Receipt). rs ++ r ∷ []) c.make_room.ensures.kept
    ∙ ap (λ (n : ℕ). let s : Receipt = record { ns = n; place = r.place; reply = r.reply } in c.args.receipts.now.items ++ s ∷ []) at in (
      r.place,
      r.reply,
      record { gains = c.in-Ok.ensures.kept; receipts = appended; says = (c.in-Ok.ensures.told.1, passed) },
      c.is_same-waits.ensures,
      c.in-Ok.ensures.event,
      c.in-Ok.ensures.woken,
      c.in-Ok.ensures.awaited,
    )

pub returns-in-Ok-clause-framed : goal.returns-in-Ok-clause-framed
returns-in-Ok-clause-framed g c =
    subst (λ (n : ℕ). IsToldOfMore (g.G.Gate.framed c.args.gate.now n) c.args.seated.now.tenant c.event_of.new.seated.tenant) c.in-Ok.ensures.told.0
    c.in-Ok.ensures.framed
