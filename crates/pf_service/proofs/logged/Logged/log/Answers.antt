-- The transcript has the event at its end, and where the event is refused, what it had.
use Rattle.std.proofs.Common.{◌≡◌, ℕ, ◌++◌, [], ◌∷◌, List, ap, refl, sym, subst, ◌∙◌, arith}
use Rattle.pf_machine.specs.Queue.{Segment}
use Rattle.pf_machine.specs.State.{Outcome}
use Rattle.pf_machine.specs.Machine.{step_of}
use Rattle.pf_machine.specs.Replies.{reply_length}
use Rattle.pf_base.specs.declared.step.Step.{Step}
use Rattle.pf_base.specs.declared.step.Reply.{Reply}
use Rattle.pf_service.specs.Log.{Log, log_of, IsLog}
use Rattle.pf_service.specs.declared.logged.Logged.TheInside.{Inside}
use Rattle.pf_service.proofs.LogLaws.{made, next, stays, on_err}
use Rattle.pf_service.proofs.logged.Logged.log.Goals as goal

pub returns-in_err-reserve-clause-unchanged : goal.returns-in_err-reserve-clause-unchanged
returns-in_err-reserve-clause-unchanged g c =
    let was = ap (λ (i : Inside g.row.A.Denot). log_of i.placed i.loans i.transcript) c.self-inside.view_is ∙ c.self.view_is in
    on_err _ c.from_residual.result (stays c.self-inside.inside.0.1.0 c.self-inside.inside.0.1.0 c.self-inside.inside.0.1.1.0 c.self-inside.inside.0.1.1.0 c.self-inside.inside.0.1.1.1.0.config c.self-inside.inside.0.1.1.1.0.entries.items c.reserve.new.self.items refl refl c.reserve.ensures.items ∙ was, refl)

pub returns-in_err-asked-clause-unchanged : goal.returns-in_err-asked-clause-unchanged
returns-in_err-asked-clause-unchanged g c =
    let was = ap (λ (i : Inside g.row.A.Denot). log_of i.placed i.loans i.transcript) c.self-inside.view_is ∙ c.self.view_is in
    on_err _ c.from_residual-in_err-asked.result (stays c.self-inside.inside.0.1.0 c.self-inside.inside.0.1.0 c.self-inside.inside.0.1.1.0 c.self-inside.inside.0.1.1.0 c.self-inside.inside.0.1.1.1.0.config c.self-inside.inside.0.1.1.1.0.entries.items c.reserve.new.self.items refl refl c.reserve.ensures.items ∙ was, refl)

pub returns-in_default-clause-unchanged : goal.returns-in_default-clause-unchanged
returns-in_default-clause-unchanged g c =
    let was = ap (λ (i : Inside g.row.A.Denot). log_of i.placed i.loans i.transcript) c.self-inside.view_is ∙ c.self.view_is in
    (stays c.self-inside.inside.0.1.0 c.self-inside.inside.0.1.0 c.self-inside.inside.0.1.1.0 c.self-inside.inside.0.1.1.0 c.self-inside.inside.0.1.1.1.0.config c.self-inside.inside.0.1.1.1.0.entries.items c.reserve.new.self.items refl refl c.reserve.ensures.items ∙ was, refl)

pub returns-in_default-step_over-clause-unchanged : goal.returns-in_default-step_over-clause-unchanged
returns-in_default-step_over-clause-unchanged g c =
    let was = ap (λ (i : Inside g.row.A.Denot). log_of i.placed i.loans i.transcript) c.self-inside.view_is ∙ c.self.view_is in
    let same = c.step_over.ensures.unchanged c.in_default-step_over.is in
    (stays c.self-inside.inside.0.1.0 c.step_over.new.placed c.self-inside.inside.0.1.1.0 c.step_over.new.loans c.self-inside.inside.0.1.1.1.0.config c.self-inside.inside.0.1.1.1.0.entries.items c.reserve.new.self.items same.0 same.2 c.reserve.ensures.items ∙ was, same.1)

pub copy-told-requires : goal.copy-told-requires
copy-told-requires g c =
    let step = c.args.step.now in
    let was = ap (λ (i : Inside g.row.A.Denot). log_of i.placed i.loans i.transcript) c.self-inside.view_is ∙ c.self.view_is in
    let log = subst (λ (i : Inside g.row.A.Denot). IsLog i.placed.space i.loans i.transcript) (sym c.self-inside.view_is) c.self.invariant in
    let answers = made c.self-inside.inside.0.1.0.space c.step_over.new.placed.space c.self-inside.inside.0.1.1.0 c.step_over.new.loans (record { limits = c.self-inside.inside.0.1.1.1.0.config; entries = c.self-inside.inside.0.1.1.1.0.entries.items }) step c.in-Done.reply log c.in-Done.ensures.moved.answers in
    let told : c.in-Done.reply ≡ (step_of c.args.self.now.limits c.args.self.now.state step).reply =
    ap (λ (o : Outcome Segment ℕ). o.reply) answers ∙ ap (λ (l : Log g.row.A.Denot). (step_of l.limits l.state step).reply) was in
    omega (arith, ap reply_length told, c.requires.covers, c.in-Ok.ensures.enough)

pub invariant_of-self-2 : goal.invariant_of-self-2
invariant_of-self-2 g c =
    let step = c.args.step.now in
    let reply = c.in-Done.reply in
    let log = subst (λ (i : Inside g.row.A.Denot). IsLog i.placed.space i.loans i.transcript) (sym c.self-inside.view_is) c.self.invariant in
    let more =
    c.push_reserved.ensures.items
    ∙ ap (λ (es : List (Step × Reply)). es ++ (c.in_ok-asked.asked, c.copy-told.result) ∷ []) c.reserve.ensures.items
    ∙ ap (λ (s : Step). c.self-inside.inside.0.1.1.1.0.entries.items ++ (s, c.copy-told.result) ∷ []) c.in_ok-asked.ensures.same
    ∙ ap (λ (r : Reply). c.self-inside.inside.0.1.1.1.0.entries.items ++ (step, r) ∷ []) c.copy-told.ensures.same in
    next c.self-inside.inside.0.1.0.space c.step_over.new.placed.space c.self-inside.inside.0.1.1.0 c.step_over.new.loans (record { limits = c.self-inside.inside.0.1.1.1.0.config; entries = c.self-inside.inside.0.1.1.1.0.entries.items }) c.push_reserved.new.self.items step reply log c.in-Done.ensures.moved.owns c.in-Done.ensures.moved.limits c.in-Done.ensures.moved.answers more

pub returns-clause-logged : goal.returns-clause-logged
returns-clause-logged g c =
    let step = c.args.step.now in
    let reply = c.in-Done.reply in
    let was = ap (λ (i : Inside g.row.A.Denot). log_of i.placed i.loans i.transcript) c.self-inside.view_is ∙ c.self.view_is in
    let log = subst (λ (i : Inside g.row.A.Denot). IsLog i.placed.space i.loans i.transcript) (sym c.self-inside.view_is) c.self.invariant in
    let answers = made c.self-inside.inside.0.1.0.space c.step_over.new.placed.space c.self-inside.inside.0.1.1.0 c.step_over.new.loans (record { limits = c.self-inside.inside.0.1.1.1.0.config; entries = c.self-inside.inside.0.1.1.1.0.entries.items }) step reply log c.in-Done.ensures.moved.answers in
    record {
      limits = ap (λ (l : Log g.row.A.Denot). l.limits) was;
      allocator = c.in-Done.ensures.allocator ∙ ap (λ (l : Log g.row.A.Denot). l.allocator) was;
      transcript =
          c.push_reserved.ensures.items
          ∙ ap (λ (es : List (Step × Reply)). es ++ (c.in_ok-asked.asked, c.copy-told.result) ∷ []) c.reserve.ensures.items
          ∙ ap (λ (s : Step). c.self-inside.inside.0.1.1.1.0.entries.items ++ (s, c.copy-told.result) ∷ []) c.in_ok-asked.ensures.same
          ∙ ap (λ (r : Reply). c.self-inside.inside.0.1.1.1.0.entries.items ++ (step, r) ∷ []) c.copy-told.ensures.same
          ∙ ap (λ (l : Log g.row.A.Denot). l.transcript ++ (step, reply) ∷ []) was;
      told = answers ∙ ap (λ (l : Log g.row.A.Denot). step_of l.limits l.state step) was;
    }
