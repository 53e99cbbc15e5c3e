-- The step is made where the gate was told of it, over the namespace that was looked at; and what the caller is told is what the
-- lone machine says after the entries that stood there.
use Rattle.std.proofs.Common.{◌≡◌, ◌<◌, ◌≤◌, ℕ, length, sym, ap, ◌∙◌, subst, arith}
use Rattle.pf_machine.specs.Queue.{Segment}
use Rattle.pf_machine.specs.State.{Outcome}
use Rattle.pf_machine.specs.Machine.{step_of}
use Rattle.pf_machine.specs.Replies.{reply_length}
use Rattle.pf_service.specs.Log.{Log, IsLogged}
use Rattle.pf_service.specs.Told.{Told}
use Rattle.pf_service.specs.declared.TheConstants.{MAX_ENTRIES}
use Rattle.pf_service.proofs.LogLaws.{told}
use Rattle.pf_service.proofs.place.kept_event.Goals as goal

pub log-requires-clause-passed : goal.log-requires-clause-passed
log-requires-clause-passed g c =
    let same : c.get_ref.result.now ≡ c.take_room.new.self.logged = c.get_ref.ensures ∙ sym c.take_room.ensures.logged in
    subst (λ (place : ℕ). g.G.Gate.passed c.args.gate.now c.ns-ns.result place)
    (c.in-Ok.ensures.place ∙ ap (λ (l : Log g.row.A.Denot). length l.transcript) same) c.pass.ensures

pub log-requires-clause-room : goal.log-requires-clause-room
log-requires-clause-room g c =
    subst (λ (l : Log g.row.A.Denot). length l.transcript < MAX_ENTRIES) (c.get_ref.ensures ∙ sym c.take_room.ensures.logged) c.in-Ok.ensures.room

pub log-requires-clause-covers : goal.log-requires-clause-covers
log-requires-clause-covers g c =
    subst (λ (l : Log g.row.A.Denot). reply_length (step_of l.limits l.state c.args.step.now).reply ≤ c.reply_bound-bound.result)
    (c.get_ref-3.ensures ∙ sym c.take_room.ensures.logged) c.reply_bound-bound.ensures.covers

pub returns-clause-place : goal.returns-clause-place
returns-clause-place g c =
    (c.ns-ns.ensures, c.in-Ok.ensures.place ∙ ap (λ (l : Log g.row.A.Denot). length l.transcript) c.get_ref.ensures)

pub returns-clause-room : goal.returns-clause-room
returns-clause-room g c = subst (λ (l : Log g.row.A.Denot). length l.transcript < MAX_ENTRIES) c.get_ref.ensures c.in-Ok.ensures.room

pub returns-clause-logged : goal.returns-clause-logged
returns-clause-logged g c =
    subst (λ (l : Log g.row.A.Denot). IsLogged l c.keep_room.new.self.logged c.args.step.now c.in-Ok-log.reply) c.take_room.ensures.logged
    (subst (λ (l : Log g.row.A.Denot). IsLogged c.take_room.new.self.logged l c.args.step.now c.in-Ok-log.reply) (sym c.keep_room.ensures.logged)
    c.in-Ok-log.ensures.logged)

pub returns-clause-passed : goal.returns-clause-passed
returns-clause-passed g c = c.pass.ensures

pub returns-clause-framed : goal.returns-clause-framed
returns-clause-framed g c = λ more.
    let before = ap (λ (l : Log g.row.A.Denot). l.held) c.take_room.ensures.logged in
    let after = ap (λ (l : Log g.row.A.Denot). l.held) c.keep_room.ensures.logged in
    c.in-Ok-log.ensures.framed (omega (arith, more, before, after))

pub returns-clause-told : goal.returns-clause-told
returns-clause-told g c =
    let l = c.get_ref.result.now in
    let step = c.args.step.now in
    let reply = c.in-Ok-log.reply in
    subst (λ (place : ℕ). Told step place reply) (sym c.in-Ok.ensures.place)
    (told l.limits l.state l.transcript step reply c.in-Ok.ensures.ran
    (ap (λ (o : Outcome Segment ℕ). o.reply) c.in-Ok-log.ensures.logged.told
    ∙ ap (λ (m : Log g.row.A.Denot). (step_of m.limits m.state step).reply) (c.take_room.ensures.logged ∙ sym c.get_ref.ensures)))
