-- Which call it is, the tables tell. What it adds for frames is that no more are live than slots in use.

use Rattle.std.proofs.Common.{◌≡◌, ℕ, Some, Err, false, refl, sym, ap, subst, ◌∙◌, rules}
use Rattle.pf_space.proofs.Common.{Namespace}
use Rattle.pf_machine.specs.Machine.{call_of as machine_call_of, hands_out}
use Rattle.pf_tables.specs.Rows.{call_of}
use Rattle.pf_tables.proofs.MeaningLaws.{settled-meaning}
use Rattle.pf_tables.proofs.OwnsLaws.{held_occupied, none_empty}
use Rattle.pf_space.proofs.ParkedInto.{Resumed, others_refused, others_told}
use Rattle.pf_space.proofs.ParkedResume as lemmas
use Rattle.pf_space.proofs.space.Space.resume_into.Goals as goal

-- it isn't woken

pub returns-in_err-fd-clause-answers : goal.returns-in_err-fd-clause-answers
returns-in_err-fd-clause-answers g c =
    let f = g.F.Frames.live c.args.door.now in
    let still = rw c.self.view_is at c.settled.ensures in
    let told =
    others_refused f f c.args.self.now c.wake.new.self c.args.pid (Err c.in_err-fd.field-0.0) c.args.buffer.now
    c.in_err-fd.field-0.0 (lemmas.not_woken f c.self.view_is c.args.pid c.in_err-fd.ensures c.requires.door.owns)
    (settled-meaning f c.args.self.now.state still) refl in
    search rules

pub returns-in_err-fd-clause-spread : goal.returns-in_err-fd-clause-spread
returns-in_err-fd-clause-spread g c =
    let told =
    lemmas.not_woken (g.F.Frames.live c.args.door.now) c.self.view_is c.args.pid c.in_err-fd.ensures
    c.requires.door.owns in
    held_occupied _ c.wake.new.self (g.met.F.Frames.sound _ c.requires.door.fact) told.owns

-- a read

pub returns-in-Some-Read-clause-answers : goal.returns-in-Some-Read-clause-answers
returns-in-Some-Read-clause-answers g c =
    let f = g.F.Frames.live c.args.door.now in
    let answers =
    c.fill_again.ensures.answers c.self.inside.tables
    (lemmas.woken_for c.args.pid c.in_ok-fd.ensures (c.in-Some-Read.is ∙ ap Some c.in-Some-Read.field-0-is)) in
    subst (λ (n : Namespace). Resumed f (g.F.Frames.live c.fill_again.new.door) n c.fill_again.new.self c.args.pid
    c.fill_again.result c.args.buffer.now c.fill_again.new.buffer) c.self.view_is answers

pub returns-in-Some-Read-clause-spread : goal.returns-in-Some-Read-clause-spread
returns-in-Some-Read-clause-spread g c =
    held_occupied _ c.fill_again.new.self (g.met.F.Frames.sound _ c.fill_again.ensures.door.fact)
    c.fill_again.ensures.owns

-- another transfer

pub returns-in-Some-clause-answers : goal.returns-in-Some-clause-answers
returns-in-Some-clause-answers g c =
    let f = g.F.Frames.live c.args.door.now in
    let woken = lemmas.woken_for c.args.pid c.in_ok-fd.ensures c.in-Some.is in
    let quiet : hands_out {N = ℕ} (Some (call_of c.in-Some.call)) ≡ false = search rules in
    others_told f (g.F.Frames.live c.go_on.new.door) c.args.self.now c.go_on.new.self c.args.pid c.number_told.result
    c.args.buffer.now
    (ap (λ (n : Namespace). hands_out (machine_call_of n.state c.args.pid)) (sym c.self.view_is)
    ∙ ap hands_out woken.waited ∙ quiet) c.go_on.result
    (lemmas.told_seen c.self.view_is c.args.pid (c.go_on.ensures.told c.self.inside.tables woken))
    c.number_told.ensures

pub returns-in-Some-clause-spread : goal.returns-in-Some-clause-spread
returns-in-Some-clause-spread g c =
    let woken = lemmas.woken_for c.args.pid c.in_ok-fd.ensures c.in-Some.is in
    held_occupied _ c.go_on.new.self (g.met.F.Frames.sound _ c.go_on.ensures.door.fact)
    (c.go_on.ensures.told c.self.inside.tables woken).owns

pub returns-in-Some-clause-none : goal.returns-in-Some-clause-none
returns-in-Some-clause-none g c =
    let woken = lemmas.woken_for c.args.pid c.in_ok-fd.ensures c.in-Some.is in
    none_empty _ c.go_on.new.self (g.met.F.Frames.sound _ c.go_on.ensures.door.fact)
    (c.go_on.ensures.told c.self.inside.tables woken).owns

-- an open

pub returns-in-None-clause-owns : goal.returns-in-None-clause-owns
returns-in-None-clause-owns g c =
    let told =
    lemmas.reopened (g.F.Frames.live c.args.door.now) c.self.view_is c.args.pid c.in_ok-fd.ensures c.in-None.is
    c.requires.door.owns c.resume_open.ensures in
    told.owns

pub returns-in-None-clause-spread : goal.returns-in-None-clause-spread
returns-in-None-clause-spread g c =
    held_occupied _ c.resume_open.new.self (g.met.F.Frames.sound _ c.requires.door.fact)
    (returns-in-None-clause-owns g c)

pub returns-in-None-clause-answers : goal.returns-in-None-clause-answers
returns-in-None-clause-answers g c =
    let f = g.F.Frames.live c.args.door.now in
    let view = (lemmas.waits_on c.args.pid c.in_ok-fd.ensures c.in-None.is).0 ∙ c.self.view_is in
    others_told f f c.args.self.now c.resume_open.new.self c.args.pid c.number_told-in-None.result c.args.buffer.now
    (ap (λ (n : Namespace). hands_out (machine_call_of n.state c.args.pid)) (sym view)
    ∙ ap hands_out c.resume_open.ensures.waits) c.resume_open.result
    (lemmas.reopened f c.self.view_is c.args.pid c.in_ok-fd.ensures c.in-None.is c.requires.door.owns
    c.resume_open.ensures) c.number_told-in-None.ensures
