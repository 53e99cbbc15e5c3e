-- What was compared is what lay behind the locks.
use Rattle.std.proofs.Common.{◌≡◌, ℕ, List, length, ap, sym, ◌∙◌, subst, arith}
use Rattle.std.specs.List.{range_with_len}
use Rattle.pf_service.specs.Seats.{AreGiven}
use Rattle.pf_service.specs.Transcripts.{OneTranscript, IsLone, transcript_at}
use Rattle.pf_service.proofs.JudgeLaws.{closed, unlocked_fault, lone_at}
use Rattle.pf_service.proofs.PlaceLaws.{counted}
use Rattle.pf_service.proofs.service.Service.close_by.Goals as goal

pub unlock-requires-clause-numbered : goal.unlock-requires-clause-numbered
unlock-requires-clause-numbered g c =
    let all : length c.self.inside.places.items ≡ length c.self.inside.configs.items
    = counted c.self.inside.places.items (length c.self.inside.configs.items) c.self.inside.numbered in
    c.self.inside.numbered ∙ ap (range_with_len 0) (sym all)

pub unlock-requires-clause-few : goal.unlock-requires-clause-few
unlock-requires-clause-few g c =
    omega (arith, counted c.self.inside.places.items (length c.self.inside.configs.items) c.self.inside.numbered, c.self.inside.few)

pub returns-in_default-clause-fault : goal.returns-in_default-clause-fault
returns-in_default-clause-fault g c = tt

pub returns-in_err-compare-clause-fault : goal.returns-in_err-compare-clause-fault
returns-in_err-compare-clause-fault g c =
    unlocked_fault (g.W.Unlocks.lay c.args.way.now) c.args.self c.args.seats.items c.deref.result.now c.deref-4.result.now
    c.in-Ok.transcripts.items c.deref-2.result.now c.in-Ok.given.items c.deref-3.result.now
    c.in_err-compare.field-0.0 c.from_residual.result
    (c.deref.ensures.value ∙ c.self.view_is) c.deref-4.ensures.value c.deref-2.ensures.value c.deref-3.ensures.value
    c.in-Ok.ensures.lay c.from_residual.ensures.1 c.in_err-compare.ensures.cause

pub compare-requires-clause-few : goal.compare-requires-clause-few
compare-requires-clause-few g c =
    omega (arith, ap (λ (ns : List ℕ). length ns) c.deref-3.ensures.value, c.in-Ok.ensures.few)

pub returns-clause-closed : goal.returns-clause-closed
returns-clause-closed g c =
    closed c.args.self c.deref.result.now c.args.seats.items c.deref-4.result.now
    c.new.result c.deref-2.result.now c.deref-3.result.now
    (c.deref.ensures.value ∙ c.self.view_is) c.deref-4.ensures.value (c.deref-2.ensures.value ∙ sym c.new.ensures)
    c.in_ok-compare.ensures.agree
    (λ n. subst (λ (ts : List OneTranscript). IsLone (transcript_at ts n)) (sym c.deref-2.ensures.value)
    (lone_at c.in-Ok.transcripts.items c.in-Ok.ensures.alone n))
    c.in_ok-compare.ensures.given

pub returns-clause-all : goal.returns-clause-all
returns-clause-all g c = (
  c.in-Ok.given.items,
  subst (λ (ts : List OneTranscript). g.W.Unlocks.lay c.args.way.now ts c.in-Ok.given.items)
      (sym c.new.ensures) c.in-Ok.ensures.lay,
  subst (λ (ns : List ℕ). AreGiven ns c.args.seats.items) c.deref-3.ensures.value
      (subst (AreGiven c.deref-3.result.now) c.deref-4.ensures.value c.in_ok-compare.ensures.given),
)
