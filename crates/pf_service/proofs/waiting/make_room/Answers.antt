-- The transcript's end is looked at before want of memory is answered.
use Rattle.std.proofs.Common.{rules, ◌≡◌, ◌≤◌, ◌∙◌, length, sym, subst}
use Rattle.std.specs.Prelude.{Result, Ok, Err, IfErr, IsErrAnd}
use Rattle.pf_service.specs.declared.fault.ServiceFault.{ServiceFault}
use Rattle.pf_service.specs.declared.fault.ServiceFault.TheVariants.{TranscriptFull}
use Rattle.pf_service.specs.declared.TheConstants.{MAX_ENTRIES}
use Rattle.pf_service.specs.Faults.{IsApplyFault}
use Rattle.pf_service.specs.Log.{Log}
use Rattle.pf_service.proofs.waiting.make_room.Goals as goal

full : {T A : Type 0} (log log' : Log A) (e : ServiceFault) (r : Result T ServiceFault) → log' ≡ log
    → IsErrAnd r (λ x. x ≡ e) → (e ≡ TranscriptFull) × (MAX_ENTRIES ≤ length log'.transcript) → IfErr r (IsApplyFault log.transcript)
full log log' e (Ok x) same is at_end = tt
full {A = A} log log' e (Err x) same is at_end =
    subst (λ (l : Log A). IsApplyFault l.transcript x) same
    (subst (IsApplyFault log'.transcript) (sym (is ∙ at_end.0)) at_end.1)

pub returns-in_err-place-clause-fault : goal.returns-in_err-place-clause-fault
returns-in_err-place-clause-fault g c =
    full c.args.living.now.logged c.get_ref.result.now _ c.from_residual.result c.get_ref.ensures
    c.from_residual.ensures.1 c.in_err-place.ensures.fault

pub returns-then-is_err-clause-fault : goal.returns-then-is_err-clause-fault
returns-then-is_err-clause-fault g c = search rules steps 1000000

pub returns-clause-room : goal.returns-clause-room
returns-clause-room g c = search rules steps 1000000
