-- What a hub does at an event is what happens in its house.

use Rattle.std.proofs.Common.{◌≡◌, ℕ, ◌+◌, true, false, List, [], ◌∷◌, ◌++◌, length, map, refl, ap, sym, ◌∙◌}
use Rattle.std.proofs.Common.{subst, set, arith, inl, inr, length-set}
use Rattle.std.specs.Prelude.{Option, Some, None, is_some}
use Rattle.std.specs.Option.{option_map}
use Rattle.std.proofs.lemmas.Bool.{cases_eq}
use Rattle.std.proofs.lemmas.List.{length-map, map_push, map-set, set-get_or}
use Rattle.pf_base.specs.declared.admission.AdmitFault.{AdmitFault}
use Rattle.pf_base.specs.declared.admission.EventAnswer.TheVariants as told
use Rattle.pf_base.specs.declared.admission.RetireFault.{RetireFault}
use Rattle.pf_base.specs.declared.step.Answer.{Answer}
use Rattle.pf_base.specs.declared.step.Answer.TheVariants.{Done, NoMemory}
use Rattle.pf_base.specs.declared.step.Step.{Step}
use Rattle.pf_base.specs.Limits.{Limits}
use Rattle.pf_depot.specs.Admission.{IsAdmitFault}
use Rattle.pf_machine.specs.Queue.{Segment}
use Rattle.pf_machine.specs.Houses.{Guest, Turn, Stepping, Admitting, Retiring, Happens, MayWant, newcomer}
use Rattle.pf_machine.specs.Houses.{step_turn, admit_turn}
use Rattle.pf_machine.specs.Houses.{retire_turn, admit_fault, retire_fault}
use Rattle.pf_machine.specs.Machine.{Answers, step_of, may_want_memory}
use Rattle.pf_machine.specs.Numbered.{at, put_at, clear_at, sum_of, weight}
use Rattle.pf_machine.specs.State.{Outcome}
use Rattle.pf_machine.proofs.NumberedLaws.{at-map, at-put_same, at-put_other, at_within, same_at, sum_of-push}
use Rattle.pf_machine.proofs.NumberedLaws.{sum_of-set}
use Rattle.pf_hub.specs.Opening.{new_tenant}
use Rattle.pf_hub.specs.Stepped.{Stepped}
use Rattle.pf_hub.specs.Tenants.{Tenants, Tenant, Lives, guest_of, house_of, frames_in, held_at, tenant_or}
use Rattle.pf_hub.proofs.NeedLemmas.{may_want}
use Rattle.pf_hub.proofs.StepLemmas.{some_there}

guests : Tenants → List (Option Guest)
guests h = map (option_map guest_of) h.tenants

guest_there : (h : Tenants) (n : ℕ) (t : Tenant) → at h.tenants n ≡ Some t →
    at (map (option_map guest_of) h.tenants) n ≡ Some (guest_of t)
guest_there h n t is = at-map guest_of h.tenants n ∙ ap (option_map guest_of) is

-- A step

module _ (old new : Tenants) (n : ℕ) (step : Step) (a : Answer) (lives : Lives old n)
    (made : Stepped old new n step a) where
  abbrev was : (t : Tenant) × (at old.tenants n ≡ Some t)
  was = some_there (at old.tenants n) lives

  abbrev is : (t : Tenant) × (at new.tenants n ≡ Some t)
  is = some_there (at new.tenants n) made.lives

  abbrev t : Tenant
  t = was.0

  abbrev u : Tenant
  u = is.0

  limits : u.limits ≡ t.limits
  limits =
      ap (λ (o : Option Tenant). (tenant_or o).limits) (sym is.1) ∙ made.limits
      ∙ ap (λ (o : Option Tenant). (tenant_or o).limits) was.1

  answers : Answers t.limits a t.state step u.state
  answers =
      subst (λ (o : Option Tenant). Answers (tenant_or o).limits a (tenant_or o).state step u.state) was.1
      (subst (λ (o : Option Tenant). Answers (tenant_or (at old.tenants n)).limits a
      (tenant_or (at old.tenants n)).state step (tenant_or o).state) is.1 made.answers)

  -- the guests are the same but for n's
  put : (g : Guest) → guest_of u ≡ g →
      map (option_map guest_of) new.tenants ≡ put_at (map (option_map guest_of) old.tenants) n g
  put g same = same_at _ _ long each
    where
      long : length (map (option_map guest_of) new.tenants)
          ≡ length (put_at (map (option_map guest_of) old.tenants) n g)
      long =
          length-map new.tenants (option_map guest_of) ∙ made.number
          ∙ sym (length-map old.tenants (option_map guest_of))
          ∙ sym (length-set (map (option_map guest_of) old.tenants) n (Some g))

      each : (k : ℕ) → at (map (option_map guest_of) new.tenants) k
          ≡ at (put_at (map (option_map guest_of) old.tenants) n g) k
      each k = elim (cases_eq k n) [
        | inl own ↦
            subst (λ j. at (map (option_map guest_of) new.tenants) j
            ≡ at (put_at (map (option_map guest_of) old.tenants) n g) j) (sym own)
            (guest_there new n u is.1 ∙ ap (λ (x : Guest). Some x) same
            ∙ sym (at-put_same (map (option_map guest_of) old.tenants) n (Some g)
            (at_within (map (option_map guest_of) old.tenants) n (guest_of t) (guest_there old n t was.1))))
        | inr ne ↦
            at-map guest_of new.tenants k ∙ ap (option_map guest_of) (made.others k ne)
            ∙ sym (at-map guest_of old.tenants k)
            ∙ sym (at-put_other (map (option_map guest_of) old.tenants) n k (Some g) ne)
      ]

  turned : (b : Answer) → a ≡ b → Happens (house_of old) (Stepping n step) (told.Answer b) (house_of new)
  turned (Done r) done =
      let out : ◌≡◌ {A = Outcome Segment ℕ} (record { state = u.state; reply = r }) (step_of t.limits t.state step) =
      subst (λ (x : Answer). Answers t.limits x t.state step u.state) done answers in
      let same : guest_of u ≡ record { limits = t.limits; state = (step_of t.limits t.state step).state }
      = λ i. record { limits = limits i; state = (out i).state } in
      let made_turn : ◌≡◌ {A = Turn} (record { house = house_of new; answer = told.Answer (Done r) })
      (step_turn (house_of old) n step (Some (guest_of t)))
      = λ i. record {
        house = record {
          frames = made.frames i;
          guests = put (record { limits = t.limits; state = (step_of t.limits t.state step).state }) same i;
        };
        answer = told.Answer (Done (out i).reply);
      } in
      record { turn = inl (made_turn ∙ ap (step_turn (house_of old) n step) (sym (guest_there old n t was.1))) }
  turned NoMemory none =
      let state : u.state ≡ t.state = subst (λ (x : Answer). Answers t.limits x t.state step u.state) none answers in
      let same : guest_of u ≡ guest_of t = λ i. record { limits = limits i; state = state i } in
      let kept : map (option_map guest_of) new.tenants ≡ map (option_map guest_of) old.tenants
      = put (guest_of t) same ∙ ap (λ (o : Option Guest). set (map (option_map guest_of) old.tenants) n o)
      (sym (guest_there old n t was.1)) ∙ set-get_or (map (option_map guest_of) old.tenants) n None in
      let wants : may_want_memory t.limits t.state step ≡ true
      = may_want (may_want_memory t.limits t.state step) a none
      (λ quiet. made.succeeds (ap
      (λ (o : Option Tenant). may_want_memory (tenant_or o).limits (tenant_or o).state step) was.1 ∙ quiet)) in
      record {
        turn = inr (
          (refl, subst (λ (o : Option Guest). MayWant o step) (sym (guest_there old n t was.1)) wants),
          λ i. record { frames = made.frames i; guests = kept i },
        );
      }

  pub stepped_happens : Happens (house_of old) (Stepping n step) (told.Answer a) (house_of new)
  stepped_happens = turned a refl

-- nobody's step
pub gone_happens : (h : Tenants) (n : ℕ) (step : Step) → is_some (at h.tenants n) ≡ false →
    Happens (house_of h) (Stepping n step) told.Gone (house_of h)
gone_happens h n step none =
    record {
      turn = inl (ap (step_turn (house_of h) n step)
          (sym (at-map guest_of h.tenants n ∙ ap (option_map guest_of) (nothing (at h.tenants n) none))));
    }
  where
    nothing : (o : Option Tenant) → is_some o ≡ false → o ≡ None
    nothing None e = refl
    nothing (Some t) e = absurd (cc)

-- An admission

pub admitted_happens : (old new : Tenants) (limits : Limits) (n : ℕ) →
    admit_fault (house_of old) limits.reserve ≡ None → n ≡ length old.tenants
    → new ≡ record { tenants = old.tenants ++ Some (new_tenant limits) ∷ []; free = old.free } →
    Happens (house_of old) (Admitting limits) (told.Admitted n) (house_of new)
admitted_happens old new limits n none number is =
    let count = sum_of-push (λ (t : Tenant). t.held) old.tenants (Some (new_tenant limits)) in
    let frames : frames_in (record { tenants = old.tenants ++ Some (new_tenant limits) ∷ []; free = old.free })
    ≡ frames_in old = omega (arith, count) in
    let given : n ≡ length (map (option_map guest_of) old.tenants) =
    number ∙ sym (length-map old.tenants (option_map guest_of)) in
    let house : house_of new ≡ record {
      frames = frames_in old;
      guests = map (option_map guest_of) old.tenants ++ Some (newcomer limits) ∷ [];
    }
    = ap house_of is ∙ (λ i. record {
      frames = frames i;
      guests = map_push (option_map guest_of) old.tenants (Some (new_tenant limits)) i;
    }) in
    let turn : ◌≡◌ {A = Turn} (record { house = house_of new; answer = told.Admitted n })
    (admit_turn (house_of old) limits None)
    = λ i. record { house = house i; answer = told.Admitted (given i) } in
    record { turn = inl (turn ∙ ap (admit_turn (house_of old) limits) (sym none)) }

pub refused_happens : (h : Tenants) (limits : Limits) (fault : AdmitFault) →
    IsAdmitFault (admit_fault (house_of h) limits.reserve) fault
    → Happens (house_of h) (Admitting limits) (told.NotAdmitted fault) (house_of h)
refused_happens h limits fault is = by (admit_fault (house_of h) limits.reserve) refl is
  where
    by : (o : Option AdmitFault) → admit_fault (house_of h) limits.reserve ≡ o → IsAdmitFault o fault →
        Happens (house_of h) (Admitting limits) (told.NotAdmitted fault) (house_of h)
    by (Some first) found same =
        let turn : ◌≡◌ {A = Turn} (record { house = house_of h; answer = told.NotAdmitted fault })
        (admit_turn (house_of h) limits (Some first))
        = ap (λ (x : AdmitFault). record { house = house_of h; answer = told.NotAdmitted x }) same in
        record { turn = inl (turn ∙ ap (admit_turn (house_of h) limits) (sym found)) }
    by None found same = record { turn = inr ((ap (λ (x : AdmitFault). told.NotAdmitted x) same, found), refl) }

-- A retirement

pub retired_happens : (old new : Tenants) (n : ℕ) → retire_fault (at (house_of old).guests n) ≡ None → held_at old n ≡ 0
    → new ≡ record { tenants = clear_at old.tenants n; free = old.free } →
    Happens (house_of old) (Retiring n) told.Retired (house_of new)
retired_happens old new n none held is = record { turn = inl (turn ∙ ap (retire_turn (house_of old) n) (sym none)) }
  where
    count : sum_of (λ (t : Tenant). t.held) (clear_at old.tenants n) ≡ sum_of (λ (t : Tenant). t.held) old.tenants
    count = by (at old.tenants n) refl
      where
        by : (o : Option Tenant) → at old.tenants n ≡ o →
            sum_of (λ (t : Tenant). t.held) (clear_at old.tenants n) ≡ sum_of (λ (t : Tenant). t.held) old.tenants
        by None there = ap (λ (o : Option Tenant). sum_of (λ (t : Tenant). t.held) (set old.tenants n o)) (sym there)
            ∙ ap (sum_of (λ (t : Tenant). t.held)) (set-get_or old.tenants n None)
        by (Some t) there =
            let set = sum_of-set (λ (x : Tenant). x.held) old.tenants n None (at_within old.tenants n t there) in
            let weighs : weight (λ (x : Tenant). x.held) (at old.tenants n) ≡ t.held =
            ap (weight (λ (x : Tenant). x.held)) there in
            let nothing : t.held ≡ 0 = ap (λ (o : Option Tenant). (tenant_or o).held) (sym there) ∙ held in
            omega (arith, set, weighs, nothing)

    turn : ◌≡◌ {A = Turn} (record { house = house_of new; answer = told.Retired }) (retire_turn (house_of old) n None)
    turn =
        ap (λ (h : Tenants). record { house = house_of h; answer = told.Retired }) is
        ∙ (λ i. record {
          house = record { frames = old.free + count i; guests = map-set (option_map guest_of) old.tenants n None i };
          answer = told.Retired;
        })

pub kept_happens : (h : Tenants) (n : ℕ) (fault : RetireFault) → retire_fault (at (house_of h).guests n) ≡ Some fault
    → Happens (house_of h) (Retiring n) (told.NotRetired fault) (house_of h)
kept_happens h n fault found = record { turn = inl (ap (retire_turn (house_of h) n) (sym found)) }
