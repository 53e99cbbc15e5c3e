-- A step of one tenant, and all others.

use Rattle.std.proofs.Common.{◌≡◌, ◌≢◌, ℕ, ◌+◌, ◌<◌, zero, suc, List, [], ◌∷◌, length, ap, sym, ◌∙◌, subst, refl, arith, get_or, slice_set, length-set, inl, inr}
use Rattle.std.specs.Prelude.{Option, Some, None, IsSome, is_some}
use Rattle.std.specs.Option.{option_map}
use Rattle.std.proofs.lemmas.Bool.{cases_eq}
use Rattle.std.proofs.lemmas.List.{set-get_or, get_or_default}
use Rattle.pf_machine.specs.Machine.{Answers, may_want_memory}
use Rattle.pf_machine.specs.Numbered.{at, put_at, sum_of, weight}
use Rattle.pf_machine.proofs.NumberedLaws.{at-put_same, at-put_other, at_within, sum_of-set}
use Rattle.pf_base.specs.declared.step.Step.{Step}
use Rattle.pf_base.specs.declared.step.Answer.{Answer}
use Rattle.pf_depot.specs.declared.depot.Depot.{Depot}
use Rattle.pf_depot.specs.Loans.{loans_live}
use Rattle.pf_tables.specs.Meaning.{meaning}
use Rattle.pf_tables.specs.Owns.{Owns}
use Rattle.pf_hub.specs.declared.tenant.Tenant.{Tenant as Lodger}
use Rattle.pf_hub.specs.Shared.{shown, held_in, reserved_by, hub_of, allocators_in, housed, IsShared}
use Rattle.pf_hub.specs.Stepped.{Lodges, Stepped}
use Rattle.pf_hub.specs.Tenants.{Tenant, Housed, tenant_at, state_at}
use Rattle.pf_hub.proofs.TenantLaws.{shown-at, tenant_is, number_is, lives_is, frames_are, hub_covered}

-- a value at a number, where the number lives
pub some_there : {X : Type 0} (o : Option X) → IsSome o → (x : X) × (o ≡ Some x)
some_there None some = absurd (cc)
some_there (Some x) some = (x, refl)

pub same_some : {X : Type 0} (x y : X) → ◌≡◌ {A = Option X} (Some x) (Some y) → x ≡ y
same_some x y e = cc

-- where a place of a list has such a value
pub found : {X : Type 0} (xs : List (Option X)) (n : ℕ) (o : Option X) (x : X) → n < length xs → o ≡ get_or xs n o → o ≡ Some x
    → at xs n ≡ Some x
found xs n o x less is some = sym (get_or_default xs n o None less) ∙ sym is ∙ some

-- or none
pub found_none : {X : Type 0} (xs : List (Option X)) (n : ℕ) (o : Option X) → n < length xs → o ≡ get_or xs n o → o ≡ None → at xs n ≡ None
found_none xs n o less is none = sym (get_or_default xs n o None less) ∙ sym is ∙ none

module _ {Z : Type 0} {d e : Depot} {ts : List (Option (Lodger Z))} {alive : ℕ} (n : ℕ) {old : Lodger Z} {step : Step} {a : Answer}
    (is : at ts n ≡ Some old) (shared : IsShared d ts alive) (new : Lodger Z) (lodges : Lodges d e old new step a) where
  here : n < length ts
  here = at_within ts n old is

  now : at (put_at ts n new) n ≡ Some new
  now = at-put_same ts n (Some new) here

  other : (k : ℕ) → k ≢ n → at (put_at ts n new) k ≡ at ts k
  other k ne = at-put_other ts n k (Some new) ne

  summed : (h : Lodger Z → ℕ) → sum_of h (put_at ts n new) + h old ≡ sum_of h ts + h new
  summed h = let set = sum_of-set h ts n (Some new) here in let was = ap (weight h) is in omega (arith, set, was)

  pub shared_after : IsShared e (put_at ts n new) alive
  shared_after = record {
    owned = λ k x found. elim (cases_eq k n) [
      | inl own ↦
          let last : at (put_at ts n new) n ≡ Some x = subst (λ j. at (put_at ts n new) j ≡ Some x) own found in
          subst (λ (y : Lodger Z). Owns (loans_live y.loans) y.placed.space) (same_some new x (sym now ∙ last)) lodges.moved.owns
      | inr ne ↦ shared.owned k x (sym (other k ne) ∙ found)
    ];
    all = omega (arith, summed held_in, shared.all, lodges.frames, lodges.spare);
    reserved = omega (arith, summed reserved_by, shared.reserved, lodges.frames, lodges.slack, lodges.reserved);
    living = omega (arith, summed (λ (t : Lodger Z). 1), shared.living);
    few = shared.few;
    numbers = omega (arith, length-set ts n (Some new), shared.numbers);
  }

  pub hub_stepped : Stepped (hub_of d ts) (hub_of e (put_at ts n new)) n step a
  hub_stepped = record {
    number = number_is e (put_at ts n new) ∙ length-set ts n (Some new) ∙ sym (number_is d ts);
    lives = lives_is e (put_at ts n new) n ∙ ap is_some now;
    frames = frames_are e (put_at ts n new) shared_after ∙ lodges.frames ∙ sym (frames_are d ts shared);
    limits = ap (λ (t : Tenant). t.limits) after ∙ lodges.moved.limits ∙ ap (λ (t : Tenant). t.limits) (sym before);
    answers =
        subst (λ (x : Tenant). Answers x.limits a x.state step (state_at (hub_of e (put_at ts n new)) n)) (sym before)
        (subst (λ (x : Tenant). Answers old.placed.space.limits a (meaning (loans_live old.loans) old.placed.space.state) step x.state)
        (sym after) lodges.moved.answers);
    others = λ k ne. shown-at e (put_at ts n new) k ∙ ap (option_map shown) (other k ne) ∙ sym (shown-at d ts k);
    succeeds = λ quiet.
        lodges.moved.succeeds (ap (λ (x : Tenant). may_want_memory x.limits x.state step) (sym before) ∙ quiet);
    covered = hub_covered e (put_at ts n new) shared_after;
  }
    where
      before : tenant_at (hub_of d ts) n ≡ shown old
      before = tenant_is d ts n old is

      after : tenant_at (hub_of e (put_at ts n new)) n ≡ shown new
      after = tenant_is e (put_at ts n new) n new now

  -- its files stay with the same allocator, and so do the others'
  pub allocators_same : allocators_in (put_at ts n new) ≡ allocators_in ts
  allocators_same = same ts n is
    where
      allocator : Lodger Z → Z
      allocator t = t.placed.allocator

      same : (xs : List (Option (Lodger Z))) (k : ℕ) → at xs k ≡ Some old → allocators_in (put_at xs k new) ≡ allocators_in xs
      same [] k found = refl
      same (x ∷ xs) zero found = λ i. (ap (λ z. Some z) lodges.allocator ∙ ap (option_map allocator) (sym found)) i ∷ allocators_in xs
      same (x ∷ xs) (suc k) found = ap (λ zs. option_map allocator x ∷ zs) (same xs k found)

  -- the hub is the same where the tenant and the depot are
  pub hub_same : new ≡ old → e ≡ d → housed e (put_at ts n new) ≡ housed d ts
  hub_same same depot =
      let tenants : put_at ts n new ≡ ts = ap (λ (x : Lodger Z). slice_set ts n (Some x)) same ∙ ap (slice_set ts n) (sym is) ∙ set-get_or ts n None in
      λ i. housed (depot i) (tenants i)

  -- the same of the hub that a contract sees

  pub step_seen : {h : Housed Z} → housed d ts ≡ h → Stepped h.world (hub_of e (put_at ts n new)) n step a
  step_seen seen = subst (λ (x : Housed Z). Stepped x.world (hub_of e (put_at ts n new)) n step a) seen hub_stepped

  pub allocators_seen : {h : Housed Z} → housed d ts ≡ h → allocators_in (put_at ts n new) ≡ h.allocators
  allocators_seen seen = allocators_same ∙ ap (λ (x : Housed Z). x.allocators) seen

  pub same_seen : {h : Housed Z} → housed d ts ≡ h → new ≡ old → e ≡ d → housed e (put_at ts n new) ≡ h
  same_seen seen same depot = hub_same same depot ∙ seen
