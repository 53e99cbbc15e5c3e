-- One tenant more, or one less, over the same frames.

use Rattle.std.proofs.Common.{◌≡◌, ℕ, ◌+◌, ◌-◌, ◌<◌, ◌≤◌, List, [], ◌∷◌, ◌++◌, length, map, refl, ap, sym, ◌∙◌}
use Rattle.std.proofs.Common.{subst, arith, inl, inr, length-append, length-set, slice_set}
use Rattle.std.specs.Prelude.{Option, Some, None, nat_lt, if◌then◌else◌}
use Rattle.std.proofs.lemmas.Bool.Decides.{nat_tests}
use Rattle.std.specs.Option.{option_map}
use Rattle.std.proofs.lemmas.Bool.{cases_eq, cases_lt, lt-ltb, le-ltb}
use Rattle.std.proofs.lemmas.List.{map_push, map-set}
use Rattle.pf_base.specs.Limits.{Limits}
use Rattle.pf_base.specs.declared.admission.AdmitFault.{AdmitFault}
use Rattle.pf_base.specs.declared.admission.RetireFault.TheVariants.{NoSuchNamespace, Alive}
use Rattle.pf_depot.specs.Admission.{admit_fault as admit_by, IsAdmitFault}
use Rattle.pf_base.specs.declared.admission.AdmitFault.TheVariants.{NoMemory}
use Rattle.pf_hub.specs.Coming.{Adds, AddsNothing}
use Rattle.pf_machine.specs.Houses.{admit_fault, retire_fault}
use Rattle.pf_machine.specs.Processes.{alive as alive_in}
use Rattle.pf_base.specs.declared.TheConstants.{MAX_NAMESPACES, MAX_NUMBERS}
use Rattle.pf_frame.specs.declared.frame.Frame.{Frame}
use Rattle.pf_frame.specs.Live.{IsIdle}
use Rattle.pf_machine.specs.Numbered.{at, clear_at, sum_of, weight}
use Rattle.pf_machine.proofs.NumberedLaws.{at_within, at-push_old, at-push_new, at-put_same, at-put_other}
use Rattle.pf_machine.proofs.NumberedLaws.{sum_of-push, sum_of-set}
use Rattle.pf_depot.specs.declared.depot.Depot.{Depot}
use Rattle.pf_depot.specs.declared.loans.Loans.{Loans}
use Rattle.pf_depot.specs.Depot.{free_of, slack_of, SetsAside}
use Rattle.pf_depot.specs.Loans.{loans_live}
use Rattle.pf_depot.specs.Lent.{loans_sound}
use Rattle.pf_tables.specs.Held.{HoldsNone}
use Rattle.pf_tables.specs.Owns.{Owns}
use Rattle.pf_hub.specs.declared.tenant.Tenant.{Tenant as Lodger}
use Rattle.pf_hub.specs.Events.{Comes, Goes}
use Rattle.pf_hub.specs.Opening.{new_lodger, new_tenant}
use Rattle.pf_hub.specs.Shared.{IsShared, shown, held_in, reserved_by, hub_of, housed}
use Rattle.pf_hub.specs.Tenants.{Tenant, Tenants, Housed, guest_of, house_of}
use Rattle.pf_hub.proofs.OpeningLemmas.{owns_new}
use Rattle.pf_hub.proofs.StepLemmas.{same_some}
use Rattle.pf_hub.proofs.TenantLaws.{tenant_is, guest_seen, admit_seen}

module _ {Z : Type 0} {d e : Depot} {ts : List (Option (Lodger Z))} {alive : ℕ} (shared : IsShared d ts alive) where
  -- One more

  module _ (limits : Limits) (allocator : Z) (loans : Loans) (aside : SetsAside d e limits.reserve)
      (idle : IsIdle limits.reserve (loans_live loans)) where
    abbrev new : Lodger Z
    new = new_lodger (limits, allocator) loans

    free : free_of e ≡ free_of d
    free = ap (λ (fs : List Frame). length fs) aside.free

    pub shared_more : alive < MAX_NAMESPACES → length ts < MAX_NUMBERS → IsShared e (ts ++ Some new ∷ []) (alive + 1)
    shared_more few numbers = record {
      owned = owned;
      all = omega (arith, shared.all, sum_of-push held_in ts (Some new), idle.held, free, aside.frames);
      reserved = omega (
        arith,
        shared.reserved,
        sum_of-push reserved_by ts (Some new),
        idle.reserved,
        aside.slack,
        aside.frames,
      );
      living = omega (arith, shared.living, sum_of-push (λ (t : Lodger Z). 1) ts (Some new));
      few = omega (arith, few);
      numbers = omega (arith, numbers, length-append ts (Some new ∷ []));
    }
      where
        owned : (k : ℕ) (t : Lodger Z) → at (ts ++ Some new ∷ []) k ≡ Some t → Owns (loans_live t.loans) t.placed.space
        owned k t is = elim (cases_lt k (length ts)) [
          | inl h ↦ shared.owned k t (sym (at-push_old ts (Some new) k h) ∙ is)
          | inr h ↦
              let last : k ≡ length ts =
              omega (arith, at_within (ts ++ Some new ∷ []) k t is, length-append ts (Some new ∷ []), h) in
              let here : at (ts ++ Some new ∷ []) (length ts) ≡ Some t =
              subst (λ j. at (ts ++ Some new ∷ []) j ≡ Some t) last is in
              subst (λ (x : Lodger Z). Owns (loans_live x.loans) x.placed.space)
              (same_some new t (sym (at-push_new ts (Some new)) ∙ here)) (owns_new limits (loans_live loans) idle)
        ]

    pub comes : {h : Housed Z} → housed d ts ≡ h → Comes h (housed e (ts ++ Some new ∷ [])) limits allocator
    comes {h} view = subst (λ (x : Housed Z). Comes x (housed e (ts ++ Some new ∷ [])) limits allocator) view (record {
      world = λ i. record {
        tenants = (map_push (option_map shown) ts (Some new)
            ∙ (λ j. map (option_map shown) ts ++ Some (record {
              limits = limits;
              state = (new_tenant limits).state;
              held = idle.held j;
            }) ∷ [])) i;
        free = free i;
      };
      allocators = map_push (option_map (λ (t : Lodger Z). t.placed.allocator)) ts (Some new);
    })

  -- One less, which holds nothing

  module _ (n : ℕ) (t : Lodger Z) (is : at ts n ≡ Some t) (none : held_in t ≡ 0)
      (aside : SetsAside e d (reserved_by t)) where
    left : (h : Lodger Z → ℕ) → sum_of h (clear_at ts n) + h t ≡ sum_of h ts
    left h = let set = sum_of-set h ts n None (at_within ts n t is) in let here = ap (weight h) is in
        omega (arith, set, here)

    freed : free_of e ≡ free_of d
    freed = ap (λ (fs : List Frame). length fs) (sym aside.free)

    -- it lives
    pub lived : 0 < alive
    lived = let one = left (λ (x : Lodger Z). 1) in omega (arith, one, shared.living)

    pub shared_less : IsShared e (clear_at ts n) (alive - 1)
    shared_less = record {
      owned = λ k x found. elim (cases_eq k n) [
        | inl own ↦ absurd (
            let gone : at (clear_at ts n) n ≡ None = at-put_same ts n None (at_within ts n t is) in
            let last : at (clear_at ts n) n ≡ Some x = subst (λ j. at (clear_at ts n) j ≡ Some x) own found in
            let no : ◌≡◌ {A = Option (Lodger Z)} None (Some x) = sym gone ∙ last in cc)
        | inr ne ↦ shared.owned k x (sym (at-put_other ts n k None ne) ∙ found)
      ];
      all = omega (arith, shared.all, left held_in, none, freed, aside.frames);
      reserved = omega (arith, shared.reserved, left reserved_by, aside.slack, aside.frames);
      living = omega (arith, shared.living, left (λ (x : Lodger Z). 1));
      few = omega (arith, shared.few);
      numbers = omega (arith, shared.numbers, length-set ts n None);
    }

    pub goes : {h : Housed Z} → housed d ts ≡ h → Goes h (housed e (clear_at ts n)) n
    goes {h} view = subst (λ (x : Housed Z). Goes x (housed e (clear_at ts n)) n) view (record {
      held = ap (λ (x : Tenant). x.held) (tenant_is d ts n t is) ∙ none;
      world = λ i. record { tenants = map-set (option_map shown) ts n None i; free = freed i };
      allocators = map-set (option_map (λ (x : Lodger Z). x.placed.allocator)) ts n None;
    })

-- What the code has in its hand

-- what passes each test may come
pub may_come : (living given slack reserve : ℕ) → admit_by living given slack reserve ≡ None →
    (living < MAX_NAMESPACES) × (given < MAX_NUMBERS) × (reserve ≤ slack)
may_come living given slack reserve none = (
  grind (arith, nat_tests),
  grind (arith, nat_tests),
  grind (arith, nat_tests),
)

module _ {Z : Type 0} {d e : Depot} {ts us : List (Option (Lodger Z))} {alive : ℕ} (shared : IsShared d ts alive) where
  module _ {limits : Limits} {allocator : Z} (adds : Adds d e ts us limits allocator) where
    pub shared_added : alive < MAX_NAMESPACES → length ts < MAX_NUMBERS → IsShared e us (alive + 1)
    shared_added few numbers =
        subst (λ (xs : List (Option (Lodger Z))). IsShared e xs (alive + 1)) (sym adds.tenants)
        (shared_more shared limits allocator adds.loans adds.aside adds.idle few numbers)

    pub comes_added : {h : Housed Z} → housed d ts ≡ h → Comes h (housed e us) limits allocator
    comes_added {h} seen =
        subst (λ (xs : List (Option (Lodger Z))). Comes h (housed e xs) limits allocator) (sym adds.tenants)
        (comes shared limits allocator adds.loans adds.aside adds.idle seen)

  module _ {fault : AdmitFault} (nothing : AddsNothing d e ts us fault) where
    pub shared_still : IsShared e us alive
    shared_still =
        subst (λ (x : Depot). IsShared x us alive) (sym nothing.depot)
        (subst (λ (xs : List (Option (Lodger Z))). IsShared d xs alive) (sym nothing.tenants) shared)

    pub seen_still : {h : Housed Z} → housed d ts ≡ h → housed e us ≡ h
    seen_still seen = (λ i. housed (nothing.depot i) (nothing.tenants i)) ∙ seen

-- why a number isn't retired

module _ {Z : Type 0} (d : Depot) (ts : List (Option (Lodger Z))) {h : Tenants} (n : ℕ) (is : hub_of d ts ≡ h) where
  pub nobody_seen : at ts n ≡ None → retire_fault (at (house_of h).guests n) ≡ Some NoSuchNamespace
  nobody_seen none = ap retire_fault
      (guest_seen d ts n is ∙ ap (option_map (λ (t : Lodger Z). guest_of (shown t))) none)

  module _ (t : Lodger Z) (processes : ℕ) (there : at ts n ≡ Some t)
      (count : processes ≡ alive_in t.placed.space.state) where
    by : retire_fault (at (house_of h).guests n) ≡ (if nat_lt 0 processes then Some (Alive processes) else None)
    by =
        ap retire_fault (guest_seen d ts n is ∙ ap (option_map (λ (x : Lodger Z). guest_of (shown x))) there)
        ∙ ap (λ k. if nat_lt 0 k then Some (Alive k) else None) (sym count)

    pub alive_seen : 0 < processes → retire_fault (at (house_of h).guests n) ≡ Some (Alive processes)
    alive_seen some = by ∙ ap (λ b. if b then Some (Alive processes) else None) (lt-ltb 0 processes some)

    pub none_seen : processes ≡ 0 → retire_fault (at (house_of h).guests n) ≡ None
    none_seen none = by ∙ ap (λ b. if b then Some (Alive processes) else None)
        (le-ltb 0 processes (omega (arith, none)))

-- why one more isn't admitted, as the code's numbers tell it

module _ {Z : Type 0} {d : Depot} {ts : List (Option (Lodger Z))} {alive : ℕ} {h : Tenants}
    (shared : IsShared d ts alive) (is : hub_of d ts ≡ h)
    (r : Option AdmitFault) (number slack limit reserve : ℕ) (many : number ≡ length ts) (left : slack ≡ slack_of d)
    (same : limit ≡ reserve)
    (told : r ≡ admit_by alive number slack limit) where
  pub fault_told : r ≡ admit_fault (house_of h) reserve
  fault_told = told ∙ (λ i. admit_by alive (many i) (left i) (same i)) ∙ admit_seen d ts reserve shared is

  -- the first test that failed; or, where none did, memory was wanted
  pub refused : (fault : AdmitFault) → r ≡ Some fault → IsAdmitFault (admit_fault (house_of h) reserve) fault
  refused fault some = subst (λ (o : Option AdmitFault). IsAdmitFault o fault) (sym some ∙ fault_told) refl

  pub wanted : (fault : AdmitFault) → r ≡ None → fault ≡ NoMemory →
      IsAdmitFault (admit_fault (house_of h) reserve) fault
  wanted fault none memory = subst (λ (o : Option AdmitFault). IsAdmitFault o fault) (sym none ∙ fault_told) memory

  -- and where none did, there is room for one more
  pub room : r ≡ None → (alive < MAX_NAMESPACES) × (length ts < MAX_NUMBERS) × (reserve ≤ slack_of d)
  room none = may_come alive (length ts) (slack_of d) reserve
      (sym (told ∙ (λ i. admit_by alive (many i) (left i) (same i))) ∙ none)

-- a tenant that holds nothing goes

module _ {Z : Type 0} {d : Depot} {ts : List (Option (Lodger Z))} {alive : ℕ} (shared : IsShared d ts alive) (n : ℕ)
    (t : Lodger Z) (is : at ts n ≡ Some t) (none : HoldsNone t.placed.space) where
  pub holds_nothing : held_in t ≡ 0
  holds_nothing = none (loans_live t.loans) (loans_sound t.loans) (shared.owned n t is)

  module _ {e : Depot} (o : Option (Lodger Z)) (gone : o ≡ None) (aside : SetsAside e d (reserved_by t)) where
    pub shared_left : IsShared e (slice_set ts n o) (alive - 1)
    shared_left =
        subst (λ (x : Option (Lodger Z)). IsShared e (slice_set ts n x) (alive - 1)) (sym gone)
        (shared_less shared n t is holds_nothing aside)

    pub goes_away : {h : Housed Z} → housed d ts ≡ h → Goes h (housed e (slice_set ts n o)) n
    goes_away {h} seen =
        subst (λ (x : Option (Lodger Z)). Goes h (housed e (slice_set ts n x)) n) (sym gone)
        (goes shared n t is holds_nothing aside seen)

pub one_lives : {Z : Type 0} {d : Depot} {ts : List (Option (Lodger Z))} {alive : ℕ} → IsShared d ts alive →
    (n : ℕ) (t : Lodger Z) →
    at ts n ≡ Some t → 1 ≤ alive
one_lives {Z} {d} {ts} {alive} shared n t is =
    let set = sum_of-set (λ (x : Lodger Z). 1) ts n None (at_within ts n t is) in
    let here = ap (weight (λ (x : Lodger Z). 1)) is in
    omega (arith, set, here, shared.living)
