-- What a hub's tenants mean, by number and summed up.

use Rattle.std.proofs.Common.{◌≡◌, Bor, ℕ, ◌+◌, ◌-◌, ◌<◌, ◌≤◌, true, false, zero, suc, List, [], ◌∷◌, length, refl, ap, sym, ◌∙◌, arith, subst}
use Rattle.std.specs.Prelude.{Option, Some, None, IsSome, is_some, option_copied}
use Rattle.std.specs.Option.{option_map}
use Rattle.std.proofs.lemmas.List.{length-map}
use Rattle.pf_machine.specs.Numbered.{at, clear_at, sum_of, weight}
use Rattle.pf_machine.proofs.NumberedLaws.{at-map, at_within, sum_of-map, sum_of-set, sum_of-le}
use Rattle.pf_frame.specs.Live.{Live, IsSound}
use Rattle.pf_depot.specs.declared.depot.Depot.{Depot}
use Rattle.pf_depot.specs.Depot.{free_of, frames_of, slack_of}
use Rattle.pf_depot.specs.Door.{IsCovered as IsCoveredBy}
use Rattle.pf_depot.specs.Loans.{loans_live}
use Rattle.pf_depot.specs.Lent.{loans_sound}
use Rattle.pf_tables.specs.Meaning.{Namespace}
use Rattle.pf_tables.proofs.MeaningLaws.{occupied-meaning, empty-meaning, total-meaning}
use Rattle.pf_tables.specs.Owns.{Owns}
use Rattle.pf_tables.proofs.OwnsLaws.{held_occupied, none_empty, occupied_pages, pages_within}
use Rattle.pf_hub.specs.declared.tenant.Tenant.{Tenant as Lodger}
use Rattle.pf_hub.specs.Covered.{IsRising, IsCovered, unspent}
use Rattle.pf_hub.specs.Shared.{shown, held_in, reserved_by, hub_of, IsShared}
use Rattle.pf_depot.specs.Admission.{admit_fault as admit_by}
use Rattle.pf_machine.specs.Houses.{Guest, number_living, given, slack, admit_fault}
use Rattle.pf_hub.specs.Tenants.{guest_of, house_of, held_at}
use Rattle.pf_hub.specs.Tenants.{Tenant, Tenants, Housed, Lives, nobody, tenant_or, tenant_of, tenant_at, frames_in, reserved_in, slack_in}

pub rising : (f : Live) (s : Namespace) → IsSound f → Owns f s → IsRising (tenant_of f s)
rising f s sound owns = record {
  frames = omega (arith, held_occupied f s sound owns, occupied-meaning f s.state);
  slots = omega (arith, occupied_pages f s owns, occupied-meaning f s.state, total-meaning f s.state);
  pages = omega (arith, pages_within f s owns, total-meaning f s.state);
  none = λ held. empty-meaning f s.state (none_empty f s sound owns held);
}

pub nobody_rising : IsRising nobody
nobody_rising = record {
  frames = omega arith;
  slots = omega arith;
  pages = omega arith;
  none = λ held n p is. absurd (cc);
}

-- Sums

-- what is equal for each that stands has equal sums
pub sum_of-same : {X : Type 0} (h f : X → ℕ) (xs : List (Option X)) → ((k : ℕ) (x : X) → at xs k ≡ Some x → h x ≡ f x)
    → sum_of h xs ≡ sum_of f xs
sum_of-same h f [] e = refl
sum_of-same h f (None ∷ xs) e = let rest = sum_of-same h f xs (λ k x is. e (suc k) x is) in omega (arith, rest)
sum_of-same h f (Some x ∷ xs) e =
    let first = e 0 x refl in let rest = sum_of-same h f xs (λ k y is. e (suc k) y is) in omega (arith, first, rest)

-- what is unspent and what is held are what is reserved
pub spends : (ts : List (Option Tenant)) → ((k : ℕ) (t : Tenant) → at ts k ≡ Some t → t.held ≤ t.limits.reserve)
    → sum_of unspent ts + sum_of (λ t. t.held) ts ≡ sum_of (λ t. t.limits.reserve) ts
spends [] within = refl
spends (None ∷ ts) within = let rest = spends ts (λ k t is. within (suc k) t is) in omega (arith, rest)
spends (Some t ∷ ts) within =
    let first = within 0 t refl in let rest = spends ts (λ k u is. within (suc k) u is) in omega (arith, first, rest)

-- where each is rising and no more is reserved than there is, all are covered
pub all_covered : (h : Tenants) → ((n : ℕ) → IsRising (tenant_at h n)) → reserved_in h ≤ frames_in h → IsCovered h
all_covered h each reserved = record { each = each; reserved = reserved; credits = credits }
  where
    within : (k : ℕ) (t : Tenant) → at h.tenants k ≡ Some t → t.held ≤ t.limits.reserve
    within k t is =
        let r : IsRising t = subst (λ (o : Option Tenant). IsRising (tenant_or o)) is (each k) in
        omega (arith, r.frames, r.slots, r.pages)

    credits : slack_in h + sum_of unspent h.tenants ≤ h.free
    credits = let both = spends h.tenants within in omega (arith, both, reserved)

module _ {Z : Type 0} where
  -- the tenant of a number
  pub shown-at : (d : Depot) (ts : List (Option (Lodger Z))) (n : ℕ) → at (hub_of d ts).tenants n ≡ option_map shown (at ts n)
  shown-at d ts n = at-map shown ts n

  pub tenant_is : (d : Depot) (ts : List (Option (Lodger Z))) (n : ℕ) (t : Lodger Z) → at ts n ≡ Some t
      → tenant_at (hub_of d ts) n ≡ shown t
  tenant_is d ts n t is = ap tenant_or (shown-at d ts n ∙ ap (option_map shown) is)

  -- lives, exactly where there is a value
  pub lives_is : (d : Depot) (ts : List (Option (Lodger Z))) (n : ℕ) → is_some (at (hub_of d ts).tenants n) ≡ is_some (at ts n)
  lives_is d ts n = ap is_some (shown-at d ts n) ∙ same (at ts n)
    where
      same : (o : Option (Lodger Z)) → is_some (option_map shown o) ≡ is_some o
      same None = refl
      same (Some t) = refl

  pub number_is : (d : Depot) (ts : List (Option (Lodger Z))) → length (hub_of d ts).tenants ≡ length ts
  number_is d ts = length-map ts (option_map shown)

  module _ (d : Depot) (ts : List (Option (Lodger Z))) {alive : ℕ} (shared : IsShared d ts alive) where
    -- the frames of the hub are those of its depot
    pub frames_are : frames_in (hub_of d ts) ≡ frames_of d
    frames_are = ap (λ n. free_of d + n) (sum_of-map shown (λ (t : Tenant). t.held) ts) ∙ shared.all

    reserves_are : reserved_in (hub_of d ts) ≡ sum_of reserved_by ts
    reserves_are =
        sum_of-map shown (λ (t : Tenant). t.limits.reserve) ts
        ∙ sum_of-same (λ (t : Lodger Z). t.placed.space.limits.reserve) reserved_by ts
        (λ k t is. (shared.owned k t is).reserve)

    -- and so is its slack
    pub slack_is : slack_in (hub_of d ts) ≡ slack_of d
    slack_is = omega (arith, frames_are, reserves_are, shared.reserved)

    pub hub_covered : IsCovered (hub_of d ts)
    hub_covered = all_covered (hub_of d ts) each (omega (arith, frames_are, reserves_are, shared.reserved))
      where
        by : (n : ℕ) (o : Option (Lodger Z)) → at ts n ≡ o → IsRising (tenant_or (option_map shown o))
        by n None is = nobody_rising
        by n (Some t) is = rising (loans_live t.loans) t.placed.space (loans_sound t.loans) (shared.owned n t is)

        each : (n : ℕ) → IsRising (tenant_at (hub_of d ts) n)
        each n = subst (λ (o : Option Tenant). IsRising (tenant_or o)) (sym (shown-at d ts n)) (by n (at ts n) refl)

    -- the same of the hub that a contract sees
    pub is_covered : {h : Tenants} → hub_of d ts ≡ h → IsCovered h
    is_covered is = subst IsCovered is hub_covered

    -- One tenant among them

    module _ (n : ℕ) (t : Lodger Z) (is : at ts n ≡ Some t) where
      without : (h : Lodger Z → ℕ) → sum_of h (clear_at ts n) + h t ≡ sum_of h ts
      without h = let set = sum_of-set h ts n None (at_within ts n t is) in let here = ap (weight h) is in omega (arith, set, here)

      -- the others hold no more than they have reserved
      within : sum_of held_in (clear_at ts n) ≤ sum_of reserved_by (clear_at ts n)
      within = sum_of-le held_in reserved_by (clear_at ts n) (λ k x e. (loans_sound x.loans).credit)

      -- so its door is covered
      pub door_covered : IsCoveredBy (loans_live t.loans) (free_of d) (frames_of d - free_of d)
      door_covered = record {
        credits = omega (arith, without held_in, without reserved_by, within, shared.all, shared.reserved);
        held = omega (arith, without held_in, shared.all);
      }

      -- and where it holds nothing, there is a free frame for each that it and nobody has reserved
      pub room_after : held_in t ≡ 0 → slack_of d + reserved_by t ≤ free_of d
      room_after none = omega (arith, none, without held_in, without reserved_by, within, shared.all, shared.reserved)

  -- hubs that a contract can't tell apart have one world
  pub world_same : {x y : Housed Z} → x ≡ y → x.world ≡ y.world
  world_same is = ap (λ (h : Housed Z). h.world) is

  -- a number that lives has its tenant
  pub stands : (d : Depot) (ts : List (Option (Lodger Z))) (n : ℕ) {h : Tenants} → hub_of d ts ≡ h → Lives h n → IsSome (at ts n)
  stands d ts n is lives = sym (lives_is d ts n) ∙ ap (λ (x : Tenants). is_some (at x.tenants n)) is ∙ lives

  pub place : (ts : List (Option (Lodger Z))) (n : ℕ) → IsSome (at ts n) → n < length ts
  place [] n some = absurd (cc)
  place (t ∷ ts) zero some = omega arith
  place (t ∷ ts) (suc n) some = let rest = place ts n some in omega (arith, rest)

  -- so many live as the hub counts
  pub living_is : (d : Depot) (ts : List (Option (Lodger Z))) {alive : ℕ} {h : Tenants} → IsShared d ts alive → hub_of d ts ≡ h → alive ≡ number_living (house_of h)
  living_is d ts shared is =
      shared.living ∙ sym (sum_of-map shown (λ (t : Tenant). 1) ts) ∙ sym (sum_of-map guest_of (λ (g : Guest). 1) (hub_of d ts).tenants)
      ∙ ap (λ (x : Tenants). number_living (house_of x)) is

  -- who lives has its guest, and nobody else has
  pub guest_seen : (d : Depot) (ts : List (Option (Lodger Z))) (n : ℕ) {h : Tenants} → hub_of d ts ≡ h → at (house_of h).guests n ≡ option_map (λ (t : Lodger Z). guest_of (shown t)) (at ts n)
  guest_seen d ts n is =
      ap (λ (x : Tenants). at (house_of x).guests n) (sym is) ∙ at-map guest_of (hub_of d ts).tenants n ∙ ap (option_map guest_of) (shown-at d ts n) ∙ both (at ts n)
    where
      both : (o : Option (Lodger Z)) → option_map guest_of (option_map shown o) ≡ option_map (λ (t : Lodger Z). guest_of (shown t)) o
      both None = refl
      both (Some t) = refl

  -- the tests of an admission, as the hub's numbers give them
  pub admit_seen : (d : Depot) (ts : List (Option (Lodger Z))) {alive : ℕ} {h : Tenants} (reserve : ℕ) → IsShared d ts alive → hub_of d ts ≡ h
      → admit_by alive (length ts) (slack_of d) reserve ≡ admit_fault (house_of h) reserve
  admit_seen d ts {alive} {h} reserve shared is =
      let numbers : length ts ≡ given (house_of h) = sym (number_is d ts) ∙ sym (length-map (hub_of d ts).tenants (option_map guest_of)) ∙ ap (λ (x : Tenants). given (house_of x)) is in
      let frames : slack_of d ≡ slack (house_of h) = sym (slack_is d ts shared) ∙ slack_guests (hub_of d ts) ∙ ap (λ (x : Tenants). slack (house_of x)) is in
      λ i. admit_by (living_is d ts shared is i) (numbers i) (frames i) reserve
    where
      slack_guests : (x : Tenants) → slack_in x ≡ slack (house_of x)
      slack_guests x = ap (λ n. frames_in x - n) (sym (sum_of-map guest_of (λ (g : Guest). g.limits.reserve) x.tenants))

  -- What a look-up tells

  pub there : (ts : List (Option (Lodger Z))) (n : ℕ) (r : Option (Bor (Lodger Z))) (b : Bor (Lodger Z)) → option_copied r ≡ at ts n → r ≡ Some b
      → at ts n ≡ Some b.now
  there ts n r b told some = sym told ∙ ap option_copied some

  pub nowhere : (ts : List (Option (Lodger Z))) (n : ℕ) (r : Option (Bor (Lodger Z))) → option_copied r ≡ at ts n → r ≡ None → at ts n ≡ None
  nowhere ts n r told none = sym told ∙ ap option_copied none

  pub not_nowhere : (ts : List (Option (Lodger Z))) (n : ℕ) → at ts n ≡ None → IsSome (at ts n) → ⊥
  not_nowhere ts n none some = let no : false ≡ true = sym (ap is_some none) ∙ some in cc

  pub lives_told : (d : Depot) (ts : List (Option (Lodger Z))) (n : ℕ) {h : Tenants} (r : Option (Bor (Lodger Z))) → hub_of d ts ≡ h
      → option_copied r ≡ at ts n → is_some r ≡ is_some (at h.tenants n)
  lives_told d ts n {h} r is told =
      copied r ∙ ap is_some told ∙ sym (lives_is d ts n) ∙ ap (λ (x : Tenants). is_some (at x.tenants n)) is
    where
      copied : (o : Option (Bor (Lodger Z))) → is_some o ≡ is_some (option_copied o)
      copied None = refl
      copied (Some b) = refl

  pub held_there : (d : Depot) (ts : List (Option (Lodger Z))) (n held : ℕ) {h : Tenants} (t : Lodger Z) → hub_of d ts ≡ h → at ts n ≡ Some t
      → held ≡ held_in t → held ≡ held_at h n
  held_there d ts n held t is here said =
      said ∙ sym (ap (λ (x : Tenant). x.held) (tenant_is d ts n t here)) ∙ ap (λ (x : Tenants). held_at x n) is

  pub held_nowhere : (d : Depot) (ts : List (Option (Lodger Z))) (n : ℕ) {h : Tenants} → hub_of d ts ≡ h → at ts n ≡ None → 0 ≡ held_at h n
  held_nowhere d ts n is none =
      sym (ap (λ (o : Option Tenant). (tenant_or o).held) (shown-at d ts n ∙ ap (option_map shown) none))
      ∙ ap (λ (x : Tenants). held_at x n) is
