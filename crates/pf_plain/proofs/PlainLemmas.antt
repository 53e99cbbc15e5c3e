-- Namespaces over an array: what the array's own lists say of them.

use Rattle.std.proofs.Common.{◌≡◌, ◌≢◌, ℕ, zero, suc, refl, ◌-◌, ◌<◌, ◌≤◌, List, [], ◌∷◌, length, map}
use Rattle.std.proofs.Common.{ap, sym, ◌∙◌, subst, arith, slice_set, get_or, length-set, inl, inr}
use Rattle.std.specs.Prelude.{sum, slice_index, Option, Some, None, IsSome, is_some, nat_lt, ◌⊎◌}
use Rattle.std.proofs.lemmas.Bool.{cases_lt, lt-ltb, le-ltb}
use Rattle.pf_machine.specs.Numbered.{at, sum_of}
use Rattle.pf_machine.proofs.NumberedLaws.{at_past}
use Rattle.std.proofs.lemmas.List.{length-map, get_or_default, set-get_or}
use Rattle.std.proofs.lemmas.Simd.{map-map}
use Rattle.pf_base.specs.Limits.{Limits}
use Rattle.pf_base.specs.declared.step.Step.{Step}
use Rattle.pf_base.specs.declared.step.Answer.{Answer}
use Rattle.pf_frame.specs.declared.fault.PoolFault.{PoolFault}
use Rattle.pf_frame.specs.declared.fault.PoolFault.TheVariants.{NoMemory}
use Rattle.pf_frame.specs.Faults.{fault_of, IsFault}
use Rattle.pf_frame.specs.Sound.{positives-le-length}
use Rattle.pf_frame.specs.Live.{Live, IsIdle}
use Rattle.pf_pool.specs.declared.pool.FramePool.{FramePool}
use Rattle.pf_pool.specs.Pool.{pool_live, pool_rest, frames_of, all_held, IsFresh, DoorRest}
use Rattle.pf_pool.specs.PoolSound.{pool_sound}
use Rattle.pf_pool.proofs.PoolLaws.{held_is, same_view, same_reserves, same_frames}
use Rattle.pf_tables.specs.Meaning.{Namespace}
use Rattle.pf_tables.specs.Owns.{Owns}
use Rattle.pf_hub.specs.Covered.{IsCovered}
use Rattle.pf_hub.specs.Opening.{limits_of, new_space, new_tenant, new_hub, first_fault}
use Rattle.pf_hub.specs.Stepped.{Moved, Stepped}
use Rattle.pf_hub.specs.Tenants.{Tenants, Tenant, Lives, held_at, frames_in}
use Rattle.pf_hub.proofs.OpeningLemmas.{owns_new}
use Rattle.pf_hub.proofs.TenantLaws.{all_covered}
use Rattle.pf_plain.specs.Plain.{plain_of, IsPlain, space_at, no_space, tenants_of, tenants_from}
use Rattle.pf_plain.proofs.PlainTenants.{Fits, length-tenants_from, sum-tenants, stands, tenants-at, rises}
use Rattle.pf_plain.proofs.PlainTenants.{owned_after, stepped}

-- there are as many namespaces as spaces
pub number : (p : FramePool) (ss : List Namespace) (t : Tenants) → plain_of p ss ≡ t → length t.tenants ≡ length ss
number p ss t is = ap (λ (x : Tenants). length x.tenants) (sym is) ∙ length-tenants_from (pool_live p) 0 ss

-- so the number of a namespace that lives is a space's
pub here : {p : FramePool} {ss : List Namespace} {t : Tenants} {n : ℕ} →
    IsPlain p ss → plain_of p ss ≡ t → Lives t n → n < length ss
here {p} {ss} {t} {n} plain is lives = subst (λ k. n < k) (number p ss t is) (within t.tenants n lives)
  where
    within : (ts : List (Option Tenant)) (k : ℕ) → IsSome (at ts k) → k < length ts
    within [] k some = absurd (cc)
    within (x ∷ ts) zero some = omega arith
    within (x ∷ ts) (suc k) some = let rest = within ts k some in omega (arith, rest)

-- and each number of a space is that of a namespace that lives
pub living_is : (p : FramePool) (ss : List Namespace) (t : Tenants) (n : ℕ) →
    plain_of p ss ≡ t → is_some (at t.tenants n) ≡ nat_lt n (length ss)
living_is p ss t n is =
    ap (λ (x : Tenants). is_some (at x.tenants n)) (sym is)
    ∙ elim (cases_lt n (length ss)) [
      | inl h ↦
          ap (λ (o : Option Tenant). is_some o) (stands (pool_live p) n ss h) ∙ sym (lt-ltb n (length ss) h)
      | inr h ↦
          ap (λ (o : Option Tenant). is_some o) (past (omega (arith, length-tenants_from (pool_live p) 0 ss, h)))
          ∙ sym (le-ltb n (length ss) h)
    ]
  where
    past : length (tenants_of (pool_live p) ss) ≤ n → at (tenants_of (pool_live p) ss) n ≡ None
    past h = at_past (tenants_of (pool_live p) ss) n h

module _ (p : FramePool) (ss : List Namespace) (plain : IsPlain p ss) where
  pub fits : Fits (pool_live p) ss
  fits = record { sound = pool_sound p; owned = plain.owned }

  -- a namespace holds what its door says, and nothing where there is none
  pub held_said : (t : Tenants) (n held : ℕ) → plain_of p ss ≡ t → held ≡ (pool_live p n).held → held ≡ held_at t n
  held_said t n held is said =
      said
      ∙ sym (ap (λ (x : Tenant). x.held) (tenants-at (pool_live p) ss fits n))
      ∙ ap (λ (x : Tenants). held_at x n) is

  -- what the namespaces hold, and what they have reserved, are the sums of the array's lists
  helds : sum_of (λ t. t.held) (tenants_of (pool_live p) ss) ≡ sum p.held.items
  helds = sum-tenants (pool_live p) (λ t. t.held) ss p.held.items (omega (arith, p.kept.same, plain.doors)) (held_is p)

  reserves : sum_of (λ t. t.limits.reserve) (tenants_of (pool_live p) ss) ≡ sum p.reserves.items
  reserves =
      sum-tenants (pool_live p) (λ t. t.limits.reserve) ss p.reserves.items (omega (arith, plain.doors))
      (λ k. (plain.owned k).reserve)

  most : all_held p ≤ frames_of p
  most = omega (arith, p.kept.all, positives-le-length p.table.counts.items)

  pub frames_are : frames_in (plain_of p ss) ≡ frames_of p
  frames_are = omega (arith, helds, most)

  pub plain_covered : IsCovered (plain_of p ss)
  plain_covered =
      all_covered (plain_of p ss) (rises (pool_live p) ss fits)
      (omega (arith, helds, reserves, p.kept.reserved, most))

-- At the opening

-- the namespace at a place is that of the limits there, of which there are none past the end
new_at : (configs : List Limits) (n : ℕ) →
    space_at (map new_space configs) n ≡ new_space (space_at (map new_space configs) n).limits
new_at [] n = refl
new_at (c ∷ cs) zero = refl
new_at (c ∷ cs) (suc n) = new_at cs n

-- its reservation is the one there
reserve_at : (configs : List Limits) (n : ℕ) →
    (space_at (map new_space configs) n).limits.reserve ≡ slice_index (map (λ (l : Limits). l.reserve) configs) n
reserve_at [] n = refl
reserve_at (c ∷ cs) zero = refl
reserve_at (c ∷ cs) (suc n) = reserve_at cs n

-- where nothing is live, each namespace owns that
each_new : (configs : List Limits) (n : ℕ) (f : Live) →
    IsIdle (slice_index (map (λ (l : Limits). l.reserve) configs) n) f → Owns f (space_at (map new_space configs) n)
each_new configs n f idle =
    subst (Owns f) (sym (new_at configs n))
    (owns_new (space_at (map new_space configs) n).limits f (subst (λ r. IsIdle r f) (sym (reserve_at configs n)) idle))

-- where nobody holds a frame, each namespace is a new one
new_tenants : (live : ℕ → Live) (i : ℕ) (configs : List Limits) → ((n : ℕ) → (live n).held ≡ 0) →
    tenants_from live i (map new_space configs) ≡ map (λ c. Some (new_tenant c)) configs
new_tenants live i [] none = refl
new_tenants live i (c ∷ cs) none =
    λ j.
    Some (record { limits = c; state = (new_tenant c).state; held = none i j }) ∷ new_tenants live (suc i) cs none j

module _ {Z : Type 0} {p : FramePool} {frames : ℕ} {reserves : List ℕ} {ss : List Namespace} (given : List (Limits × Z))
    (fresh : IsFresh p frames reserves) (reserves_are : reserves ≡ map (λ e. e.0.reserve) given)
    (spaces_are : ss ≡ map (λ e. new_space e.0) given) where
  reserved : p.reserves.items ≡ map (λ (l : Limits). l.reserve) (limits_of given)
  reserved = fresh.reserved ∙ reserves_are ∙ sym (map-map (λ (l : Limits). l.reserve) (λ e. e.0) given)

  made : ss ≡ map new_space (limits_of given)
  made = spaces_are ∙ sym (map-map new_space (λ e. e.0) given)

  pub opening_plain : IsPlain p ss
  opening_plain = subst (IsPlain p) (sym made) (record {
    doors =
        ap (λ (rs : List ℕ). length rs) reserved
        ∙ length-map (limits_of given) (λ (l : Limits). l.reserve)
        ∙ sym (length-map (limits_of given) new_space);
    owned = λ n. each_new (limits_of given) n (pool_live p n) (idle n);
  })
    where
      idle : (n : ℕ) → IsIdle (slice_index (map (λ (l : Limits). l.reserve) (limits_of given)) n) (pool_live p n)
      idle n = subst (λ (rs : List ℕ). IsIdle (slice_index rs n) (pool_live p n)) reserved (fresh.idle n)

  pub opening_is : plain_of p ss ≡ new_hub (limits_of given) frames
  opening_is = λ i. record { tenants = tenants i; free = free i }
    where
      tenants : tenants_of (pool_live p) ss ≡ map (λ c. Some (new_tenant c)) (limits_of given)
      tenants =
          ap (tenants_from (pool_live p) 0) made
          ∙ new_tenants (pool_live p) 0 (limits_of given) (λ n. (fresh.idle n).held)

      free : frames_of p - all_held p ≡ frames
      free = omega (arith, fresh.all, fresh.none)

-- the fault of the array's reservations is that of the limits
pub is_told : {Z : Type 0} (frames : ℕ) (reserves : List ℕ) (fault : PoolFault) (given : List (Limits × Z)) →
    reserves ≡ map (λ e. e.0.reserve) given → IsFault (fault_of frames reserves) fault →
    (fault ≡ NoMemory) ⊎ (first_fault frames (limits_of given) ≡ Some fault)
is_told {Z} frames reserves fault given reserves_are told =
    let reserves_is = reserves_are ∙ sym (map-map (λ (l : Limits). l.reserve) (λ e. e.0) given) in
    let same : fault_of frames reserves ≡ first_fault frames (limits_of given) =
    ap (λ (rs : List ℕ). fault_of frames rs) reserves_is in
    either (first_fault frames (limits_of given)) (subst (λ (o : Option PoolFault). IsFault o fault) same told)
  where
    either : (o : Option PoolFault) → IsFault o fault → (fault ≡ NoMemory) ⊎ (o ≡ Some fault)
    either (Some first) e = inr (ap (λ (x : PoolFault). Some x) (sym e))
    either None e = inl e

-- A step

-- a door that was made of the array leaves the array of its number
pub same_rest : {p d : FramePool} (q : FramePool) {n m k name name' : ℕ} → m ≡ n → d ≡ p →
    ◌≡◌ {A = DoorRest} (record { name = name; ns = k; pool = pool_rest q k })
    (record { name = name'; ns = m; pool = pool_rest d m }) →
    pool_rest q n ≡ pool_rest p n
same_rest {p} {d} q {n} {m} {k} ns pool rest =
    subst (λ (x : ℕ). pool_rest q x ≡ pool_rest p n) (ap (λ (r : DoorRest). r.ns) rest ∙ ns)
    (ap (λ (r : DoorRest). r.pool) rest ∙ (λ i. pool_rest (pool i) (ns i)))

-- and what a step through it says is of that number
pub same_door : {p d : FramePool} (q : FramePool) {n m k name name' : ℕ} {old new : Namespace} {step : Step}
    {a : Answer} → m ≡ n → d ≡ p →
    ◌≡◌ {A = DoorRest} (record { name = name; ns = k; pool = pool_rest q k })
    (record { name = name'; ns = m; pool = pool_rest d m }) →
    Moved (pool_live d m) (pool_live q k) old new step a → Moved (pool_live p n) (pool_live q n) old new step a
same_door {p} {d} q {n} {m} {k} {name} {name'} {old} {new} {step} {a} ns pool rest moved =
    subst (λ (f : Live). Moved f (pool_live q n) old new step a) (λ i. pool_live (pool i) (ns i))
    (subst (λ (x : ℕ). Moved (pool_live d m) (pool_live q x) old new step a) (ap (λ (r : DoorRest). r.ns) rest ∙ ns)
    moved)

module _ {p : FramePool} {ss : List Namespace} {n : ℕ} {old : Namespace} (here : n < length ss) (plain : IsPlain p ss)
    (space : old ≡ get_or ss n old) where
  is_space : old ≡ space_at ss n
  is_space = space ∙ get_or_default ss n old no_space here

  pub owned_before : Owns (pool_live p n) old
  owned_before = subst (Owns (pool_live p n)) (sym is_space) (plain.owned n)

  module _ (q : FramePool) {new : Namespace} {step : Step} {a : Answer} (rest : pool_rest q n ≡ pool_rest p n)
      (moved : Moved (pool_live p n) (pool_live q n) old new step a) where
    own : Moved (pool_live p n) (pool_live q n) (space_at ss n) new step a
    own = subst (λ (s : Namespace). Moved (pool_live p n) (pool_live q n) s new step a) is_space moved

    others : (k : ℕ) → k ≢ n → pool_live q k ≡ pool_live p k
    others k ne = same_view p q n k rest ne

    pub plain_after : IsPlain q (slice_set ss n new)
    plain_after = record {
      doors = ap (λ (rs : List ℕ). length rs) (same_reserves p q n rest) ∙ plain.doors ∙ sym (length-set ss n new);
      owned = owned_after (pool_live p) (pool_live q) ss here others own plain.owned;
    }

    pub plain_stepped : {h : Tenants} → plain_of p ss ≡ h → Stepped h (plain_of q (slice_set ss n new)) n step a
    plain_stepped same =
        subst (λ (x : Tenants). Stepped x (plain_of q (slice_set ss n new)) n step a) same
        (stepped (pool_live p) (pool_live q) ss here others own (frames_of p - all_held p) (frames_of q - all_held q)
        (fits p ss plain) (fits q (slice_set ss n new) plain_after)
        (frames_are q (slice_set ss n new) plain_after ∙ same_frames p q n rest ∙ sym (frames_are p ss plain))
        (plain_covered q (slice_set ss n new) plain_after))

  pub plain_same : (q : FramePool) (new : Namespace) {h : Tenants} →
      q ≡ p → new ≡ old → plain_of p ss ≡ h → plain_of q (slice_set ss n new) ≡ h
  plain_same q new {h} pools spaces same = (λ i. plain_of (pools i) (back i)) ∙ same
    where
      back : slice_set ss n new ≡ ss
      back = ap (λ (x : Namespace). slice_set ss n x) (spaces ∙ space) ∙ set-get_or ss n old
