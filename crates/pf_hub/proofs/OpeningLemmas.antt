-- A hub at its opening.

use Rattle.std.proofs.Common.{◌≡◌, ℕ, zero, suc, ◌≤◌, List, [], ◌∷◌, ◌++◌, length, map, refl, ap, sym, ◌∙◌, subst, arith, append_assoc}
use Rattle.std.specs.Prelude.{slice_index, sum, Option, Some, None}
use Rattle.std.specs.List.{sum_by}
use Rattle.std.proofs.lemmas.Bool.Decides.{nat_tests}
use Rattle.std.proofs.lemmas.List.{length-map}
use Rattle.std.proofs.lemmas.List.Sums.{sum-map, sum_by-cons}
use Rattle.pf_base.specs.Limits.{Limits}
use Rattle.pf_base.specs.declared.TheConstants.{MAX_NAMESPACES}
use Rattle.pf_machine.specs.Numbered.{at, sum_of}
use Rattle.pf_frame.specs.declared.frame.Frame.{Frame}
use Rattle.pf_frame.specs.Faults.{fault_of}
use Rattle.pf_frame.specs.Live.{Live, IsIdle}
use Rattle.pf_depot.specs.declared.depot.Depot.{Depot}
use Rattle.pf_depot.specs.declared.loans.Loans.{Loans}
use Rattle.pf_depot.specs.AllLoans.{held_of, reserved_of, live_at}
use Rattle.pf_depot.specs.Depot.{IsFresh}
use Rattle.pf_depot.specs.Loans.{loans_live}
use Rattle.pf_tables.specs.Owns.{Owns}
use Rattle.pf_tables.proofs.OwnsLaws.{owns_opening}
use Rattle.pf_hub.specs.declared.tenant.Tenant.{Tenant as Lodger}
use Rattle.pf_hub.specs.Covered.{IsCovered}
use Rattle.pf_hub.proofs.TenantLaws.{hub_covered}
use Rattle.pf_hub.specs.Shared.{IsShared, hub_of, allocators_in}
use Rattle.pf_hub.specs.Opening.{limits_of, new_space, new_tenant, new_hub, new_lodgers, new_allocators}

-- a namespace that nothing has happened to owns loans that are all vacant
pub owns_new : (limits : Limits) (f : Live) → IsIdle limits.reserve f → Owns f (new_space limits)
owns_new limits f idle = owns_opening f limits idle.counts idle.shares (sym idle.reserved)

-- what passes each test reserves no more frames than there are, for no more namespaces than there may be
fits : (frames : ℕ) (reserves : List ℕ) → fault_of frames reserves ≡ None → sum reserves ≤ frames
fits frames reserves none = grind (arith, nat_tests)

few : (frames : ℕ) (reserves : List ℕ) → fault_of frames reserves ≡ None → length reserves ≤ MAX_NAMESPACES
few frames reserves none = grind (arith, nat_tests)

-- each number of vacant loans
module _ {Z : Type 0} where
  counted : (given : List (Limits × Z)) (ls : List Loans) → length ls ≡ length given → sum_of (λ (t : Lodger Z). 1) (new_lodgers given ls) ≡ length given
  counted [] ls same = refl
  counted (e ∷ es) [] same = absurd (omega (arith, same))
  counted (e ∷ es) (l ∷ ls) same = let rest = counted es ls (omega (arith, same)) in omega (arith, rest)

  many : (given : List (Limits × Z)) (ls : List Loans) → length ls ≡ length given → length (new_lodgers given ls) ≡ length given
  many [] ls same = refl
  many (e ∷ es) [] same = absurd (omega (arith, same))
  many (e ∷ es) (l ∷ ls) same = let rest = many es ls (omega (arith, same)) in omega (arith, rest)

  summed : (h : Loans → ℕ) (given : List (Limits × Z)) (ls : List Loans) → length ls ≡ length given → sum_of (λ (t : Lodger Z). h t.loans) (new_lodgers given ls) ≡ sum_by h ls
  summed h [] [] same = refl
  summed h [] (l ∷ ls) same = absurd (omega (arith, same))
  summed h (e ∷ es) [] same = absurd (omega (arith, same))
  summed h (e ∷ es) (l ∷ ls) same = let rest = summed h es ls (omega (arith, same)) in omega (arith, rest, sum_by-cons h l ls)

  owned : (given : List (Limits × Z)) (ls : List Loans) → ((n : ℕ) → IsIdle (slice_index (map (λ e. e.0.reserve) given) n) (live_at ls n))
      → (n : ℕ) (t : Lodger Z) → at (new_lodgers given ls) n ≡ Some t → Owns (loans_live t.loans) t.placed.space
  owned [] ls idle n t is = absurd (cc)
  owned (e ∷ es) [] idle n t is = absurd (cc)
  owned (e ∷ es) (l ∷ ls) idle zero t is =
      let first : ◌≡◌ {A = Lodger Z} (record { loans = l; placed = record { space = new_space e.0; allocator = e.1 } }) t = cc in
      subst (λ (x : Lodger Z). Owns (loans_live x.loans) x.placed.space) first (owns_new e.0 (loans_live l) (idle 0))
  owned (e ∷ es) (l ∷ ls) idle (suc n) t is = owned es ls (λ k. idle (suc k)) n t is

  shown_new : (given : List (Limits × Z)) (ls : List Loans) (d : Depot) → length ls ≡ length given → ((n : ℕ) → (live_at ls n).held ≡ 0) → (hub_of d (new_lodgers given ls)).tenants ≡ map (λ c. Some (new_tenant c)) (limits_of given)
  shown_new [] ls d same none = refl
  shown_new (e ∷ es) [] d same none = absurd (omega (arith, same))
  shown_new (e ∷ es) (l ∷ ls) d same none =
      λ i. Some (record { limits = e.0; state = (new_tenant e.0).state; held = none 0 i }) ∷ shown_new es ls d (omega (arith, same)) (λ k. none (suc k)) i

  pub allocators_new : (given : List (Limits × Z)) (ls : List Loans) → length ls ≡ length given → allocators_in (new_lodgers given ls) ≡ new_allocators given
  allocators_new [] ls same = refl
  allocators_new (e ∷ es) [] same = absurd (omega (arith, same))
  allocators_new (e ∷ es) (l ∷ ls) same = ap (λ zs. Some e.1 ∷ zs) (allocators_new es ls (omega (arith, same)))

  -- there are as many loans as limits
  pub loans_many : (given : List (Limits × Z)) (ls : List Loans) (reserves : List ℕ) → map reserved_of ls ≡ reserves → reserves ≡ map (λ e. e.0.reserve) given → length ls ≡ length given
  loans_many given ls reserves made same = sym (length-map ls reserved_of) ∙ ap length (made ∙ same) ∙ length-map given (λ e. e.0.reserve)

  -- one tenant more of those that are to be made
  pub one_more : (all made now : List (Option (Lodger Z))) (e : Limits × Z) (es : List (Limits × Z)) (l : Loans) (ls : List Loans)
      → now ≡ made ++ Some (record { loans = l; placed = record { space = new_space e.0; allocator = e.1 } }) ∷ [] → made ++ new_lodgers (e ∷ es) (l ∷ ls) ≡ all → now ++ new_lodgers es ls ≡ all
  one_more all made now e es l ls is before =
      ap (λ xs. xs ++ new_lodgers es ls) is
      ∙ append_assoc made (Some (record { loans = l; placed = record { space = new_space e.0; allocator = e.1 } }) ∷ []) (new_lodgers es ls)
      ∙ before

module _ {Z : Type 0} {d : Depot} {ls : List Loans} {frames : List Frame} {reserves : List ℕ} (given : List (Limits × Z))
    (fresh : IsFresh d ls frames reserves) (passes : fault_of (length frames) reserves ≡ None) (reserves_are : reserves ≡ map (λ e. e.0.reserve) given) where
  same : length ls ≡ length given
  same = loans_many given ls reserves fresh.idle.reserved reserves_are

  within : length given ≤ MAX_NAMESPACES
  within =
      let counts : length reserves ≡ length given = ap length reserves_are ∙ length-map given (λ e. e.0.reserve) in
      omega (arith, few (length frames) reserves passes, counts)

  none : (n : ℕ) → (live_at ls n).held ≡ 0
  none n = (fresh.idle.idle n).held

  pub opening_shared : IsShared d (new_lodgers given ls) (length given)
  opening_shared = record {
    owned = owned given ls (λ n. subst (λ (rs : List ℕ). IsIdle (slice_index rs n) (live_at ls n)) reserves_are (fresh.idle.idle n));
    all = omega (arith, fresh.all, fresh.idle.none, summed held_of given ls same);
    reserved = omega (arith, summed reserved_of given ls same, sym (sum-map reserved_of ls) ∙ ap sum fresh.idle.reserved, fresh.slack);
    living = sym (counted given ls same);
    few = within;
    numbers = omega (arith, many given ls same, within);
  }

  pub opening_hub : hub_of d (new_lodgers given ls) ≡ new_hub (limits_of given) (length frames)
  opening_hub = λ i. record { tenants = shown_new given ls d same none i; free = ap (λ (fs : List Frame). length fs) fresh.free i }

-- the same of the tenants that were made

module _ {Z : Type 0} {d : Depot} {ls : List Loans} {frames : List Frame} {reserves : List ℕ} {ts : List (Option (Lodger Z))} (given : List (Limits × Z))
    (fresh : IsFresh d ls frames reserves) (passes : fault_of (length frames) reserves ≡ None) (reserves_are : reserves ≡ map (λ e. e.0.reserve) given)
    (made : ts ≡ new_lodgers given ls) where
  pub opened_shared : IsShared d ts (length given)
  opened_shared = subst (λ xs. IsShared d xs (length given)) (sym made) (opening_shared given fresh passes reserves_are)

  pub opened_hub : hub_of d ts ≡ new_hub (limits_of given) (length frames)
  opened_hub = ap (λ xs. hub_of d xs) made ∙ opening_hub given fresh passes reserves_are

  pub opened_allocators : allocators_in ts ≡ new_allocators given
  opened_allocators =
      ap (λ xs. allocators_in xs) made ∙ allocators_new given ls (loans_many given ls reserves fresh.idle.reserved reserves_are)

  pub opened_covered : IsCovered (hub_of d ts)
  opened_covered = hub_covered d ts opened_shared
