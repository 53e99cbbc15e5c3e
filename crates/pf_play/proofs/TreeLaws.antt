-- Each name keeps its own allocator, whatever its hub does.

use Rattle.std.proofs.Common.{◌≡◌, ℕ, zero, suc, ◌+◌, ◌<◌, ◌≤◌, ◌⊎◌, List, [], ◌∷◌, ◌++◌, length, map, take}
use Rattle.std.proofs.Common.{refl, ap, sym, ◌∙◌, subst, arith, inl, inr, get_or, length-set, length-append}
use Rattle.std.specs.Prelude.{Option, Some, None, slice_get}
use Rattle.std.proofs.lemmas.List.{length-map}
use Rattle.std.proofs.lemmas.Option.{slice_get-get_or}
use Rattle.pf_base.specs.Limits.{Limits}
use Rattle.pf_hub.specs.Events.{Comes, Goes}
use Rattle.pf_hub.specs.Opening.{new_hub, new_tenant, new_allocators, limits_of, allocators_of}
use Rattle.pf_hub.specs.Tenants.{Housed}
use Rattle.pf_machine.specs.Numbered.{at, clear_at}
use Rattle.pf_play.specs.Numbers.{numbers_from}
use Rattle.pf_play.specs.Trees.{AreTheirs}
use Rattle.pf_script.specs.Sound.{AreGiven, IsGiven}
use Rattle.pf_script.specs.declared.line.Line.{Line}
use Rattle.pf_script.specs.declared.line.Line.TheVariants as lines

module _ {Z : Type 0} where
  -- what is left was there
  was_there : (xs : List (Option Z)) (n m : ℕ) (z : Z) → at (clear_at xs n) m ≡ Some z → at xs m ≡ Some z
  was_there [] n m z is = is
  was_there (x ∷ xs) zero zero z is = absurd (cc)
  was_there (x ∷ xs) zero (suc m) z is = is
  was_there (x ∷ xs) (suc n) zero z is = is
  was_there (x ∷ xs) (suc n) (suc m) z is = was_there xs n m z is

  -- what stands behind a push stood before it, or was pushed
  pushed : (xs : List (Option Z)) (x : Option Z) (n : ℕ) (z : Z) → at (xs ++ x ∷ []) n ≡ Some z →
      (at xs n ≡ Some z) ⊎ ((n ≡ length xs) × (x ≡ Some z))
  pushed [] x zero z is = inr (refl, is)
  pushed [] x (suc n) z is = absurd (cc)
  pushed (y ∷ xs) x zero z is = inl is
  pushed (y ∷ xs) x (suc n) z is = elim (pushed xs x n z is) [
    | inl was ↦ inl was
    | inr new ↦ inr (ap suc new.0, new.1)
  ]

  -- what stands at a number stands within the list
  within : (xs : List (Option Z)) (n : ℕ) (z : Z) → at xs n ≡ Some z → n < length xs
  within [] n z is = absurd (cc)
  within (x ∷ xs) zero z is = omega arith
  within (x ∷ xs) (suc n) z is = let rest = within xs n z is in omega (arith, rest)

  -- a front of a list
  pub in_front : (k : ℕ) (ts : List Z) (n : ℕ) (t : Z) → slice_get (take k ts) n ≡ Some t → slice_get ts n ≡ Some t
  in_front zero ts n t is = absurd (cc)
  in_front (suc k) [] n t is = absurd (cc)
  in_front (suc k) (x ∷ ts) zero t is = is
  in_front (suc k) (x ∷ ts) (suc n) t is = in_front k ts n t is

  -- what stands beside limits
  beside : (configs : List (Limits × Z)) (n : ℕ) (tree : Z) → at (new_allocators configs) n ≡ Some tree →
      slice_get (allocators_of configs) n ≡ Some tree
  beside [] n tree is = absurd (cc)
  beside (e ∷ es) zero tree is = is
  beside (e ∷ es) (suc n) tree is = beside es n tree is

  -- the same beside each of at most one
  lone : (ls : List Limits) (tree : Z) (n : ℕ) (t : Z) → length ls ≤ 1 → slice_get (map (λ _. tree) ls) n ≡ Some t →
      (n ≡ 0) × (tree ≡ t)
  lone [] tree n t few is = absurd (cc)
  lone (l ∷ ls) tree zero t few is = (refl, cc)
  lone (l ∷ []) tree (suc n) t few is = absurd (cc)
  lone (l ∷ m ∷ ls) tree (suc n) t few is = absurd (omega (arith, few))

numbered : (i k place n : ℕ) → at (numbers_from i k) place ≡ Some n → (n ≡ i + place) × (place < k)
numbered i zero place n is = absurd (cc)
numbered i (suc k) zero n is = let same : i ≡ n = cc in (omega (arith, same), omega arith)
numbered i (suc k) (suc place) n is =
    let rest = numbered (i + 1) k place n is in (omega (arith, rest.0), omega (arith, rest.1))

module _ {Z : Type 0} (trees : List Z) where
  -- those that a hub opens with
  pub first_theirs : (configs : List (Limits × Z)) (numbers : List (Option ℕ)) (frames : ℕ) (hub : Housed Z) →
      numbers ≡ numbers_from 0 (length configs) → hub.world ≡ new_hub (limits_of configs) frames →
      hub.allocators ≡ new_allocators configs →
      ((n : ℕ) (t : Z) → slice_get (allocators_of configs) n ≡ Some t → slice_get trees n ≡ Some t) →
      AreTheirs trees numbers hub
  first_theirs configs numbers frames hub is opened stand own =
      let many : length hub.allocators ≡ length configs = ap length stand ∙ length-map configs (λ e. Some e.1) in
      record {
        many =
            many
            ∙ sym (ap (λ (h : _). length h) (ap (λ w. w.tenants) opened)
            ∙ length-map (limits_of configs) (λ l. Some (new_tenant l)) ∙ length-map configs (λ e. e.0));
        known = λ place n has.
            let here = numbered 0 (length configs) place n (ap (λ ns. at ns place) (sym is) ∙ has) in
            omega (arith, here.0, here.1, many);
        theirs = λ place n tree has stands.
            let here = numbered 0 (length configs) place n (ap (λ ns. at ns place) (sym is) ∙ has) in
            let same : n ≡ place = omega (arith, here.0) in
            subst (λ k. slice_get trees k ≡ Some tree) same
            (own n tree (beside configs n tree (ap (λ zs. at zs n) (sym stand) ∙ stands)));
      }

  -- nobody comes or goes
  pub stay_theirs : (numbers : List (Option ℕ)) (old new : Housed Z) → new.allocators ≡ old.allocators →
      length new.world.tenants ≡ length old.world.tenants → AreTheirs trees numbers old → AreTheirs trees numbers new
  stay_theirs numbers old new stand many were = record {
    many = ap length stand ∙ were.many ∙ sym many;
    known = λ place n has. let low = were.known place n has in omega (arith, low, ap (λ zs. length zs) stand);
    theirs = λ place n tree has stands. were.theirs place n tree has (ap (λ zs. at zs n) (sym stand) ∙ stands);
  }

  -- one goes
  pub gone_theirs : (numbers : List (Option ℕ)) (old new : Housed Z) (n : ℕ) → Goes old new n →
      AreTheirs trees numbers old → AreTheirs trees numbers new
  gone_theirs numbers old new n goes were =
      let long : length new.allocators ≡ length old.allocators =
      ap (λ zs. length zs) goes.allocators ∙ length-set old.allocators n None in
      record {
        many = long ∙ were.many ∙ sym (ap (λ w. length w.tenants) goes.world ∙ length-set old.world.tenants n None);
        known = λ place m has. let low = were.known place m has in omega (arith, low, long);
        theirs = λ place m tree has stands. were.theirs place m tree has
            (was_there old.allocators n m tree (ap (λ zs. at zs m) (sym goes.allocators) ∙ stands));
      }

  -- the next name's namespace comes
  pub come_theirs : (numbers : List (Option ℕ)) (old new : Housed Z) (limits : Limits) (tree : Z) (m : ℕ) →
      m ≡ length old.world.tenants → Comes old new limits tree → slice_get trees (length numbers) ≡ Some tree →
      AreTheirs trees numbers old → AreTheirs trees (numbers ++ Some m ∷ []) new
  come_theirs numbers old new limits tree m next comes own were =
      let long : length new.allocators ≡ length old.allocators + 1 =
      ap (λ zs. length zs) comes.allocators ∙ length-append old.allocators (Some tree ∷ []) in
      let many : length new.world.tenants ≡ length old.world.tenants + 1 =
      ap (λ w. length w.tenants) comes.world ∙ length-append old.world.tenants (Some (new_tenant limits) ∷ []) in
      record {
        many = omega (arith, long, many, were.many);
        known = λ place n has. elim (pushed numbers (Some m) place n has) [
          | inl was ↦ let low = were.known place n was in omega (arith, low, long)
          | inr new ↦ let same : m ≡ n = cc in omega (arith, same, next, were.many, long)
        ];
        theirs = λ place n z has stands.
            let there = pushed old.allocators (Some tree) n z (ap (λ zs. at zs n) (sym comes.allocators) ∙ stands) in
            elim (pushed numbers (Some m) place n has) [
              | inl was ↦ elim there [
                | inl stood ↦ were.theirs place n z was stood
                | inr came ↦ absurd (let low = were.known place n was in omega (arith, low, came.0))
              ]
              | inr new ↦ elim there [
                | inl stood ↦
                    absurd (let same : m ≡ n = cc in let low = within old.allocators n z stood in
                    omega (arith, same, low, next, were.many))
                | inr came ↦ subst (λ k. slice_get trees k ≡ Some z) (sym new.0) (own ∙ came.1)
              ]
            ];
      }

  -- the next name isn't admitted
  pub skip_theirs : (numbers : List (Option ℕ)) (hub : Housed Z) → AreTheirs trees numbers hub →
      AreTheirs trees (numbers ++ None ∷ []) hub
  skip_theirs numbers hub were =
      let was : (place n : ℕ) → at (numbers ++ None ∷ []) place ≡ Some n → at numbers place ≡ Some n =
      λ place n has. elim (pushed numbers None place n has) [
        | inl was ↦ was
        | inr new ↦ absurd (cc)
      ] in
      record {
        many = were.many;
        known = λ place n has. were.known place n (was place n has);
        theirs = λ place n tree has stands. were.theirs place n tree (was place n has) stands;
      }

-- one name alone has the one allocator
pub lone_own : {Z : Type 0} (trees : List Z) (configs : List (Limits × Z)) (tree : Z) → length configs ≤ 1 →
    allocators_of configs ≡ map (λ _. tree) (limits_of configs) → slice_get trees 0 ≡ Some tree →
    (n : ℕ) (t : Z) → slice_get (allocators_of configs) n ≡ Some t → slice_get trees n ≡ Some t
lone_own trees configs tree few same own n t is =
    let at_most : length (limits_of configs) ≤ 1 = omega (arith, few, length-map configs (λ e. e.0)) in
    let one = lone (limits_of configs) tree n t at_most (ap (λ zs. slice_get zs n) (sym same) ∙ is) in
    subst (λ k. slice_get trees k ≡ Some t) (sym one.0) (own ∙ ap Some one.1)

-- the allocator at a place
pub own_there : {Z : Type 0} (trees : List Z) (n m : ℕ) (tree : Z) → n < length trees → tree ≡ get_or trees n tree →
    n ≡ m → slice_get trees m ≡ Some tree
own_there trees n m tree low is same =
    subst (λ k. slice_get trees k ≡ Some tree) same (slice_get-get_or trees n tree low ∙ ap Some (sym is))

-- an admit line is of the next name
pub admits_next : (n : ℕ) (e : ℕ × Line) (rest : List (ℕ × Line)) (m : ℕ) → AreGiven n (e ∷ rest) m →
    e.1 ≡ lines.Admit → e.0 ≡ n
admits_next n e rest m known is = subst (λ line. IsGiven n line e.0) is known.0
