-- The namespaces of a service, by their numbers.

use Rattle.std.proofs.Common.{◌≡◌, ℕ, zero, suc, Bool, true, false, refl, if◌then◌else◌, ◌+◌, ◌<◌, ◌≤◌, ◌++◌, [], ◌∷◌, List, length, map, drop, get_or, ap, sym, subst, ◌∙◌, arith, inl, inr}
use Rattle.std.specs.Prelude.{Option, Some, None, nat_lt, slice_get}
use Rattle.std.specs.List.{range_with_len}
use Rattle.std.proofs.lemmas.Bool.{ltb-true, cases_lt}
use Rattle.std.proofs.lemmas.Bool.Decides.{nat_tests}
use Rattle.std.proofs.lemmas.List.{get_or-map, length-map, map-append}
use Rattle.std.proofs.lemmas.List.FromFn.{get_or-range_with_len, length-range_with_len}
use Rattle.pf_base.specs.Limits.{Limits}
use Rattle.pf_base.specs.declared.TheConstants.{MAX_NAMESPACES, MAX_NUMBERS}
use Rattle.pf_base.specs.declared.admission.AdmitFault.{AdmitFault}
use Rattle.pf_base.specs.declared.admission.AdmitFault.TheVariants.{TooManyNamespaces}
use Rattle.pf_depot.specs.Admission.{room_fault, admit_fault}
use Rattle.pf_frame.specs.Faults.{fault_of}
use Rattle.pf_hub.specs.Opening.{limits_of, first_fault}
use Rattle.pf_service.specs.Log.{Log, new_log}
use Rattle.pf_service.specs.Places.{OnePlace, numbers_of}

-- one more
pub range_more : (a n : ℕ) → range_with_len a n ++ (a + n) ∷ [] ≡ range_with_len a (suc n)
range_more a zero = ap (λ (k : ℕ). k ∷ []) (omega arith)
range_more a (suc n) = ap (λ (ks : List ℕ). a ∷ ks) (ap (λ (k : ℕ). range_with_len (a + 1) n ++ k ∷ []) (omega arith) ∙ range_more (a + 1) n)

module _ {W : Type 0} (ps : List (OnePlace W)) where
  -- there are as many as there are numbers
  pub counted : (n : ℕ) → numbers_of ps ≡ range_with_len 0 n → length ps ≡ n
  counted n is = sym (length-map ps (λ (p : OnePlace W). p.ns)) ∙ ap length is ∙ length-range_with_len 0 n

  -- after so many comes the next
  pub next_place : (qs : List (OnePlace W)) (n m : ℕ) (p : OnePlace W) → numbers_of ps ≡ range_with_len 0 n → p.ns ≡ length ps → qs ≡ ps ++ p ∷ [] → m ≡ n + 1
      → numbers_of qs ≡ range_with_len 0 m
  next_place qs n m p is here more up =
      let at : p.ns ≡ 0 + n = omega (arith, here, counted n is) in
      let whole : suc n ≡ m = omega arith in
      ap numbers_of more
      ∙ map-append (λ (q : OnePlace W). q.ns) ps (p ∷ [])
      ∙ ap (λ (xs : List ℕ). xs ++ p.ns ∷ []) is
      ∙ ap (λ (k : ℕ). range_with_len 0 n ++ k ∷ []) at
      ∙ range_more 0 n
      ∙ ap (range_with_len 0) whole

  -- each has the number at which it stands
  pub number_at : (n i : ℕ) (p : OnePlace W) → numbers_of ps ≡ range_with_len 0 n → i < n → p ≡ get_or ps i p → p.ns ≡ i
  number_at n i p is lt at =
      let within : i < length ps = omega (arith, lt, counted n is) in
      ap (λ (q : OnePlace W). q.ns) at
      ∙ sym (get_or-map (λ (q : OnePlace W). q.ns) ps i p p.ns within)
      ∙ ap (λ (xs : List ℕ). get_or xs i p.ns) is
      ∙ get_or-range_with_len 0 n i p.ns lt
      ∙ omega arith

-- what passes each test has no more namespaces than there may be
passes : (frames : ℕ) (reserves : List ℕ) → fault_of frames reserves ≡ None → length reserves ≤ 64
passes frames reserves none = grind (arith, nat_tests)

-- the tests let no more namespaces pass than there may be
pub few : {Z : Type 0} (frames : ℕ) (given : List (Limits × Z)) → first_fault frames (limits_of given) ≡ None → length given ≤ 64
few {Z} frames given none =
    omega (arith, passes frames (map (λ (l : Limits). l.reserve) (limits_of given)) none, length-map (limits_of given) (λ (l : Limits). l.reserve), length-map given (λ (e : Limits × Z). e.0))

-- who is admitted gets one of the numbers

passed : (living given : Bool) (room : Option AdmitFault)
    → (if living then (if given then room else Some TooManyNamespaces) else Some TooManyNamespaces) ≡ None → given ≡ true
passed true true room none = refl
passed true false room none = absurd (cc)
passed false given room none = absurd (cc)

pub number_fits : (living given slack reserve ns : ℕ) → admit_fault living given slack reserve ≡ None → ns ≡ given → ns < MAX_NUMBERS
number_fits living given slack reserve ns none is =
    let fits : given < MAX_NUMBERS = ltb-true given MAX_NUMBERS (passed (nat_lt living MAX_NAMESPACES) (nat_lt given MAX_NUMBERS) (room_fault slack reserve) none) in
    omega (arith, fits, is)

-- Each namespace behind its lock

-- so it is of those below this number
abbrev pub LockedBelow : {Z : Type 0} → (ℕ → Log Z → Type 0) → List (Limits × Z) → ℕ → Type 0
LockedBelow {Z} Locked configs m = (n : ℕ) (e : Limits × Z) → n < m → slice_get configs n ≡ Some e → Locked n (new_log e.0 e.1)

-- the next one stands at the front of those that are left
pub next_left : {X : Type 0} (xs : List X) (m : ℕ) (x : X) (more : List X) → drop m xs ≡ x ∷ more →
    (slice_get xs m ≡ Some x) × (drop (suc m) xs ≡ more)
next_left [] zero x more is = absurd (cc)
next_left [] (suc m) x more is = absurd (cc)
next_left (y ∷ ys) zero x more is = (cc, cc)
next_left (y ∷ ys) (suc m) x more is = next_left ys m x more is

-- what was put there under this number
pub put_there : {Z : Type 0} (Locked : ℕ → Log Z → Type 0) (n m : ℕ) (log' log : Log Z) → n ≡ m → log' ≡ log → Locked n log' → Locked m log
put_there Locked n m log' log at same here = subst (λ k. Locked k log) at (subst (Locked n) same here)

same_one : {X : Type 0} (x y : X) → Some x ≡ Some y → x ≡ y
same_one x y same = cc

-- one more, that was put there under the next number
pub locked_more : {Z : Type 0} (Locked : ℕ → Log Z → Type 0) (configs : List (Limits × Z)) (m k : ℕ) (e : Limits × Z) → k ≡ m + 1 →
    LockedBelow Locked configs m → slice_get configs m ≡ Some e → Locked m (new_log e.0 e.1) → LockedBelow Locked configs k
locked_more {Z} Locked configs m k e up before there here n x low is =
    elim (cases_lt n m) [
      | inl below ↦ before n x below is
      | inr past ↦
          let at : m ≡ n = omega (arith, past, low, up) in
          let same : e ≡ x = same_one e x (sym there ∙ ap (slice_get configs) at ∙ is) in
          subst (λ k. Locked k (new_log x.0 x.1)) at (subst (λ (y : Limits × Z). Locked m (new_log y.0 y.1)) same here)
    ]
