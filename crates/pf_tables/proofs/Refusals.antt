-- What came through a chain of refusals: each of its steps gave what the next went on with.

use Rattle.std.proofs.Common.{◌≡◌, ℕ, ◌<◌, ◌≤◌, Bool, true, false, nat_le, Option, Some, None, is_some, IsOk}
use Rattle.std.proofs.Common.{Result, Ok, Err, refl, ap, ◌∙◌}
use Rattle.std.proofs.lemmas.Bool.{le-leb, lt-leb}
use Rattle.pf_tables.proofs.Common.{◌>>=◌, ◌>>◌, refuse_if, or_refuse, Errno}

-- a first step, and one that went on from it
pub both_came : {A B : Type 0} (m : Result A Errno) (h : A → Result B Errno) {y : B} → (m >>= h) ≡ Ok y
    → (x : A) × (m ≡ Ok x) × (h x ≡ Ok y)
both_came (Ok x) h is = (x, refl, is)
both_came (Err e) h is = absurd (cc)

-- a test
pub not_refused : {A : Type 0} (b : Bool) (e : Errno) (r : Result A Errno) {x : A} → (refuse_if b e >> r) ≡ Ok x
    → (b ≡ false) × (r ≡ Ok x)
not_refused true e r is = absurd (cc)
not_refused false e r is = (refl, is)

-- what there is
pub is_there : {A : Type 0} (e : Errno) (o : Option A) {x : A} → or_refuse e o ≡ Ok x → o ≡ Some x
is_there e None is = absurd (cc)
is_there e (Some y) is = cc

pub same_some : {A : Type 0} {x y : A} → ◌≡◌ {A = Option A} (Some x) (Some y) → x ≡ y
same_some is = cc

pub same_ok : {A : Type 0} {x y : A} → ◌≡◌ {A = Result A Errno} (Ok x) (Ok y) → x ≡ y
same_ok is = cc

pub is_none : {A : Type 0} (o : Option A) → is_some o ≡ false → o ≡ None
is_none None h = refl
is_none (Some x) h = absurd (cc)

pub ok_is : {A : Type 0} (r : Result A Errno) → IsOk r → (x : A) × (r ≡ Ok x)
ok_is (Ok x) ok = (x, refl)
ok_is (Err e) ok = absurd (cc)

-- a test that is met, and one that a number is too high
pub is_refused : {A : Type 0} {b : Bool} (e : Errno) (r : Result A Errno) → b ≡ true → (refuse_if b e >> r) ≡ Err e
is_refused e r met = ap (λ b. refuse_if b e >> r) met

pub too_high : {A : Type 0} (most i : ℕ) (e : Errno) (r : Result A Errno) → most ≤ i
    → (refuse_if (nat_le most i) e >> r) ≡ Err e
too_high most i e r past = is_refused e r (le-leb most i past)

pub low_enough : {A : Type 0} (most i : ℕ) (e : Errno) (r : Result A Errno) → i < most
    → (refuse_if (nat_le most i) e >> r) ≡ r
low_enough most i e r within = ap (λ b. refuse_if b e >> r) (lt-leb most i within)

-- the third step goes on from the second as from the two together
pub bind-bind : {A B C : Type 0} (m : Result A Errno) (h : A → Result B Errno) (go : B → Result C Errno)
    → (m >>= (λ a. h a >>= go)) ≡ ((m >>= h) >>= go)
bind-bind (Ok a) h go = refl
bind-bind (Err e) h go = refl

-- what follows a test is refused with it
pub then-bind : {A B : Type 0} (m : Result (Unit {0}) Errno) (r : Result A Errno) (go : A → Result B Errno)
    → (m >> (r >>= go)) ≡ ((m >> r) >>= go)
then-bind (Ok x) r go = refl
then-bind (Err e) r go = refl

-- what is found by the second step, where the third asks the first as well
module _ {A B C : Type 0} (h : A → Result B Errno) (go : A → B → Result C Errno) where
  pub in_turn : (m : Result A Errno) → (m >>= (λ a. h a >>= go a)) ≡ ((m >>= h) >>= (λ b. m >>= (λ a. go a b)))
  in_turn (Ok a) = refl
  in_turn (Err e) = refl

  pub stops_in_turn : (m : Result A Errno) (e : Errno) → (m >>= h) ≡ Err e → (m >>= (λ a. h a >>= go a)) ≡ Err e
  stops_in_turn m e is = in_turn m ∙ ap (λ r. r >>= (λ b. m >>= (λ a. go a b))) is

  pub goes_in_turn : (m : Result A Errno) (a : A) (b : B) → m ≡ Ok a → (m >>= h) ≡ Ok b
      → (m >>= (λ x. h x >>= go x)) ≡ go a b
  goes_in_turn m a b first second = in_turn m ∙ (λ i. second i >>= (λ y. first i >>= (λ x. go x y)))
