-- What holds of a call's result, if it has one: a refusal has none.

use Rattle.std.specs.Prelude.{◌≡◌, Bool, true, false, Option, Some, None, Result, Ok, Err, ⊤}
use Rattle.std.proofs.Common.{refl, subst}
use Rattle.pf_machine.specs.Refusals.{◌>>=◌, ◌>>◌, refuse_if, or_refuse}
use Rattle.pf_base.specs.declared.errno.Errno.{Errno}

-- what is given has a property
abbrev pub Holds : {A : Type 0} → (A → Type 0) → Result A Errno → Type 0
Holds P (Ok x) = P x
Holds P (Err e) = ⊤

-- a result is no refusal
abbrev pub IsOk : {A : Type 0} → Result A Errno → Type 0
IsOk (Ok x) = ⊤
IsOk (Err e) = ⊥

-- what holds of the first part carries over to the second
pub goes : {A B : Type 0} (P : A → Type 0) (Q : B → Type 0) (r : Result A Errno) (f : A → Result B Errno) → Holds P r → ((x : A) → P x → Holds Q (f x)) → Holds Q (r >>= f)
goes P Q (Ok x) f p h = h x p
goes P Q (Err e) f p h = tt

-- the second part has it, whatever the first gives
pub carries : {A B : Type 0} (Q : B → Type 0) (r : Result A Errno) (f : A → Result B Errno) → ((x : A) → Holds Q (f x)) → Holds Q (r >>= f)
carries Q (Ok x) f h = h x
carries Q (Err e) f h = tt

pub passes : {B : Type 0} (Q : B → Type 0) (r : Result (Unit {0}) Errno) (q : Result B Errno) → Holds Q q → Holds Q (r >> q)
passes Q (Ok x) q h = h
passes Q (Err e) q h = tt

-- whatever it is
pub any : {A : Type 0} (r : Result A Errno) → Holds (λ x. ⊤) r
any (Ok x) = tt
any (Err e) = tt

-- where a test must fail, its failing is known
pub unless : {B : Type 0} (Q : B → Type 0) (b : Bool) (e : Errno) (q : Result B Errno) → (b ≡ false → Holds Q q) → Holds Q (refuse_if b e >> q)
unless Q true e q h = tt
unless Q false e q h = h refl

pub found : {A B : Type 0} (Q : B → Type 0) (e : Errno) (o : Option A) (f : A → Result B Errno) → ((x : A) → o ≡ Some x → Holds Q (f x)) → Holds Q (or_refuse e o >>= f)
found Q e None f h = tt
found Q e (Some x) f h = h x refl

-- what it gives is known
pub gives : {A B : Type 0} (Q : B → Type 0) (r : Result A Errno) (f : A → Result B Errno)
    → ((x : A) → r ≡ Ok x → Holds Q (f x)) → Holds Q (r >>= f)
gives Q (Ok x) f h = h x refl
gives Q (Err e) f h = tt

-- and so is what holds of that
pub of_given : {A : Type 0} (P : A → Type 0) (r : Result A Errno) (x : A) → r ≡ Ok x → Holds P r → P x
of_given P r x e h = subst (λ q. Holds P q) e h

-- what follows from what holds, holds
pub weakens : {A : Type 0} (P Q : A → Type 0) (r : Result A Errno) → ((x : A) → P x → Q x) → Holds P r → Holds Q r
weakens P Q (Ok x) f h = f x h
weakens P Q (Err e) f h = tt
