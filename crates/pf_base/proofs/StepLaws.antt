-- Steps that compare equal are equal: what the derived comparison says of any enum, at this one. No kind is named.

use Rattle.std.proofs.Common.{rules, ◌≡◌, ◌&&◌, inl, inr, ap, ℕ, Bool, true, false, List, [], ◌∷◌, arith}
use Rattle.std.specs.contracts.prelude.U32PartialEq.TheImpl.{ghosts as number_ghosts}
use Rattle.std.specs.contracts.prelude.BoolPartialEq.TheImpl.{ghosts as switch_ghosts}
use Rattle.pf_base.specs.declared.open_flags.OpenFlags.{OpenFlags}
use Rattle.pf_base.specs.declared.step.Step.{Step}
use Rattle.pf_base.specs.contracts.bytes.ByteStringPartialEq.TheImpl.{ghosts as byte_ghosts}
use Rattle.pf_base.specs.contracts.cred.GroupsPartialEq.TheImpl.{ghosts as group_ghosts}
use Rattle.pf_base.specs.contracts.open_flags.OpenFlagsPartialEq.TheImpl.{ghosts as flag_ghosts}
use Rattle.pf_base.specs.contracts.step.Step.{the_type}
use Rattle.pf_base.specs.contracts.step.StepPartialEq.TheImpl.{ghosts}
use denote.Struct.Field.{Field}
use denote.Struct.Values.{Values}
use denote.Enum.Declared.{Choice, intoss}
use denote.Enum.Compared.{Each, by}

-- what compares equal is so
record Tells (flag : Bool) (Said : Type 0) : Type 0 where
  so : flag ≡ true → Said

-- Fields

number : (a b : ℕ) → Tells (number_ghosts.eq a b) (a ≡ b)
number a b = record { so = λ h. search rules }

switch : (a b : Bool) → Tells (switch_ghosts.eq a b) (a ≡ b)
switch a b = record { so = λ h. search rules }

bytes : (a b : List ℕ) → Tells (byte_ghosts.eq a b) (a ≡ b)
bytes a b = record { so = λ h. search rules }

groups : (a b : List ℕ) → Tells (group_ghosts.eq a b) (a ≡ b)
groups a b = record { so = λ h. search rules }

flags : (a b : OpenFlags) → Tells (flag_ghosts.eq a b) (a ≡ b)
flags a b = record { so = λ h. search rules }

left : (a b : Bool) → (a && b) ≡ true → a ≡ true
left a b h = search rules

right : (a b : Bool) → (a && b) ≡ true → b ≡ true
right a b h = search rules

-- the last field of a variant
last : {A : Type 0} {t : Bool} (x y : A × Unit {0}) → Tells t (x.0 ≡ y.0) → Tells t (x ≡ y)
last x y e = record { so = λ h. let p = e.so h in λ i. (p i, tt) }

-- a field, and those behind it
both : {A B : Type 0} {t u : Bool} (x y : A × B) → Tells t (x.0 ≡ y.0) → Tells u (x.1 ≡ y.1) → Tells (t && u) (x ≡ y)
both {t = t} {u = u} x y e f =
    record { so = λ h. let p = e.so (left t u h) in let q = f.so (right t u h) in λ i. (p i, q i) }

-- Variants

-- what compares unequal
differ : false ≡ true → ⊥
differ e = absurd (cc)

-- two values of one variant that compare equal are equal
abbrev Same : (Fss : List (List Field)) → Each Bool Fss → Type 0
Same [] each = Unit
Same (Fs ∷ Fss) each = ((x y : Values Fs) → Tells (each.0 x y) (x ≡ y)) × Same Fss each.1

by_same : (Fss : List (List Field)) (each : Each Bool Fss) (c d : Choice Fss) → by false false Fss each c d ≡ true
    → Same Fss each → c ≡ d
by_same [] each c d h s = absurd c
by_same (Fs ∷ Fss) each (inl x) (inl y) h s = ap inl ((s.0 x y).so h)
by_same (Fs ∷ Fss) each (inl x) (inr y) h s = absurd (differ h)
by_same (Fs ∷ Fss) each (inr x) (inl y) h s = absurd (differ h)
by_same (Fs ∷ Fss) each (inr x) (inr y) h s = ap inr (by_same Fss each.1 x y h s.1)

pub sound : (a b : Step) → ghosts.eq a b ≡ true → a ≡ b
sound a b h =
    the_type.to_one a b (ap (intoss the_type.parts) (by_same the_type.parts _ _ _ h
    (search (both, last, number, switch, bytes, groups, flags) depth 30 parts 30)))

own_bytes : (a : List ℕ) → byte_ghosts.eq a a ≡ true
own_bytes a = search rules

own_groups : (a : List ℕ) → group_ghosts.eq a a ≡ true
own_groups a = search rules

own_flags : (a : OpenFlags) → flag_ghosts.eq a a ≡ true
own_flags a = search rules

pub reflexive : (a : Step) → ghosts.eq a a ≡ true
reflexive a = grind (arith, own_bytes, own_groups, own_flags)
