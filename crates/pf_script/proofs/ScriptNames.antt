-- What a map by names says, as the definitions say it of a list.

use Rattle.std.proofs.Common.{◌≡◌, ℕ, ◌+◌, List, [], ◌∷◌, ◌++◌, length, map, take, Some, None, Bool, true, false, cond, refl, ap, sym, ◌∙◌}
use Rattle.std.specs.Prelude.{bytes_eq, position, sum_by, fold, slice_get, option_map}
use Rattle.std.specs.List.{position_from}
use Rattle.std.specs.Map.{keys_of, values_of, lookup}
use Rattle.std.specs.Cmp.Lexicographic.{nat_list_eq_equiv}
use Rattle.std.specs.declared.vec.Vec.{Vec}
use Rattle.std.specs.declared.alloc.Global.{Global}
use Rattle.std.proofs.lemmas.Iterator.Adapters.{position_from-zero}
use Rattle.std.proofs.lemmas.List.{map-append, take-map, length-map}
use Rattle.std.proofs.lemmas.Option.{slice_get-map}
use Rattle.pf_base.specs.Limits.{Limits}
use Rattle.pf_script.specs.Script.{place_of, reserved}
use Rattle.pf_script.specs.Named.{named}

place_from : (name : List ℕ) (i : ℕ) (entries : List (Vec ℕ Global × Limits)) → position_from (λ k. bytes_eq name k.items) i (keys_of entries) ≡ position_from (λ s. bytes_eq s.0 name) i (named entries)
place_from name i [] = refl
place_from name i (e ∷ es) = λ j. cond (nat_list_eq_equiv.symm name e.0.items j) (Some i) (place_from name (i + 1) es j)

-- the place of a name among the keys is its namespace's number
pub place_is : (name : List ℕ) (entries : List (Vec ℕ Global × Limits)) → position (λ k. bytes_eq name k.items) (keys_of entries) ≡ place_of name (named entries)
place_is name entries = position_from-zero (λ (k : Vec ℕ Global). bytes_eq name k.items) (keys_of entries) ∙ place_from name 0 entries

none_from : (name : List ℕ) (i : ℕ) (entries : List (Vec ℕ Global × Limits)) → position_from (λ s. bytes_eq s.0 name) i (named entries) ≡ None → lookup (λ k. bytes_eq name k.items) entries ≡ None
none_from name i [] none = refl
none_from name i (e ∷ es) none = by (bytes_eq e.0.items name) refl none (none_from name (i + 1) es)
  where
    by : (b : Bool) → bytes_eq e.0.items name ≡ b → cond b (Some i) (position_from (λ s. bytes_eq s.0 name) (i + 1) (named es)) ≡ None →
        (position_from (λ s. bytes_eq s.0 name) (i + 1) (named es) ≡ None → lookup (λ k. bytes_eq name k.items) es ≡ None) →
        cond (bytes_eq name e.0.items) (Some e.1) (lookup (λ k. bytes_eq name k.items) es) ≡ None
    by true is none rest = absurd (cc)
    by false is none rest = rw (nat_list_eq_equiv.symm name e.0.items, is) (rest none)

-- a name that no namespace has is no key
pub none_is : (name : List ℕ) (entries : List (Vec ℕ Global × Limits)) → place_of name (named entries) ≡ None → lookup (λ k. bytes_eq name k.items) entries ≡ None
none_is name entries none = none_from name 0 entries none

-- the values are the limits
pub limits_of : (entries : List (Vec ℕ Global × Limits)) → map (λ s. s.1) (named entries) ≡ values_of entries
limits_of [] = refl
limits_of (e ∷ es) = ap (λ ls. e.1 ∷ ls) (limits_of es)

-- and so are the first of both
pub first_limits : (n : ℕ) (entries : List (Vec ℕ Global × Limits)) →
    map (λ s. s.1) (take n (named entries)) ≡ take n (values_of entries)
first_limits n entries = sym (take-map (λ (s : List ℕ × Limits). s.1) n (named entries)) ∙ ap (λ ls. take n ls) (limits_of entries)

-- a map that a name was put into last
pub grown : (old new : List (Vec ℕ Global × Limits)) (key : Vec ℕ Global) (limits : Limits) (name : List ℕ) → new ≡ old ++ (key, limits) ∷ [] → key.items ≡ name → named new ≡ named old ++ (name, limits) ∷ []
grown old new key limits name is same = ap named is ∙ (map-append (λ (e : Vec ℕ Global × Limits). (e.0.items, e.1)) old ((key, limits) ∷ []) ∙ ap (λ n. named old ++ (n, limits) ∷ []) same)

-- the name at a place
pub name_at : (entries : List (Vec ℕ Global × Limits)) (place : ℕ) (key : Vec ℕ Global) (limits : Limits) → slice_get entries place ≡ Some (key, limits) → slice_get (map (λ s. s.0) (named entries)) place ≡ Some key.items
name_at entries place key limits is =
    slice_get-map (λ (s : List ℕ × Limits). s.0) (named entries) place
    ∙ (ap (option_map (λ (s : List ℕ × Limits). s.0)) (slice_get-map (λ (e : Vec ℕ Global × Limits). (e.0.items, e.1)) entries place)
    ∙ ap (λ r. option_map (λ (s : List ℕ × Limits). s.0) (option_map (λ (e : Vec ℕ Global × Limits). (e.0.items, e.1)) r)) is)

-- the limits at a place
pub limits_at : (entries : List (Vec ℕ Global × Limits)) (place : ℕ) (key : Vec ℕ Global) (limits : Limits) → slice_get entries place ≡ Some (key, limits) → slice_get (map (λ s. s.1) (named entries)) place ≡ Some limits
limits_at entries place key limits is =
    slice_get-map (λ (s : List ℕ × Limits). s.1) (named entries) place
    ∙ (ap (option_map (λ (s : List ℕ × Limits). s.1)) (slice_get-map (λ (e : Vec ℕ Global × Limits). (e.0.items, e.1)) entries place)
    ∙ ap (λ r. option_map (λ (s : List ℕ × Limits). s.1) (option_map (λ (e : Vec ℕ Global × Limits). (e.0.items, e.1)) r)) is)

summed : (a : ℕ) (entries : List (Vec ℕ Global × Limits)) → fold (λ n s. n + s.1.reserve) a (named entries) ≡ fold (λ n l. n + l.reserve) a (values_of entries)
summed a [] = refl
summed a (e ∷ es) = summed (a + e.1.reserve) es

-- the sum of the values' reservations
pub reserved_is : (entries : List (Vec ℕ Global × Limits)) → reserved (named entries) ≡ sum_by (λ l. l.reserve) (values_of entries)
reserved_is entries = summed 0 entries

-- each entry is a namespace
pub many_named : (entries : List (Vec ℕ Global × Limits)) → length (named entries) ≡ length entries
many_named entries = length-map entries (λ (e : Vec ℕ Global × Limits). (e.0.items, e.1))
