-- A line more stands behind the places of its namespace's lines.

use Rattle.std.proofs.Common.{◌≡◌, ℕ, ◌+◌, ◌<◌, ◌≤◌, List, [], ◌∷◌, ◌++◌, length, Bool, true, false, refl, ap, sym, ◌∙◌, arith}
use Rattle.std.specs.Prelude.{nat_eq, zero, suc, slice_index_or, if◌then◌else◌}
use Rattle.std.specs.declared.vec.Vec.{Vec}
use Rattle.std.specs.declared.alloc.Global.{Global}
use Rattle.pf_script.specs.declared.line.Line.{Line}
use Rattle.pf_script.specs.Places.{places_from, places_of, AreKept}

pushed : (i : ℕ) (steps : List (ℕ × Line)) (ns n : ℕ) (line : Line) → places_from i (steps ++ (ns, line) ∷ []) n ≡ (if nat_eq ns n then places_from i steps n ++ (i + length steps) ∷ [] else places_from i steps n)
pushed i [] ns n line =
    let first : i + 0 ≡ i = omega arith in
    elim (nat_eq ns n) as (λ b. (if b then i ∷ [] else []) ≡ (if b then (i + 0) ∷ [] else [])) [
      | true ↦ rw first refl
      | false ↦ refl
    ]
pushed i (e ∷ es) ns n line =
    let next : i + 1 + length es ≡ i + length (e ∷ es) = omega arith in
    by (nat_eq e.0 n) (nat_eq ns n) (rw next at (pushed (i + 1) es ns n line))
  where
    by : (a b : Bool) → places_from (i + 1) (es ++ (ns, line) ∷ []) n ≡ (if b then places_from (i + 1) es n ++ (i + length (e ∷ es)) ∷ [] else places_from (i + 1) es n) →
        (if a then i ∷ places_from (i + 1) (es ++ (ns, line) ∷ []) n else places_from (i + 1) (es ++ (ns, line) ∷ []) n)
        ≡ (if b then (if a then i ∷ places_from (i + 1) es n else places_from (i + 1) es n) ++ (i + length (e ∷ es)) ∷ []
        else (if a then i ∷ places_from (i + 1) es n else places_from (i + 1) es n))
    by true true rest = ap (λ xs. i ∷ xs) rest
    by true false rest = ap (λ xs. i ∷ xs) rest
    by false true rest = rest
    by false false rest = rest

pub kept : (steps : List (ℕ × Line)) (ns place : ℕ) (line : Line) (old new : List (Vec ℕ Global)) → AreKept steps old →
    place ≡ length steps → length new ≡ length old →
    ((n : ℕ) (d : Vec ℕ Global) → n < length old → (slice_index_or new n d).items ≡ (if nat_eq ns n then (slice_index_or old n d).items ++ place ∷ [] else (slice_index_or old n d).items)) →
    AreKept (steps ++ (ns, line) ∷ []) new
kept steps ns place line old new was is many noted =
    let first : 0 + length steps ≡ length steps = omega arith in
    record {
      many = many ∙ was.many;
      each = λ (n : ℕ) (d : Vec ℕ Global) (low : n < 64).
          noted n d (omega (arith, was.many, low))
          ∙ (λ j. if nat_eq ns n then was.each n d low j ++ is j ∷ [] else was.each n d low j)
          ∙ sym (rw first at (pushed 0 steps ns n line));
    }

-- each place is that of a step
within_from : (i m : ℕ) (steps : List (ℕ × Line)) (n : ℕ) → i + length steps ≤ m → (k d : ℕ) →
    k < length (places_from i steps n) → slice_index_or (places_from i steps n) k d < m
within_from i m [] n fits k d low = absurd (omega (arith, low))
within_from i m (e ∷ es) n fits k d low = by (nat_eq e.0 n) k (λ j l. within_from (i + 1) m es n (omega (arith, fits)) j d l) low
  where
    by : (b : Bool) (k : ℕ) → ((j : ℕ) → j < length (places_from (i + 1) es n) → slice_index_or (places_from (i + 1) es n) j d < m) → k < length (if b then i ∷ places_from (i + 1) es n else places_from (i + 1) es n) → slice_index_or (if b then i ∷ places_from (i + 1) es n else places_from (i + 1) es n) k d < m
    by true zero rest low = omega (arith, fits)
    by true (suc k) rest low = rest k (omega (arith, low))
    by false k rest low = rest k low

pub within : (steps : List (ℕ × Line)) (m n : ℕ) → m ≡ length steps → (k d : ℕ) → k < length (places_of steps n) →
    slice_index_or (places_of steps n) k d < m
within steps m n is k d low = within_from 0 m steps n (omega (arith, is)) k d low
