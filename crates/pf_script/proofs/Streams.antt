-- Bytes that are read or written one part after another.

use Rattle.std.proofs.Common.{◌≡◌, ℕ, List, ◌++◌, Option, Some, None, ap, append_assoc, sym, ◌∙◌, rules, take, drop}
use Rattle.std.proofs.lemmas.List.{take-append-drop}
use Rattle.std.specs.Io.KnownBytes.{Appends, Consumes, Keeps}

pub consumes_more : (a b c : Option (List ℕ)) (xs ys : List ℕ) → Consumes a b xs → Consumes b c ys → Consumes a c (xs ++ ys)
consumes_more None b c xs ys p q = search rules
consumes_more (Some x) None c xs ys p q = absurd p
consumes_more (Some x) (Some y) None xs ys p q = absurd q
consumes_more (Some x) (Some y) (Some z) xs ys p q = p ∙ (ap (λ t. xs ++ t) q ∙ sym (append_assoc xs ys z))

pub consumes_kept : (a b c : Option (List ℕ)) (xs : List ℕ) → Consumes a b xs → Keeps b c → Consumes a c xs
consumes_kept None b c xs p q = search rules
consumes_kept (Some x) None c xs p q = absurd p
consumes_kept (Some x) (Some y) None xs p q = absurd q
consumes_kept (Some x) (Some y) (Some z) xs p q = rw q p

pub appends_more : (a b c : Option (List ℕ)) (xs ys : List ℕ) → Appends a b xs → Appends b c ys → Appends a c (xs ++ ys)
appends_more None b c xs ys p q = search rules
appends_more (Some x) None c xs ys p q = absurd p
appends_more (Some x) (Some y) None xs ys p q = absurd q
appends_more (Some x) (Some y) (Some z) xs ys p q = q ∙ (ap (λ t. t ++ ys) p ∙ append_assoc x xs ys)

-- a front more was written
pub writes_more : (a b c : Option (List ℕ)) (front rest bytes : List ℕ) (n : ℕ) → Appends a b front → Appends b c (take n rest) → front ++ rest ≡ bytes → (x : List ℕ) × Appends a c x × (x ++ drop n rest ≡ bytes)
writes_more a b c front rest bytes n p q same = (
  front ++ take n rest,
  appends_more a b c front (take n rest) p q,
  append_assoc front (take n rest) (drop n rest) ∙ (ap (λ t. front ++ t) (take-append-drop n rest) ∙ same),
)
