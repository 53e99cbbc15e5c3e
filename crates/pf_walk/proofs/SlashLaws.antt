-- How many slashes the parts of a text have, and what stands before the first.
use Rattle.std.proofs.Common.{◌≡◌, ℕ, zero, suc, ◌+◌, ◌-◌, ◌*◌, ◌<◌, ◌≤◌, Bool, true, false, not, nat_lt, List, [], ◌∷◌, ◌++◌, length, take, drop, map, replicate, nat_eq, refl, sym, ap, ◌∙◌, subst, arith, cond, append_assoc, Bor}
use Rattle.std.specs.List.{count_by, list_all, prefix_len, position_or_len, slice_split, onto_first}
use Rattle.std.specs.Prelude.{filter, ◌&&◌}
use Rattle.std.specs.Simd.Lanes.{mask_l}
use Rattle.std.proofs.Math.Seq.{drop-cons}
use Rattle.std.proofs.lemmas.Bool.Decides.{nat_tests}
use Rattle.std.proofs.lemmas.List.{drop-replicate, length-append, length-drop, length-map, take_all}
use Rattle.std.proofs.lemmas.List.Elements.{filter-append}
use Rattle.std.proofs.lemmas.List.Splits.{slice_split_first, length-slice_split}
use Rattle.std.proofs.lemmas.List.Sums.{sum_by-append, sum_by-cons, prefix_len-le-length, count_by-le-length, length-filter}
use Rattle.pf_machine.specs.FileMap.{Name, Path}
use Rattle.pf_machine.specs.Paths.{is_component, is_nonempty, components}
use Rattle.pf_tree.specs.Subtrees.{path_of}
use Rattle.pf_walk.specs.Room.{is_slash}
use Rattle.pf_walk.proofs.Cuts.{path_of-map}

abbrev pub count : List ℕ → ℕ
count xs = count_by (λ b. nat_eq b 47) xs

-- zeros are none
no_slash : (n : ℕ) → count (replicate n 0) ≡ 0
no_slash zero = refl
no_slash (suc n) = omega (arith, no_slash n)

pub padded : (text copied : List ℕ) → copied ≡ text → count (copied ++ drop (length text) (replicate 16 0)) ≡ count text
padded text copied is =
    let none : count (drop (length text) (replicate 16 0)) ≡ 0 = ap count (drop-replicate {X = ℕ} (length text) 16 0) ∙ no_slash (16 - length text) in
    let both = sum_by-append (λ b. cond (nat_eq b 47) 1 0) copied (drop (length text) (replicate 16 0)) in
    omega (arith, none, both, ap count is)

-- a mark is at a place
pub some_place : (xs : List ℕ) → 0 < mask_l (map (λ b. nat_eq b 47) xs) → prefix_len (λ b. not (nat_eq b 47)) xs < length xs
some_place [] some = absurd (omega arith)
some_place (x ∷ xs) some =
    elim (nat_eq x 47) as (λ b. 0 < cond b 1 0 + 2 * mask_l (map (λ b. nat_eq b 47) xs) → cond (not b) (1 + prefix_len (λ b. not (nat_eq b 47)) xs) 0 < suc (length xs)) [
      | true ↦ λ _. omega arith
      | false ↦ λ more. omega (arith, some_place xs (omega arith))
    ] some

-- the first place in a text's front is the first in the text
pub in_front : (n : ℕ) (xs : List ℕ) → prefix_len (λ b. not (nat_eq b 47)) (take n xs) < length (take n xs) → prefix_len (λ b. not (nat_eq b 47)) (take n xs) ≡ prefix_len (λ b. not (nat_eq b 47)) xs
in_front zero xs lt = absurd (omega arith)
in_front (suc n) [] lt = absurd (omega arith)
in_front (suc n) (x ∷ xs) lt =
    elim (not (nat_eq x 47)) as (λ b. cond b (1 + prefix_len (λ b. not (nat_eq b 47)) (take n xs)) 0 < suc (length (take n xs)) → cond b (1 + prefix_len (λ b. not (nat_eq b 47)) (take n xs)) 0 ≡ cond b (1 + prefix_len (λ b. not (nat_eq b 47)) xs) 0) [
      | true ↦ λ low. ap (λ k. 1 + k) (in_front n xs (omega (arith, low)))
      | false ↦ λ _. refl
    ] lt

-- a text without a slash is one piece
pub lone : (xs : List ℕ) → position_or_len (λ b. nat_eq b 47) xs ≡ length xs → slice_split (λ b. nat_eq b 47) xs ≡ xs ∷ []
lone [] e = refl
lone (x ∷ xs) e =
    elim (nat_eq x 47) as (λ b. cond (not b) (1 + position_or_len (λ b. nat_eq b 47) xs) 0 ≡ suc (length xs) → cond b ([] ∷ slice_split (λ b. nat_eq b 47) xs) (onto_first x (slice_split (λ b. nat_eq b 47) xs)) ≡ (x ∷ xs) ∷ []) [
      | true ↦ λ is. absurd (omega (arith, is))
      | false ↦ λ is. ap (onto_first x) (lone xs (omega (arith, is)))
    ] e

module _ (ns new : List (Bor Name)) (rest name behind : Name) (k : ℕ) (all : Path) (at : k ≡ position_or_len (λ b. nat_eq b 47) rest) (is_name : name ≡ take k rest) (is_behind : behind ≡ drop k rest)
    (put : path_of new ≡ path_of ns ++ filter is_component (name ∷ [])) (so : path_of ns ++ filter is_component (slice_split (λ b. nat_eq b 47) rest) ≡ all) where
  -- behind a slash it goes on
  pub goes_on : (y : ℕ) (after : Name) → behind ≡ y ∷ after → path_of new ++ filter is_component (slice_split (λ b. nat_eq b 47) after) ≡ all
  goes_on y after is_after =
      let low : k < length rest = omega (arith, length-drop k rest, ap length is_behind, ap length is_after) in
      let step : suc k ≡ k + 1 = omega arith in
      let tail : after ≡ drop (k + 1) rest = ap (drop 1) (sym is_after ∙ is_behind ∙ drop-cons rest k 0 low) ∙ ap (λ n. drop n rest) step in
      let cut : slice_split (λ b. nat_eq b 47) rest ≡ name ∷ slice_split (λ b. nat_eq b 47) after =
      slice_split_first (λ b. nat_eq b 47) rest 0 (subst (λ n. n < length rest) at low)
      ∙ ap (λ n. take n rest ∷ slice_split (λ b. nat_eq b 47) (drop (n + 1) rest)) (sym at)
      ∙ ap (λ l. l ∷ slice_split (λ b. nat_eq b 47) (drop (k + 1) rest)) (sym is_name)
      ∙ ap (λ l. name ∷ slice_split (λ b. nat_eq b 47) l) (sym tail) in
      ap (λ l. l ++ filter is_component (slice_split (λ b. nat_eq b 47) after)) put
      ∙ append_assoc (path_of ns) (filter is_component (name ∷ [])) (filter is_component (slice_split (λ b. nat_eq b 47) after))
      ∙ ap (λ l. path_of ns ++ l) (sym (filter-append is_component (name ∷ []) (slice_split (λ b. nat_eq b 47) after)))
      ∙ ap (λ l. path_of ns ++ filter is_component l) (sym cut)
      ∙ so

  -- with no slash left it ends
  pub ends : length behind ≡ 0 → path_of new ≡ all
  ends none =
      let gone : length rest ≤ k = omega (arith, length-drop k rest, ap length is_behind, none) in
      let most = prefix_len-le-length (λ b. not (nat_eq b 47)) rest in
      let whole : name ≡ rest = is_name ∙ take_all k rest gone in
      let one : slice_split (λ b. nat_eq b 47) rest ≡ name ∷ [] = lone rest (omega (arith, at, gone, most)) ∙ ap (λ l. l ∷ []) (sym whole) in
      put ∙ ap (λ l. path_of ns ++ filter is_component l) (sym one) ∙ so

-- between slashes alone is no name
pub slashes_alone : (path : Name) → count path ≡ length path → length (components path) ≤ 0
slashes_alone [] all = omega arith
slashes_alone (b ∷ path) all =
    elim (nat_eq b 47) as (λ s. cond s 1 0 + count path ≡ suc (length path) → length (filter is_component (cond s ([] ∷ slice_split (λ x. nat_eq x 47) path) (onto_first b (slice_split (λ x. nat_eq x 47) path)))) ≤ 0) [
      | true ↦ λ same. slashes_alone path (omega (arith, same))
      | false ↦ λ same. absurd (omega (arith, same, count_by-le-length (λ x. nat_eq x 47) path))
    ] (sym (sum_by-cons (λ x. cond (nat_eq x 47) 1 0) b path) ∙ all)

-- no more names than one more than slashes
pub at_most : (path : Name) → length (components path) ≤ count path + 1
at_most path =
    let pieces = slice_split (λ b. nat_eq b 47) path in
    omega (arith, length-filter is_component pieces, count_by-le-length is_component pieces, length-slice_split (λ b. nat_eq b 47) path)

named_first : (b : ℕ) (ns : List Name) → is_nonempty (filter is_component (onto_first b ns)) ≡ true
named_first b [] = refl
named_first b (n ∷ ns) =
    let some : is_component (b ∷ n) ≡ true = grind (arith, nat_tests) in
    ap (λ s. is_nonempty (cond s ((b ∷ n) ∷ filter is_component ns) (filter is_component ns))) some

-- as many slashes as bytes are slashes alone
pub all_slashes : (path : Name) → count path ≡ length path → list_all is_slash path ≡ true
all_slashes [] all = refl
all_slashes (b ∷ path) all =
    elim (nat_eq b 47) as (λ s. cond s 1 0 + count path ≡ suc (length path) → (s && list_all is_slash path) ≡ true) [
      | true ↦ λ same. all_slashes path (omega (arith, same))
      | false ↦ λ same. absurd (omega (arith, same, count_by-le-length (λ x. nat_eq x 47) path))
    ] (sym (sum_by-cons (λ x. cond (nat_eq x 47) 1 0) b path) ∙ all)

-- with fewer there is another byte
pub another_byte : (path : Name) → count path < length path → list_all is_slash path ≡ false
another_byte [] fewer = absurd (omega arith)
another_byte (b ∷ path) fewer =
    elim (nat_eq b 47) as (λ s. cond s 1 0 + count path < suc (length path) → (s && list_all is_slash path) ≡ false) [
      | true ↦ λ low. another_byte path (omega (arith, low))
      | false ↦ λ low. refl
    ] (omega (arith, sum_by-cons (λ x. cond (nat_eq x 47) 1 0) b path, fewer))

-- a piece is one name, or none where it is empty
one_at_most : (n : Name) → length (filter is_component (n ∷ [])) ≤ 1
one_at_most n =
    elim (is_component n) as (λ b. length (cond b (n ∷ []) []) ≤ 1) [
      | true ↦ omega arith
      | false ↦ omega arith
    ]

-- a first piece with a byte is a name
one_at_least : (x : ℕ) (pieces : List Name) → 0 < length pieces → 1 ≤ length (filter is_component (onto_first x pieces))
one_at_least x [] some = absurd (omega arith)
one_at_least x (n ∷ ns) some =
    let some_byte : nat_eq (suc (length n)) 0 ≡ false = grind (arith, nat_tests) in
    omega (arith, ap (λ b. length (cond (not b) ((x ∷ n) ∷ filter is_component ns) (filter is_component ns))) some_byte)

-- what stands before a text's first slash is among its names, unless it is empty
first_counts : (rest : Name) → length (filter is_component (take (position_or_len (λ b. nat_eq b 47) rest) rest ∷ [])) ≤ length (components rest)
first_counts [] = omega arith
first_counts (x ∷ xs) =
    let cut = slice_split (λ b. nat_eq b 47) xs in
    let behind = position_or_len (λ b. nat_eq b 47) xs in
    elim (nat_eq x 47) as (λ s. length (filter is_component (take (cond (not s) (1 + behind) 0) (x ∷ xs) ∷ [])) ≤ length (filter is_component (cond s ([] ∷ cut) (onto_first x cut)))) [
      | true ↦ omega arith
      | false ↦ omega (arith, one_at_most (take (1 + behind) (x ∷ xs)), one_at_least x cut (omega (arith, length-slice_split (λ b. nat_eq b 47) xs)))
    ]

-- room for all names is room for the next, behind those before it
pub has_room : (ns : List (Bor Name)) (rest name : Name) (k : ℕ) (all : Path) → k ≡ position_or_len (λ b. nat_eq b 47) rest → name ≡ take k rest
    → path_of ns ++ filter is_component (slice_split (λ b. nat_eq b 47) rest) ≡ all → length ns + length (filter is_component (name ∷ [])) ≤ length all
has_room ns rest name k all at is_name so =
    let named : name ≡ take (position_or_len (λ b. nat_eq b 47) rest) rest = is_name ∙ ap (λ n. take n rest) at in
    let counts = subst (λ n. length (filter is_component (n ∷ [])) ≤ length (components rest)) (sym named) (first_counts rest) in
    let names : length (path_of ns) ≡ length ns = ap length (path_of-map ns) ∙ length-map ns (λ r. r.now) in
    omega (arith, counts, names, length-append (path_of ns) (components rest), ap length so)

-- with a byte that is no slash there is a name
pub some_name : (path : Name) → count path < length path → is_nonempty (components path) ≡ true
some_name [] fewer = absurd (omega arith)
some_name (b ∷ path) fewer =
    elim (nat_eq b 47) as (λ s. cond s 1 0 + count path < suc (length path) → is_nonempty (filter is_component (cond s ([] ∷ slice_split (λ x. nat_eq x 47) path) (onto_first b (slice_split (λ x. nat_eq x 47) path)))) ≡ true) [
      | true ↦ λ low. some_name path (omega (arith, low))
      | false ↦ λ low. named_first b (slice_split (λ x. nat_eq x 47) path)
    ] (omega (arith, sum_by-cons (λ x. cond (nat_eq x 47) 1 0) b path, fewer))

no_name : (ns : Path) → length ns ≤ 0 → is_nonempty ns ≡ false
no_name [] none = refl
no_name (n ∷ ns) none = absurd (omega (arith, none))

pub slashes_no_name : (path : Name) → count path ≡ length path → is_nonempty (components path) ≡ false
slashes_no_name path all = no_name (components path) (slashes_alone path all)

pub name_test : (n : ℕ) (path : Name) → n ≡ count path → (b : Bool) → nat_lt n (length path) ≡ b
    → b ≡ is_nonempty (components path)
name_test n path e true h = sym (some_name path (grind (arith, nat_tests)))
name_test n path e false h =
    let most : count path ≤ length path = count_by-le-length (λ b. nat_eq b 47) path in
    sym (slashes_no_name path (grind (arith, nat_tests)))
