-- A walk down by a path's bytes, whose names are cut as it goes.

use Rattle.std.proofs.Common.{◌≡◌, ℕ, suc, ◌+◌, ◌<◌, ◌≤◌, true, false, not, List, [], ◌∷◌, ◌++◌, length, take, drop, nat_eq, refl, sym, ap, ◌∙◌, subst, arith, cond, append_assoc, Some, None, Result, Ok, Err}
use Rattle.std.specs.Prelude.{filter, IsSome, ◌||◌}
use Rattle.std.specs.List.{list_any, position_or_len, slice_split}
use Rattle.std.proofs.Math.Seq.{drop-cons}
use Rattle.std.proofs.lemmas.Bool.Decides.{nat_tests}
use Rattle.std.proofs.lemmas.List.{length-drop, take_all, append-nil}
use Rattle.std.proofs.lemmas.List.Elements.{filter-append}
use Rattle.std.proofs.lemmas.List.Splits.{slice_split_first}
use Rattle.std.proofs.lemmas.List.Sums.{prefix_len-le-length}
use Rattle.pf_base.specs.declared.cred.Cred.{Cred}
use Rattle.pf_base.specs.declared.errno.Errno.{Errno}
use Rattle.pf_base.specs.declared.errno.Errno.TheVariants.{ENOENT}
use Rattle.pf_base.specs.declared.meta.File.{File}
use Rattle.pf_machine.specs.FileMap.{Name, Path, Files, find, front}
use Rattle.pf_machine.specs.Paths.{components, is_component, is_dotted, permitted, reach, stepped}
use Rattle.pf_machine.specs.Refusals.{◌>>=◌}
use Rattle.pf_tree.specs.Subtrees.{under, subtree}
use Rattle.pf_tree.proofs.SubtreeLaws.{subtree_append}
use Rattle.pf_walk.specs.Walks.{named, Stops, Leads, Follows, Parts}
use Rattle.pf_walk.proofs.Cuts.{front-append}
use Rattle.pf_walk.proofs.SlashLaws.{lone}
use Rattle.pf_walk.proofs.Steps.{reach_refused, reach_lost, reach_down}
use Rattle.pf_walk.proofs.WalkLaws.{found_here, found_below}

module _ (node : Files) (c : Cred) (n : Name) (some : is_component n ≡ true) {f : File} (file : find [] node ≡ Some f) where
  one : named n ≡ n ∷ []
  one = ap (λ b. cond b (n ∷ []) []) some

  pub stops : (e : Errno) → permitted c f ≡ Err e → Stops node c n e
  stops e no_way fs p ns is =
      ap (λ l. reach fs c p (l ++ ns)) one
      ∙ reach_refused fs c p (found_here fs node p (Some f) is file) n ns e no_way

  module _ (t : Unit {0}) (way : permitted c f ≡ Ok t) (plain : is_dotted n ≡ false) where
    pub lost : under n node ≡ [] → Stops node c n ENOENT
    lost none fs p ns is =
        ap (λ l. reach fs c p (l ++ ns)) one
        ∙ reach_lost fs c p (found_here fs node p (Some f) is file) n ns t way plain
        (found_below fs node [] p n None is (sym none) refl)

    pub leads : (next : Files) → next ≡ under n node → IsSome (find [] next) → Leads node c n next
    leads next child there fs p ns is = (
      child ∙ ap (under n) is ∙ sym (subtree_append p (n ∷ []) fs) ∙ ap (λ l. subtree (p ++ l) fs) (sym one),
      ap (λ l. reach fs c p (l ++ ns)) one
          ∙ reach_down fs c p (found_here fs node p (Some f) is file) n ns t way plain
          (subst IsSome (sym (found_below fs node next p n (find [] next) is child refl)) there)
          ∙ ap (λ l. reach fs c (p ++ l) ns) (sym one),
    )

-- A text's first piece, and what is behind it
module _ (rest name behind : Name) (k : ℕ) (at : k ≡ position_or_len (λ b. nat_eq b 47) rest) (is_name : name ≡ take k rest)
    (is_behind : behind ≡ drop k rest) where
  pub cut_on : (y : ℕ) (after : Name) → behind ≡ y ∷ after → components rest ≡ named name ++ components after
  cut_on y after is_after =
      let low : k < length rest = omega (arith, length-drop k rest, ap length is_behind, ap length is_after) in
      let step : suc k ≡ k + 1 = omega arith in
      let tail : after ≡ drop (k + 1) rest =
      ap (drop 1) (sym is_after ∙ is_behind ∙ drop-cons rest k 0 low) ∙ ap (λ n. drop n rest) step in
      let cut : slice_split (λ b. nat_eq b 47) rest ≡ name ∷ slice_split (λ b. nat_eq b 47) after =
      slice_split_first (λ b. nat_eq b 47) rest 0 (subst (λ n. n < length rest) at low)
      ∙ ap (λ n. take n rest ∷ slice_split (λ b. nat_eq b 47) (drop (n + 1) rest)) (sym at)
      ∙ ap (λ l. l ∷ slice_split (λ b. nat_eq b 47) (drop (k + 1) rest)) (sym is_name)
      ∙ ap (λ l. name ∷ slice_split (λ b. nat_eq b 47) l) (sym tail) in
      ap (filter is_component) cut ∙ filter-append is_component (name ∷ []) (slice_split (λ b. nat_eq b 47) after)

  pub cut_last : length behind ≡ 0 → components rest ≡ named name
  cut_last none =
      let gone : length rest ≤ k = omega (arith, length-drop k rest, ap length is_behind, none) in
      let most = prefix_len-le-length (λ b. not (nat_eq b 47)) rest in
      let whole : name ≡ rest = is_name ∙ take_all k rest gone in
      ap (filter is_component) (lone rest (omega (arith, at, gone, most)) ∙ ap (λ l. l ∷ []) (sym whole))

  pub cut : (ns : Path) × (components rest ≡ named name ++ ns)
  cut = by behind refl
    where
      by : (l : Name) → behind ≡ l → (ns : Path) × (components rest ≡ named name ++ ns)
      by [] e = ([], cut_last (ap length e) ∙ sym (append-nil (named name)))
      by (y ∷ after) e = (components after, cut_on y after e)

-- some names of a path are walked, and it stands at a node
abbrev pub Walks : Files → Cred → List ℕ → List ℕ → Files → Type 0
Walks fs c bs rest node =
    (p : Path) × (node ≡ subtree p fs) × (p ++ components rest ≡ components bs)
    × (reach fs c p (components rest) ≡ reach fs c [] (components bs))

any_in : (p : Path) (n : Name) (ns : Path) → is_dotted n ≡ true → list_any is_dotted (p ++ n ∷ ns) ≡ true
any_in [] n ns dotted = ap (λ b. b || list_any is_dotted ns) dotted
any_in (m ∷ p) n ns dotted = elim (is_dotted m) as (λ b. (b || list_any is_dotted (p ++ n ∷ ns)) ≡ true) [
  | true ↦ refl
  | false ↦ any_in p n ns dotted
]

dotted_is_some : (n : Name) → is_dotted n ≡ true → is_component n ≡ true
dotted_is_some [] dotted = absurd (cc)
dotted_is_some (b ∷ n) dotted = grind (arith, nat_tests)

module _ (fs : Files) (c : Cred) (bs rest : List ℕ) (node : Files) (walks : Walks fs c bs rest node) (name : Name) where
  pub meets_dots : (ns : Path) → components rest ≡ named name ++ ns → is_dotted name ≡ true → list_any is_dotted (components bs) ≡ true
  meets_dots ns split dotted =
      let one : named name ≡ name ∷ [] = ap (λ b. cond b (name ∷ []) []) (dotted_is_some name dotted) in
      ap (list_any is_dotted) (sym walks.2 ∙ ap (λ l. walks.0 ++ l) (split ∙ ap (λ l. l ++ ns) one))
      ∙ any_in walks.0 name ns dotted

  pub stopped : (ns : Path) → components rest ≡ named name ++ ns → (e : Errno) → Stops node c name e
      → reach fs c [] (components bs) ≡ Err e
  stopped ns split e stop =
      sym walks.3 ∙ ap (reach fs c walks.0) split ∙ stop fs walks.0 ns walks.1

  pub arrives : (next : Files) → components rest ≡ named name → Leads node c name next
      → (reach fs c [] (components bs) ≡ Ok (components bs)) × (next ≡ subtree (components bs) fs)
  arrives next split lead =
      let all : walks.0 ++ named name ≡ components bs = ap (λ l. walks.0 ++ l) (sym split) ∙ walks.2 in
      let goes = lead fs walks.0 [] walks.1 in (
        sym walks.3 ∙ ap (reach fs c walks.0) (split ∙ sym (append-nil (named name))) ∙ goes.1 ∙ ap Ok all,
        goes.0 ∙ ap (λ q. subtree q fs) all,
      )

  pub goes_further : (next : Files) (after : List ℕ) → components rest ≡ named name ++ components after
      → Leads node c name next → Walks fs c bs after next
  goes_further next after split lead =
      let goes = lead fs walks.0 (components after) walks.1 in (
        walks.0 ++ named name,
        goes.0,
        append_assoc walks.0 (named name) (components after) ∙ ap (λ l. walks.0 ++ l) (sym split) ∙ walks.2,
        sym goes.1 ∙ ap (reach fs c walks.0) (sym split) ∙ walks.3,
      )

-- where names lead that are walked in two parts
pub reach_through : (fs : Files) (c : Cred) (at : Path) (xs ys : Path) (to : Path) → reach fs c at xs ≡ Ok to
    → reach fs c at (xs ++ ys) ≡ reach fs c to ys
reach_through fs c at [] ys to e = ap (λ r. r >>= (λ q. reach fs c q ys)) e
reach_through fs c at (n ∷ xs) ys to e = by (λ q. reach_through fs c q xs ys to) (stepped fs c at n) e
  where
    by : ((q : Path) → reach fs c q xs ≡ Ok to → reach fs c q (xs ++ ys) ≡ reach fs c to ys) → (r : Result Path Errno)
        → (r >>= (λ q. reach fs c q xs)) ≡ Ok to → (r >>= (λ q. reach fs c q (xs ++ ys))) ≡ reach fs c to ys
    by on (Ok q) h = on q h
    by on (Err x) h = absurd (cc)

pub kept_back : (node : Files) (c : Cred) (last n : Name) → is_dotted last ≡ false → is_component n ≡ false
    → Follows node c last n node last
kept_back node c last n plain none fs p is walked =
    let gone : named n ≡ [] = ap (λ b. cond b (n ∷ []) []) none in (
      p,
      is,
      walked,
      plain,
      λ ns. ap (λ l. p ++ (named last ++ (l ++ ns))) gone,
      λ parted. parted,
    )

pub led_on : (node : Files) (c : Cred) (last n : Name) → is_dotted n ≡ false → is_component n ≡ true → (next : Files)
    → Leads node c last next → Follows node c last n next n
led_on node c last n plain some next lead fs p is walked =
    let goes = lead fs p [] is in
    let one : named n ≡ n ∷ [] = ap (λ b. cond b (n ∷ []) []) some in (
      p ++ named last,
      goes.0,
      ap (λ l. reach fs c [] (p ++ l)) (sym (append-nil (named last)))
          ∙ reach_through fs c [] p (named last ++ []) p walked ∙ goes.1,
      plain,
      λ ns. sym (append_assoc p (named last) (named n ++ ns)),
      λ parted. ap (λ l. front ((p ++ named last) ++ l)) one ∙ front-append (p ++ named last) n,
    )

front-append-some : (q : Path) (n : Name) (ns : Path) → front (q ++ n ∷ ns) ≡ q ++ front (n ∷ ns)
front-append-some [] n ns = refl
front-append-some (m ∷ []) n ns = refl
front-append-some (m ∷ k ∷ q) n ns = ap (λ l. m ∷ l) (front-append-some (k ∷ q) n ns)

-- some names of a path are walked, to a node, and one is kept back
abbrev pub Waits : Files → Cred → List ℕ → List ℕ → Files → Name → Type 0
Waits fs c bs rest node last =
    (p : Path) × (node ≡ subtree p fs) × (reach fs c [] p ≡ Ok p) × (is_dotted last ≡ false)
    × (p ++ (named last ++ components rest) ≡ components bs) × (front (p ++ named last) ≡ p)

module _ (fs : Files) (c : Cred) (bs rest : List ℕ) (node : Files) (last : Name) (waits : Waits fs c bs rest node last)
    (name : Name) where
  pub waits_dots : (ns : Path) → components rest ≡ named name ++ ns → is_dotted name ≡ true → list_any is_dotted (components bs) ≡ true
  waits_dots ns split dotted =
      let one : named name ≡ name ∷ [] = ap (λ b. cond b (name ∷ []) []) (dotted_is_some name dotted) in
      ap (list_any is_dotted) (sym waits.4
      ∙ ap (λ l. waits.0 ++ (named last ++ l)) (split ∙ ap (λ l. l ++ ns) one)
      ∙ sym (append_assoc waits.0 (named last) (name ∷ ns)))
      ∙ any_in (waits.0 ++ named last) name ns dotted

  pub waits_stopped : (ns : Path) → components rest ≡ named name ++ ns → is_component name ≡ true → (e : Errno)
      → Stops node c last e → reach fs c [] (front (components bs)) ≡ Err e
  waits_stopped ns split some e stop =
      let one : named name ≡ name ∷ [] = ap (λ b. cond b (name ∷ []) []) some in
      let all : components bs ≡ (waits.0 ++ named last) ++ (name ∷ ns) =
      sym waits.4 ∙ ap (λ l. waits.0 ++ (named last ++ l)) (split ∙ ap (λ l. l ++ ns) one)
      ∙ sym (append_assoc waits.0 (named last) (name ∷ ns)) in
      ap (reach fs c []) (ap front all ∙ front-append-some (waits.0 ++ named last) name ns
      ∙ append_assoc waits.0 (named last) (front (name ∷ ns)))
      ∙ reach_through fs c [] waits.0 (named last ++ front (name ∷ ns)) waits.0 waits.2
      ∙ stop fs waits.0 (front (name ∷ ns)) waits.1

  pub waits_on : (next : Files) (kept : Name) (after : List ℕ) → components rest ≡ named name ++ components after
      → Follows node c last name next kept → Waits fs c bs after next kept
  waits_on next kept after split follows =
      let w = follows fs waits.0 waits.1 waits.2 in (
        w.0,
        w.1,
        w.2,
        w.3,
        sym (w.4 (components after)) ∙ ap (λ l. waits.0 ++ (named last ++ l)) (sym split) ∙ waits.4,
        w.5 waits.5,
      )

  pub waits_end : (next : Files) (kept : Name) → components rest ≡ named name → Follows node c last name next kept
      → Parts fs c bs next kept
  waits_end next kept split follows =
      let w = follows fs waits.0 waits.1 waits.2 in
      let all : w.0 ++ named kept ≡ components bs =
      ap (λ l. w.0 ++ l) (sym (append-nil (named kept))) ∙ sym (w.4 [])
      ∙ ap (λ l. waits.0 ++ (named last ++ l)) (append-nil (named name) ∙ sym split) ∙ waits.4 in
      (w.0, w.1, w.2, w.3, all, ap front (sym all) ∙ w.5 waits.5)
