-- The names of a directory's entries.
use Rattle.std.proofs.Common.{◌≡◌, ℕ, zero, suc, ◌<◌, ◌≤◌, ◌+◌, List, [], ◌∷◌, ◌++◌, length, drop, slice_index_or}
use Rattle.std.proofs.Common.{refl, sym, ap, ◌∙◌, subst, arith, append_assoc, cond, true, false, None}
use Rattle.std.specs.Option.{option_to_list}
use Rattle.std.specs.declared.vec.Vec.{Vec}
use Rattle.pf_tree.specs.declared.node.Body.TheVariants.{Fifo, Directory}
use Rattle.pf_tree.specs.declared.node.Body.{Body}
use Rattle.pf_base.specs.declared.meta.File.{File}
use Rattle.pf_tree.specs.declared.node.Node.TheInside.{Inside}
use Rattle.pf_machine.specs.FileMap.{Name, Path, Files, find, remove, names_below, name_below, listed}
use Rattle.pf_machine.specs.FileMap.{same_name, IsDirectory}
use Rattle.pf_tree.specs.Subtrees.{under, subtree}
use Rattle.pf_tree.specs.Node.{Boxed, below, all_below, Rooted, HasRoot, IsDeeper, IsSorted, files_of_body, files_of}
use Rattle.pf_tree.proofs.Levels.{seen, root}

names_deeper : (n : Name) (v ys : Files) → IsDeeper v → names_below [] (below n v ++ ys) ≡ names_below [] ys
names_deeper n [] ys h = refl
names_deeper n (([], f) ∷ v) ys h = absurd h
names_deeper n ((m ∷ q, f) ∷ v) ys h = names_deeper n v ys h

names_of_entry : (n : Name) (v ys : Files) → HasRoot v → names_below [] (below n v ++ ys) ≡ n ∷ names_below [] ys
names_of_entry n [] ys h = absurd h
names_of_entry n (([], f) ∷ v) ys h = ap (λ l. n ∷ l) (names_deeper n v ys h)
names_of_entry n ((m ∷ q, f) ∷ v) ys h = absurd h

module _ {Z : Type 0} where
  abbrev pub entry_names : List (Boxed Z) → List Name
  entry_names [] = []
  entry_names (e ∷ es) = e.value.name.items ∷ entry_names es

  pub names_all : (es : List (Boxed Z)) → Rooted es → names_below [] (all_below es) ≡ entry_names es
  names_all [] r = refl
  names_all (e ∷ es) r =
      names_of_entry e.value.name.items e.value.node (all_below es) r.0
      ∙ ap (λ l. e.value.name.items ∷ l) (names_all es r.1)

  pub names_seen : (a : Inside Z) {S : Files} {v : Vec (Boxed Z) Z} → files_of a ≡ S → IsSorted a.body
      → a.body ≡ Directory v → names_below [] S ≡ entry_names v.items
  names_seen a {v = v} view inv is =
      ap (names_below []) (sym (seen a view is)) ∙ names_all v.items (subst IsSorted is inv).1

  pub from : (es : List (Boxed Z)) (i : ℕ) (d : Boxed Z) → i < length es
      → entry_names (drop i es) ≡ (slice_index_or es i d).value.name.items ∷ entry_names (drop (suc i) es)
  from [] i d lt = absurd (omega arith)
  from (e ∷ es) zero d lt = refl
  from (e ∷ es) (suc i) d lt = from es i d (omega arith)

  pub past : (es : List (Boxed Z)) (i : ℕ) → length es ≤ i → entry_names (drop i es) ≡ []
  past [] zero le = refl
  past [] (suc i) le = refl
  past (e ∷ es) zero le = absurd (omega arith)
  past (e ∷ es) (suc i) le = past es i (omega arith)

  -- one entry's name written
  pub one_more : (out : List ℕ) (es : List (Boxed Z)) (i : ℕ) (e : Boxed Z) → i < length es → e ≡ slice_index_or es i e
      → ((out ++ e.value.name.items) ++ 47 ∷ []) ++ listed (entry_names (drop (i + 1) es))
      ≡ out ++ listed (entry_names (drop i es))
  one_more out es i e lt here =
      let next : i + 1 ≡ suc i = omega arith in
      let rest = listed (entry_names (drop (suc i) es)) in
      rw (next, from es i e lt, ← here)
      (append_assoc (out ++ e.value.name.items) (47 ∷ []) rest ∙ append_assoc out e.value.name.items (47 ∷ rest))

pub names_under : (n : Name) (p : Path) (fs : Files) → names_below (n ∷ p) fs ≡ names_below p (under n fs)
names_under n p [] = refl
names_under n p (([], f) ∷ rest) = names_under n p rest
names_under n p ((m ∷ q, f) ∷ rest) =
    elim (same_name n m) as (λ b.
    option_to_list (cond b (name_below p q) None) ++ names_below (n ∷ p) rest
    ≡ names_below p (cond b ((q, f) ∷ under n rest) (under n rest))) [
      | true ↦ ap (λ l. option_to_list (name_below p q) ++ l) (names_under n p rest)
      | false ↦ names_under n p rest
    ]

-- the names below a path are those of what stands there
pub names_subtree : (p : Path) (fs : Files) → names_below p fs ≡ names_below [] (subtree p fs)
names_subtree [] fs = refl
names_subtree (n ∷ p) fs = names_under n p fs ∙ names_subtree p (under n fs)

pub names_end : (p q : Path) (fs : Files) → names_below (p ++ q) fs ≡ names_below q (subtree p fs)
names_end [] q fs = refl
names_end (n ∷ p) q fs = names_under n (p ++ q) fs ∙ names_end p q (under n fs)

module _ {Z : Type 0} where
  no_entries : (r : File) (es : List (Boxed Z)) → Rooted es → names_below [] (all_below es) ≡ []
      → remove [] (([], r) ∷ all_below es) ≡ []
  no_entries r [] h none = refl
  no_entries r (e ∷ es) h none = absurd (omega (arith, ap length (sym (names_all (e ∷ es) h) ∙ none)))

  abbrev with_body : Inside Z → Body Z → Files
  with_body a b = files_of_body a.mode a.uid a.gid a.number b

  -- a file that has no names below it is all that stands there
  pub nothing_left : (a : Inside Z) {v : Files} → files_of a ≡ v → IsSorted a.body
      → (IsDirectory (find [] v) → names_below [] v ≡ []) → remove [] v ≡ []
  nothing_left a view inv empty =
      ap (remove []) (sym view)
      ∙ by a.body inv (subst (λ s. IsDirectory (find [] s) → names_below [] s ≡ []) (sym view) empty)
    where
      by : (b : Body Z) → IsSorted b → (IsDirectory (find [] (with_body a b)) → names_below [] (with_body a b) ≡ [])
          → remove [] (with_body a b) ≡ []
      by Fifo sound none = refl
      by (Directory w) sound none = no_entries (root a) w.items sound.1 (none refl)
