-- A directory's files around those below one name: what stands under that name, and what a change there makes.
use Rattle.std.proofs.Common.{◌≡◌, ℕ, zero, suc, ◌<◌, List, [], ◌∷◌, ◌++◌, length, take, drop, refl}
use Rattle.std.proofs.Common.{slice_index_or, slice_set, sym, ap, ◌∙◌, subst, arith, append-nil, drop-cons}
use Rattle.std.specs.Prelude.{Result}
use Rattle.std.specs.declared.cmp.Ordering.TheVariants.{Less}
use Rattle.std.specs.declared.result.Result.TheVariants.{Ok, Err}
use Rattle.std.specs.declared.vec.Vec.{Vec}
use Rattle.std.proofs.lemmas.List.{take-append-drop, set_split}
use Rattle.pf_base.specs.declared.meta.File.{File}
use Rattle.pf_base.specs.declared.meta.Kind.TheVariants.{Directory as DirectoryKind}
use Rattle.pf_machine.specs.FileMap.{Name, Path, Files, name_cmp}
use Rattle.pf_tree.specs.Local.{IsLater, IsLocal}
use Rattle.pf_tree.specs.Node.{Boxed, After, Before, Rooted, HasRoot, IsDeeper, IsSorted}
use Rattle.pf_tree.specs.Node.{below, all_below, file_of, files_of_body, files_of}
use Rattle.pf_tree.specs.Place.{IsPlace}
use Rattle.pf_tree.specs.Subtrees.{under}
use Rattle.pf_tree.specs.declared.node.Body.{Body}
use Rattle.pf_tree.specs.declared.node.Body.TheVariants.{Fifo, Directory}
use Rattle.pf_tree.specs.declared.node.Node.TheInside.{Inside}
use Rattle.pf_tree.proofs.Names.{itself, later}
use Rattle.pf_tree.proofs.Entries.{IsSound, sound_in, sound_out, rooted_in}

-- Files below a name, and below others

deeper_below : (n : Name) (v rest : Files) → IsDeeper rest → IsDeeper (below n v ++ rest)
deeper_below n [] rest h = h
deeper_below n ((p, f) ∷ v) rest h = deeper_below n v rest h

later_below : (n m : Name) (v rest : Files) → name_cmp n m ≡ Less → IsLater n rest → IsLater n (below m v ++ rest)
later_below n m [] rest lt h = h
later_below n m ((p, f) ∷ v) rest lt h = (lt, later_below n m v rest lt h)

under_later : (n : Name) (v : Files) → IsLater n v → under n v ≡ []
under_later n [] h = refl
under_later n (([], f) ∷ v) h = absurd h
under_later n ((m ∷ p, f) ∷ v) h = rw h.0 (under_later n v h.1)

under_below : (n : Name) (v rest : Files) → under n (below n v ++ rest) ≡ v ++ under n rest
under_below n [] rest = refl
under_below n ((p, f) ∷ v) rest = rw (itself n) (ap (λ l. (p, f) ∷ l) (under_below n v rest))

under_past : (n m : Name) (v rest : Files) → name_cmp m n ≡ Less → under n (below m v ++ rest) ≡ under n rest
under_past n m [] rest lt = refl
under_past n m ((p, f) ∷ v) rest lt = rw (later m n lt) (under_past n m v rest lt)

module _ {Z : Type 0} where
  later_all : (n : Name) (es : List (Boxed Z)) → After n es → IsLater n (all_below es)
  later_all n [] a = tt
  later_all n (e ∷ es) a = later_below n e.value.name.items e.value.node (all_below es) a.0 (later_all n es a.1)

  pub deeper_all : (es : List (Boxed Z)) → IsDeeper (all_below es)
  deeper_all [] = tt
  deeper_all (e ∷ es) = deeper_below e.value.name.items e.value.node (all_below es) (deeper_all es)

  -- every node has a file of its own
  pub rooted : (mode uid gid number : ℕ) (b : Body Z) → HasRoot (files_of_body mode uid gid number b)
  rooted mode uid gid number Fifo = tt
  rooted mode uid gid number (Directory v) = deeper_all v.items

  abbrev pub root : Inside Z → File
  root a = file_of DirectoryKind a.mode a.uid a.gid a.number

  pub seen : (a : Inside Z) {S : Files} {v : Vec (Boxed Z) Z} → files_of a ≡ S → a.body ≡ Directory v
      → ([], root a) ∷ all_below v.items ≡ S
  seen a view is = sym (ap (files_of_body a.mode a.uid a.gid a.number) is) ∙ view

  pub fifo_under : (a : Inside Z) (n : Name) {S : Files} → files_of a ≡ S → a.body ≡ Fifo → under n S ≡ []
  fifo_under a n view is = ap (under n) (sym view ∙ ap (files_of_body a.mode a.uid a.gid a.number) is)

  -- the files of entries with others behind them
  abbrev pub behind : List (Boxed Z) → Files → Files
  behind [] rest = rest
  behind (e ∷ es) rest = below e.value.name.items e.value.node ++ behind es rest

  behind_all : (es more : List (Boxed Z)) → all_below (es ++ more) ≡ behind es (all_below more)
  behind_all [] more = refl
  behind_all (e ∷ es) more = ap (λ l. below e.value.name.items e.value.node ++ l) (behind_all es more)

  under_behind : (n : Name) (es : List (Boxed Z)) (rest : Files) → Before n es → under n (behind es rest) ≡ under n rest
  under_behind n [] rest b = refl
  under_behind n (e ∷ es) rest b =
      under_past n e.value.name.items e.value.node (behind es rest) b.0 ∙ under_behind n es rest b.1

  -- a directory's entries before and after a name, with the files below that name between them
  pub record IsLevel (a : Inside Z) (n : Name) (S : Files) (front : List (Boxed Z)) (here : Files)
      (back : List (Boxed Z)) : Type 0 where
    pub split : S ≡ ([], root a) ∷ behind front (below n here ++ all_below back)
    pub before : Before n front
    pub after : After n back
    pub sound : IsSound (front ++ back)

  pub record IsFound (a : Inside Z) (n : Name) (S : Files) (v : Vec (Boxed Z) Z) (i : ℕ) (e : Boxed Z) : Type 0 where
    pub level : IsLevel a n S (take i v.items) e.value.node (drop (suc i) v.items)
    pub name : e.value.name.items ≡ n
    pub root : HasRoot e.value.node
    pub set : (x : Boxed Z) → slice_set v.items i x ≡ take i v.items ++ x ∷ drop (suc i) v.items

  module _ (a : Inside Z) (n : Name) (i : ℕ) {S : Files} {v : Vec (Boxed Z) Z} {es : List (Boxed Z)} {r : Result ℕ ℕ}
      (view : files_of a ≡ S) (inv : IsSorted a.body) (is : a.body ≡ Directory v) (slice : es ≡ v.items)
      (place : IsPlace n es r) where
    -- an entry that was found
    module _ {e : Boxed Z} (was : r ≡ Ok i) (here : e ≡ slice_index_or v.items i e) where
      at : IsPlace n v.items (Ok i)
      at = subst (λ l. IsPlace n l (Ok i)) slice (subst (IsPlace n es) was place)

      whole : v.items ≡ take i v.items ++ e ∷ drop (suc i) v.items
      whole =
          sym (take-append-drop i v.items)
          ∙ ap (λ l. take i v.items ++ l) (drop-cons v.items i e at.0 ∙ ap (λ x. x ∷ drop (suc i) v.items) (sym here))

      its_name : e.value.name.items ≡ n
      its_name = ap (λ x. x.value.name.items) here ∙ at.1 e

      level : IsLevel a n S (take i v.items) e.value.node (drop (suc i) v.items)
      level = record {
        split =
            sym (seen a view is)
            ∙ ap (λ l. ([], root a) ∷ l) (ap all_below whole ∙ behind_all (take i v.items) (e ∷ drop (suc i) v.items))
            ∙ ap (λ k. ([], root a) ∷ behind (take i v.items) (below k e.value.node ++ all_below (drop (suc i) v.items)))
            its_name;
        before = at.2;
        after = at.3;
        sound = sound_out (take i v.items) e (drop (suc i) v.items) (subst IsSound whole (subst IsSorted is inv));
      }

      pub found : IsFound a n S v i e
      found = record {
        level = level;
        name = its_name;
        root = rooted_in (take i v.items) e (drop (suc i) v.items) (subst Rooted whole (subst IsSorted is inv).1);
        set = λ x. set_split v.items i x at.0;
      }

    -- a name that no entry has
    pub gap : r ≡ Err i → IsLevel a n S (take i v.items) [] (drop i v.items)
    gap was =
        let at : IsPlace n v.items (Err i) = subst (λ l. IsPlace n l (Err i)) slice (subst (IsPlace n es) was place) in
        let whole : v.items ≡ take i v.items ++ drop i v.items = sym (take-append-drop i v.items) in
        record {
          split =
              sym (seen a view is)
              ∙ ap (λ l. ([], root a) ∷ l) (ap all_below whole ∙ behind_all (take i v.items) (drop i v.items));
          before = at.1;
          after = at.2;
          sound = subst IsSound whole (subst IsSorted is inv);
        }

  module _ {a : Inside Z} {n : Name} {S : Files} {front : List (Boxed Z)} {here : Files} {back : List (Boxed Z)}
      (level : IsLevel a n S front here back) where
    pub under_is : under n S ≡ here
    under_is =
        ap (under n) level.split ∙ under_behind n front (below n here ++ all_below back) level.before
        ∙ under_below n here (all_below back)
        ∙ ap (λ l. here ++ l) (under_later n (all_below back) (later_all n back level.after)) ∙ append-nil here

    module _ (change : Path → Files → Files) (local : IsLocal change) (p : Path) where
      past_below : (m : Name) (v rest : Files) → name_cmp m n ≡ Less
          → change (n ∷ p) (below m v ++ rest) ≡ below m v ++ change (n ∷ p) rest
      past_below m [] rest lt = refl
      past_below m ((q, f) ∷ v) rest lt =
          local.past n p (m ∷ q) f (below m v ++ rest) (later m n lt)
          ∙ ap (λ l. (m ∷ q, f) ∷ l) (past_below m v rest lt)

      past_behind : (es : List (Boxed Z)) (rest : Files) → Before n es
          → change (n ∷ p) (behind es rest) ≡ behind es (change (n ∷ p) rest)
      past_behind [] rest b = refl
      past_behind (e ∷ es) rest b =
          past_below e.value.name.items e.value.node (behind es rest) b.0
          ∙ ap (λ l. below e.value.name.items e.value.node ++ l) (past_behind es rest b.1)

      whole_change : ([], root a) ∷ behind front (below n (change p here) ++ all_below back) ≡ change (n ∷ p) S
      whole_change = sym (
          ap (change (n ∷ p)) level.split
          ∙ local.past n p [] (root a) (behind front (below n here ++ all_below back)) tt
          ∙ ap (λ l. ([], root a) ∷ l) (
          past_behind front (below n here ++ all_below back) level.before
          ∙ ap (behind front) (local.within n p here (all_below back) (later_all n back level.after))))

      -- an entry with what the change makes of the files below the name
      pub changed : (e : Boxed Z) → e.value.name.items ≡ n → e.value.node ≡ change p here
          → ([], root a) ∷ all_below (front ++ e ∷ back) ≡ change (n ∷ p) S
      changed e named valued =
          ap (λ l. ([], root a) ∷ l) (behind_all front (e ∷ back))
          ∙ rw (named, valued) whole_change

      -- and none, where it leaves nothing
      pub gone : change p here ≡ [] → ([], root a) ∷ all_below (front ++ back) ≡ change (n ∷ p) S
      gone none =
          ap (λ l. ([], root a) ∷ l) (behind_all front back)
          ∙ ap (λ w. ([], root a) ∷ behind front (below n w ++ all_below back)) (sym none)
          ∙ whole_change

    pub sound_with : (e : Boxed Z) → e.value.name.items ≡ n → HasRoot e.value.node → IsSound (front ++ e ∷ back)
    sound_with e named h = sound_in n front e back level.before level.after named h level.sound

module _ {Z : Type 0} where
  one_at : (es : List (Boxed Z)) (i : ℕ) → i < length es → (e : Boxed Z) × (e ≡ slice_index_or es i e)
  one_at [] i lt = absurd (omega arith)
  one_at (e ∷ es) zero lt = (e, refl)
  one_at (e ∷ es) (suc i) lt = one_at es i (omega arith)

  -- where a name has an entry, something stands under it
  pub taken : (a : Inside Z) (n : Name) (i : ℕ) {S : Files} {v : Vec (Boxed Z) Z} {es : List (Boxed Z)} {r : Result ℕ ℕ}
      → files_of a ≡ S → IsSorted a.body → a.body ≡ Directory v → es ≡ v.items → IsPlace n es r → r ≡ Ok i
      → HasRoot (under n S)
  taken a n i {v = v} {es = es} view inv is slice place was =
      let one = one_at v.items i (subst (λ l. IsPlace n l (Ok i)) slice (subst (IsPlace n es) was place)).0 in
      let it = found a n i view inv is slice place was one.1 in
      subst HasRoot (sym (under_is it.level)) it.root
