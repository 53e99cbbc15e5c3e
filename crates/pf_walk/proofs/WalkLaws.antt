-- A walk's steps, up and down.
use Rattle.std.proofs.Common.{◌≡◌, ℕ, zero, suc, take, List, [], ◌∷◌, ◌++◌, refl, sym, ap, ◌∙◌, Option}
use Rattle.std.specs.Borrow.{Bor}
use Rattle.pf_machine.specs.FileMap.{Name, Path, Files, find}
use Rattle.pf_base.specs.declared.meta.File.{File}
use Rattle.pf_tree.specs.Subtrees.{under, subtree, path_of}
use Rattle.pf_tree.proofs.SubtreeLaws.{find_subtree, subtree_append}
use Rattle.pf_walk.specs.Walks.{Stands}

pub stands_down : (fs : Files) (ns : List (Bor Name)) (ds : List (Bor Files)) (n : Bor Name) (d : Bor Files) → Stands fs ns ds → d.now ≡ under n.now (subtree (path_of ns) fs) → Stands fs (ns ++ n ∷ []) (ds ++ d ∷ [])
stands_down fs [] [] n d s is = (is, tt)
stands_down fs [] (e ∷ ds) n d s is = absurd s
stands_down fs (m ∷ ns) [] n d s is = absurd s
stands_down fs (m ∷ ns) (e ∷ ds) n d s is = (s.0, stands_down e.now ns ds n d s.1 (is ∙ ap (λ v. under n.now (subtree (path_of ns) v)) (sym s.0)))

pub stands_up : (k : ℕ) (fs : Files) (ns : List (Bor Name)) (ds : List (Bor Files)) → Stands fs ns ds → Stands fs (take k ns) (take k ds)
stands_up zero fs ns ds s = tt
stands_up (suc k) fs [] [] s = tt
stands_up (suc k) fs [] (d ∷ ds) s = absurd s
stands_up (suc k) fs (n ∷ ns) [] s = absurd s
stands_up (suc k) fs (n ∷ ns) (d ∷ ds) s = (s.0, stands_up k d.now ns ds s.1)

-- the last node is what stands at the path
pub last_stands : (fs : Files) (ns : List (Bor Name)) (ds : List (Bor Files)) (d : Bor Files) → Stands fs ns (ds ++ d ∷ []) → d.now ≡ subtree (path_of ns) fs
last_stands fs [] [] d s = absurd s
last_stands fs [] (e ∷ ds) d s = absurd s
last_stands fs (n ∷ []) [] d s = s.0
last_stands fs (n ∷ m ∷ ns) [] d s = absurd s.1
last_stands fs (n ∷ ns) (e ∷ ds) d s = last_stands e.now ns ds d s.1 ∙ ap (subtree (path_of ns)) s.0

pub root_stands : (fs : Files) (ns : List (Bor Name)) → Stands fs ns [] → fs ≡ subtree (path_of ns) fs
root_stands fs [] s = refl
root_stands fs (n ∷ ns) s = absurd s

-- the file where a walk stands
pub found_here : (fs node : Files) (p : Path) (o : Option File) → node ≡ subtree p fs → find [] node ≡ o → find p fs ≡ o
found_here fs node p o is found = find_subtree p fs ∙ ap (find []) (sym is) ∙ found

-- a name right below
pub found_below : (fs node child : Files) (p : Path) (n : Name) (o : Option File) → node ≡ subtree p fs → child ≡ under n node → find [] child ≡ o → find (p ++ n ∷ []) fs ≡ o
found_below fs node child p n o is below found =
    find_subtree (p ++ n ∷ []) fs ∙ ap (find []) (subtree_append p (n ∷ []) fs ∙ ap (under n) (sym is) ∙ sym below) ∙ found
