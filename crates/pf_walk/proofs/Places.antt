-- The place of an entry, by the node of its directory.

use Rattle.std.proofs.Common.{◌≡◌, ℕ, ◌<◌, List, [], ◌∷◌, ◌++◌, length, refl, sym, ap, ◌∙◌, subst, arith, Option, Some, None, Ok, Err}
use Rattle.std.specs.Prelude.{true, ◌&&◌}
use Rattle.std.proofs.lemmas.List.{length-append}
use Rattle.pf_base.specs.declared.cred.Cred.{Cred}
use Rattle.pf_base.specs.declared.errno.Errno.{Errno}
use Rattle.pf_base.specs.declared.meta.File.{File}
use Rattle.pf_machine.specs.FileCalls.{place, place_of}
use Rattle.pf_machine.specs.FileMap.{Files, IsDirectory, Name, Path, find, front, names_below}
use Rattle.pf_machine.specs.Paths.{Last, Resolved, components, ends_in_slash, is_component, is_nonempty}
use Rattle.pf_machine.specs.Refusals.{◌>>=◌}
use Rattle.pf_tree.specs.Subtrees.{subtree, under}
use Rattle.pf_tree.proofs.NodeList.{names_subtree}
use Rattle.pf_tree.proofs.SubtreeLaws.{find_under, subtree_append}
use Rattle.pf_walk.specs.Walks.{IsParent, last_named}
use Rattle.pf_walk.proofs.Cuts.{front-append, no_items}
use Rattle.pf_walk.proofs.Targets.{one_name}
use Rattle.pf_walk.proofs.WalkLaws.{found_below, found_here}

module _ (fs node : Files) (p : Path) (n : Name) (is : node ≡ subtree p fs) where
  pub file_there : find (n ∷ []) node ≡ find (p ++ n ∷ []) fs
  file_there = sym (found_below fs node (under n node) p n (find (n ∷ []) node) is refl (sym (find_under n [] node)))

  pub names_there : names_below [] (under n node) ≡ names_below (p ++ n ∷ []) fs
  names_there =
      ap (λ d. names_below [] (under n d)) is ∙ ap (names_below []) (sym (subtree_append p (n ∷ []) fs))
      ∙ sym (names_subtree (p ++ n ∷ []) fs)

some_file : (o : Option File) → IsDirectory o → (f : File) × (o ≡ Some f)
some_file None there = absurd there
some_file (Some f) there = (f, refl)

module _ (root dot dots : Errno) (fs : Files) (c : Cred) (bs : List ℕ) (node : Files) (name : Name)
    (parent : IsParent fs c bs node name) where
  abbrev resolved : File → Last → Resolved
  resolved f l = record {
    path = parent.0;
    file = f;
    last = l;
    slash = ends_in_slash bs && is_nonempty (components bs);
  }

  pub unnamed : length name ≡ 0 → place root dot dots fs c bs ≡ Err root
  unnamed none =
      let there = some_file (find [] node) parent.3 in
      ap (λ r. r >>= (λ e. place_of root dot dots e e.last)) (parent.4 there.0 there.1)
      ∙ ap (λ n. place_of root dot dots (resolved there.0 (last_named n)) (last_named n)) (no_items name none)

  module _ (some : is_component name ≡ true) where
    all : parent.0 ++ name ∷ [] ≡ components bs
    all = ap (λ l. parent.0 ++ l) (sym (one_name name some).0) ∙ parent.2

    pub placed : (f : File) → find [] node ≡ Some f → place root dot dots fs c bs ≡ Ok (record {
      path = components bs;
      directory = f;
      slash = ends_in_slash bs && is_nonempty (components bs);
    })
    placed f file =
        ap (λ r. r >>= (λ e. place_of root dot dots e e.last)) (parent.4 f file)
        ∙ ap (λ l. place_of root dot dots (resolved f l) l) (one_name name some).1
        ∙ ap (λ q. Ok (record { path = q; directory = f; slash = ends_in_slash bs && is_nonempty (components bs) })) all

    pub some_names : 0 < length (components bs)
    some_names = omega (arith, ap length all, length-append parent.0 (name ∷ []))

    pub in_directory : IsDirectory (find (front (components bs)) fs)
    in_directory =
        let there = some_file (find [] node) parent.3 in
        let before : front (components bs) ≡ parent.0 = ap front (sym all) ∙ front-append parent.0 name in
        let here = found_here fs node parent.0 (Some there.0) parent.1 there.1 in
        subst IsDirectory (there.1 ∙ sym here ∙ ap (λ q. find q fs) (sym before)) parent.3

    pub its_file : find (name ∷ []) node ≡ find (components bs) fs
    its_file = file_there fs node parent.0 name parent.1 ∙ ap (λ q. find q fs) all

    pub its_names : names_below [] (under name node) ≡ names_below (components bs) fs
    its_names = names_there fs node parent.0 name parent.1 ∙ ap (λ q. names_below q fs) all
