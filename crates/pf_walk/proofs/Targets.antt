-- What a path is resolved to, by the node that its names lead to.

use Rattle.std.proofs.Common.{◌≡◌, ℕ, ◌+◌, Bool, List, [], ◌∷◌, ◌++◌, length, refl, sym, ap, ◌∙◌, arith, cond, Option, Some, None, Ok, Err}
use Rattle.std.specs.Prelude.{not, ◌&&◌, false, true}
use Rattle.std.specs.List.{list_any}
use Rattle.std.proofs.lemmas.Bool.Decides.{nat_tests}
use Rattle.std.proofs.lemmas.List.{append-nil}
use Rattle.pf_base.specs.Permissions.{allows}
use Rattle.pf_base.specs.declared.cred.Cred.{Cred}
use Rattle.pf_base.specs.declared.permissions.Want.TheVariants.{Search}
use Rattle.pf_base.specs.declared.errno.Errno.{Errno}
use Rattle.pf_base.specs.declared.errno.Errno.TheVariants.{EACCES, ENOENT, ENOTDIR}
use Rattle.pf_base.specs.declared.meta.File.{File}
use Rattle.pf_machine.specs.FileMap.{Files, IsDirectory, Name, Path, find, front, is_directory}
use Rattle.pf_machine.specs.Paths.{Words, Resolved, Named, Nothing, components, ends_in_slash, entry, entry_of, has_dots, is_component, is_dot, is_dot_dot, is_dotted, is_nonempty, last_of, may_turn, permitted, reach, target, target_of, words_of}
use Rattle.pf_machine.specs.Refusals.{◌>>=◌, ◌>>◌, or_refuse, refuse_if}
use Rattle.pf_tree.specs.Subtrees.{subtree}
use Rattle.pf_walk.specs.Walks.{file_at, last_named, named, Parts}
use Rattle.pf_walk.proofs.Cuts.{kind_named, last-append}
use Rattle.pf_walk.proofs.Reached.{entry_at, entry_from, if_permitted, target_at, target_from}
use Rattle.pf_walk.proofs.Steps.{first_false, second_false}
use Rattle.pf_walk.proofs.WalkLaws.{found_here}

abbrev pub cut : List ℕ → Words
cut bs = record { names = components bs; slash = ends_in_slash bs && is_nonempty (components bs) }

module _ (fs : Files) (c : Cred) (bs : List ℕ) (words : words_of bs ≡ Ok (cut bs)) where
  pub dots_of : list_any is_dotted (components bs) ≡ true → has_dots bs ≡ true
  dots_of dots = ap may_turn words ∙ dots

  module _ (node : Files) (reached : reach fs c [] (components bs) ≡ Ok (components bs))
      (is : node ≡ subtree (components bs) fs) (f : File) (file : find [] node ≡ Some f) where
    pub led : (b : Bool) → (ends_in_slash bs && is_nonempty (components bs) && not (is_directory f)) ≡ b
        → target fs c bs ≡ (refuse_if b ENOTDIR >> Ok (record {
          path = components bs;
          file = f;
          last = Nothing;
          slash = ends_in_slash bs && is_nonempty (components bs);
        }))
    led b test =
        ap (λ r. r >>= target_of fs c) words ∙ sym (target_from fs c (cut bs))
        ∙ ap (λ r. file_at fs r >>= target_at fs c (cut bs)) reached
        ∙ ap (λ o. (or_refuse ENOENT o >>= (λ g. Ok (components bs, g))) >>= target_at fs c (cut bs))
        (found_here fs node (components bs) (Some f) is file)
        ∙ ap (λ s. refuse_if s ENOTDIR >> Ok (record {
          path = components bs;
          file = f;
          last = Nothing;
          slash = ends_in_slash bs && is_nonempty (components bs);
        })) test

abbrev file_or : File → Option File → File
file_or d None = d
file_or d (Some f) = f

pub same_file : {f g : File} → Some f ≡ Some g → f ≡ g
same_file {f} e = ap (file_or f) e

some_last : (b : ℕ) (n : Name) → is_dotted (b ∷ n) ≡ false → (p : Path) → last_of (p ++ (b ∷ n) ∷ []) ≡ Named (b ∷ n)
some_last b n plain p =
    last-append p (b ∷ n)
    ∙ kind_named (b ∷ n) (first_false (is_dot (b ∷ n)) (is_dot_dot (b ∷ n)) plain)
    (second_false (is_dot (b ∷ n)) (is_dot_dot (b ∷ n)) plain)

front_shorter : (n : Name) (p : Path) → length (front (n ∷ p)) + 1 ≡ length (n ∷ p)
front_shorter n [] = refl
front_shorter n (m ∷ p) = omega (arith, front_shorter m p)

-- only the root's names are those before the last
its_own_front : (p : Path) → front p ≡ p → p ≡ []
its_own_front [] e = refl
its_own_front (n ∷ p) e = absurd (omega (arith, ap length e, front_shorter n p))

pub one_name : (n : Name) → is_component n ≡ true → (named n ≡ n ∷ []) × (last_named n ≡ Named n)
one_name [] some = absurd (cc)
one_name (b ∷ n) some = (ap (λ s. cond s ((b ∷ n) ∷ []) []) some, refl)

last_is : (p ns : Path) (name : Name) → is_dotted name ≡ false → p ++ named name ≡ ns → front ns ≡ p
    → last_of ns ≡ last_named name
last_is p ns [] plain all before =
    let same : p ≡ ns = sym (append-nil p) ∙ all in
    ap last_of (sym same ∙ its_own_front p (ap front same ∙ before))
last_is p ns (b ∷ n) plain all before =
    let some : is_component (b ∷ n) ≡ true = grind (arith, nat_tests) in
    let one : named (b ∷ n) ≡ (b ∷ n) ∷ [] = ap (λ s. cond s ((b ∷ n) ∷ []) []) some in
    ap last_of (sym all ∙ ap (λ l. p ++ l) one) ∙ some_last b n plain p

-- what may be gone on from is a directory
pub directory_of : (c : Cred) (f : File) (t : Unit {0}) → permitted c f ≡ Ok t → IsDirectory (Some f)
directory_of c f t way = by (is_directory f) refl way
  where
    by : (b : Bool) → is_directory f ≡ b → (refuse_if (not b) ENOTDIR >> refuse_if (not (allows c f.meta Search)) EACCES) ≡ Ok t
        → IsDirectory (Some f)
    by true is e = is
    by false is e = absurd (cc)

module _ (fs : Files) (c : Cred) (bs : List ℕ) (words : words_of bs ≡ Ok (cut bs)) where
  module _ (node : Files) (name : Name) (parts : Parts fs c bs node name) (f : File) (file : find [] node ≡ Some f) where
    abbrev resolved : Resolved
    resolved = record {
      path = parts.0;
      file = f;
      last = last_named name;
      slash = ends_in_slash bs && is_nonempty (components bs);
    }

    entered : entry fs c bs ≡ (permitted c f >> Ok resolved)
    entered =
        ap (λ r. r >>= entry_of fs c) words ∙ sym (entry_from fs c (cut bs))
        ∙ ap (λ p. file_at fs (reach fs c [] p) >>= if_permitted c (entry_at fs c (cut bs))) parts.5
        ∙ ap (λ r. file_at fs r >>= if_permitted c (entry_at fs c (cut bs))) parts.2
        ∙ ap (λ o. (or_refuse ENOENT o >>= (λ g. Ok (parts.0, g))) >>= if_permitted c (entry_at fs c (cut bs)))
        (found_here fs node parts.0 (Some f) parts.1 file)
        ∙ ap (λ l. permitted c f >> Ok (record {
          path = parts.0;
          file = f;
          last = l;
          slash = ends_in_slash bs && is_nonempty (components bs);
        })) (last_is parts.0 (components bs) name parts.3 parts.4 parts.5)

    pub entry_refused : (e : Errno) → permitted c f ≡ Err e → entry fs c bs ≡ Err e
    entry_refused e no_way = entered ∙ ap (λ r. r >> Ok resolved) no_way

    pub entry_found : (t : Unit {0}) → permitted c f ≡ Ok t → entry fs c bs ≡ Ok (record {
      path = parts.0;
      file = f;
      last = last_named name;
      slash = ends_in_slash bs && is_nonempty (components bs);
    })
    entry_found t way = entered ∙ ap (λ r. r >> Ok resolved) way
