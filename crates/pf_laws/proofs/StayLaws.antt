-- Each step leaves a map of files where there was one.

use Rattle.std.specs.Prelude.{◌≡◌, ℕ, List, [], ◌∷◌, ◌++◌, Bool, true, false, not, ◌&&◌, Option, Some, None, is_some, IsTrue, Ok, ⊤, nat_eq}
use Rattle.std.proofs.Common.{refl, sym, ap, subst, ◌∙◌}
use Rattle.pf_machine.specs.Refusals.{◌>>◌, refuse_if}
use Rattle.pf_machine.specs.FileMap.{Files, Path, Name, find, front, insert, names_below, is_directory, IsDirectory, IsFileMap}
use Rattle.pf_machine.specs.FileCalls as calls
use Rattle.pf_machine.specs.FileCalls.{Place, place_of, place, permitted_change, permitted_removal, is_fifo, is_full, made_by}
use Rattle.pf_machine.specs.Paths.{Words, Resolved, Last, Nothing, Dot, DotDot, Named, words_of, reach, searched, permitted, entry_of, entry, target, is_nonempty}
use Rattle.pf_base.specs.Permissions.{allows, is_privileged}
use Rattle.pf_base.specs.Limits.{Limits}
use Rattle.pf_machine.specs.Queue.{Segment}
use Rattle.pf_machine.specs.Numbered.{at}
use Rattle.pf_machine.specs.State.{State}
use Rattle.pf_machine.specs.Machine.{step_of}
use Rattle.pf_base.specs.declared.step.Step.{Step}
use Rattle.pf_base.specs.declared.cred.Cred.{Cred}
use Rattle.pf_base.specs.declared.errno.Errno.{Errno}
use Rattle.pf_base.specs.declared.errno.Errno.TheVariants.{EPERM, ENOENT, EACCES, EBUSY, EEXIST, ENOTDIR, EINVAL, ENOSPC, ENOTEMPTY}
use Rattle.pf_base.specs.declared.meta.File.{File}
use Rattle.pf_base.specs.declared.meta.Kind.{Kind}
use Rattle.pf_base.specs.declared.permissions.Want.TheVariants.{Search}
use Rattle.pf_machine.proofs.HoldsLaws.{Holds, goes, passes, any, unless, found, of_given}
use Rattle.pf_laws.proofs.KeepLaws.{Kept, kept-step}
use Rattle.pf_machine.proofs.StepLaws.{Refiled, Unlinked, Removed, Remoded}
use Rattle.pf_machine.proofs.FileLaws.{insert-map, remove-map, set_mode-map}

-- Places of entries

front-last : (p : Path) (n : Name) → front (p ++ n ∷ []) ≡ p
front-last [] n = refl
front-last (x ∷ []) n = refl
front-last (x ∷ y ∷ p) n = ap (λ q. x ∷ q) (front-last (y ∷ p) n)

some_name : (p : Path) (n : Name) → p ++ n ∷ [] ≡ [] → ⊥
some_name [] n e = absurd (cc)
some_name (x ∷ p) n e = absurd (cc)

is_so : (b : Bool) → not b ≡ false → IsTrue b
is_so true e = refl
is_so false e = absurd (cc)

searched-in : (files : Files) (c : Cred) (at : Path) → Holds (λ f. IsDirectory (find at files)) (searched files c at)
searched-in files c at =
    found _ ENOENT (find at files) (λ f. permitted c f >> Ok f)
    (λ f there. judged f there (not (is_directory f)) refl (not (allows c f.meta Search)))
  where
    judged : (f : File) → find at files ≡ Some f → (b : Bool) → not (is_directory f) ≡ b → (d : Bool) → Holds (λ f. IsDirectory (find at files)) ((refuse_if b ENOTDIR >> refuse_if d EACCES) >> Ok f)
    judged f there true is d = tt
    judged f there false is true = tt
    judged f there false is false = subst IsDirectory (sym there) (is_so (is_directory f) is)

-- an entry's directory is there, and the root is no entry
abbrev pub IsPlace : Files → Place → Type 0
IsPlace files l = IsDirectory (find (front l.path) files) × (l.path ≡ [] → ⊥)

pub place-in : (a b d : Errno) (files : Files) (c : Cred) (bs : List ℕ) → Holds (IsPlace files) (place a b d files c bs)
place-in a b d files c bs =
    goes (λ e. IsDirectory (find e.path files)) (IsPlace files) (entry files c bs) (λ e. place_of a b d e e.last)
    (goes (λ w. ⊤) _ (words_of bs) (λ words. entry_of files c words) (any (words_of bs)) (λ words _. entry-in words))
    (λ e directory. by_last e directory e.last)
  where
    entry-in : (words : Words) → Holds (λ e. IsDirectory (find e.path files)) (entry_of files c words)
    entry-in words =
        goes (λ at. ⊤) _ (reach files c [] (front words.names)) _ (any (reach files c [] (front words.names)))
        (λ at _. goes (λ f. IsDirectory (find at files)) _ (searched files c at) _ (searched-in files c at) (λ f directory. directory))

    by_last : (e : Resolved) → IsDirectory (find e.path files) → (last : Last) → Holds (IsPlace files) (place_of a b d e last)
    by_last e directory Nothing = tt
    by_last e directory Dot = tt
    by_last e directory DotDot = tt
    by_last e directory (Named n) = (subst (λ p. IsDirectory (find p files)) (sym (front-last e.path n)) directory, some_name e.path n)

-- Calls

pub make-map : (kind : Kind) (files : Files) (made : ℕ) (c : Cred) (path : List ℕ) (mode : ℕ) → IsFileMap files → Holds IsFileMap (calls.make kind files made c path mode)
make-map kind files made c path mode m =
    goes (IsPlace files) IsFileMap (place EEXIST EEXIST EEXIST files c path) _ (place-in EEXIST EEXIST EEXIST files c path)
    (λ l in_place. by_find l in_place (find l.path files) refl)
  where
    by_find : (l : Place) → IsPlace files l → (o : Option File) → find l.path files ≡ o
        → Holds IsFileMap (refuse_if (is_some o) EEXIST >> (refuse_if (is_fifo kind && l.slash) ENOENT >> (permitted_change c l.directory >> (refuse_if (is_full files made) ENOSPC >> Ok (insert l.path (made_by c kind mode made) files)))))
    by_find l in_place (Some f) e = tt
    by_find l in_place None e =
        passes IsFileMap (refuse_if (is_fifo kind && l.slash) ENOENT) _ (passes IsFileMap (permitted_change c l.directory) _ (passes IsFileMap (refuse_if (is_full files made) ENOSPC) _
        (insert-map l.path (made_by c kind mode made) files e in_place.0 m)))

no_names : (ns : List Name) → is_nonempty ns ≡ false → ns ≡ []
no_names [] e = refl
no_names (n ∷ ns) e = absurd (cc)

-- what is no directory has nothing below it to ask for
not_directory : {X : Type 0} (f : File) (o : Option File) → o ≡ Some f → is_directory f ≡ false → IsDirectory o → X
not_directory f None there is d = absurd (d)
not_directory f (Some g) there is d = let both : false ≡ true = sym is ∙ subst IsDirectory there d in absurd (cc)

pub unlink-map : (files : Files) (c : Cred) (path : List ℕ) → IsFileMap files → Holds IsFileMap (calls.unlink files c path)
unlink-map files c path m =
    goes (IsPlace files) IsFileMap (place EPERM EPERM EPERM files c path) _ (place-in EPERM EPERM EPERM files c path)
    (λ l in_place. found IsFileMap ENOENT (find l.path files) _
    (λ f there. passes IsFileMap (refuse_if (l.slash && not (is_directory f)) ENOTDIR) _ (passes IsFileMap (permitted_removal c l.directory f) _
    (unless IsFileMap (is_directory f) EPERM _ (λ fifo. remove-map l.path files in_place.1 (not_directory f (find l.path files) there fifo) m)))))

pub rmdir-map : (files : Files) (c : Cred) (path : List ℕ) → IsFileMap files → Holds IsFileMap (calls.rmdir files c path)
rmdir-map files c path m =
    goes (IsPlace files) IsFileMap (place EBUSY EINVAL EINVAL files c path) _ (place-in EBUSY EINVAL EINVAL files c path)
    (λ l in_place. found IsFileMap ENOENT (find l.path files) _
    (λ f there. passes IsFileMap (refuse_if (not (is_directory f)) ENOTDIR) _ (passes IsFileMap (permitted_removal c l.directory f) _
    (unless IsFileMap (is_nonempty (names_below l.path files)) ENOTEMPTY _ (λ empty. remove-map l.path files in_place.1 (λ _. no_names (names_below l.path files) empty) m)))))

pub chmod-map : (files : Files) (c : Cred) (path : List ℕ) (mode : ℕ) → IsFileMap files → Holds IsFileMap (calls.chmod files c path mode)
chmod-map files c path mode m =
    goes (λ t. ⊤) IsFileMap (target files c path) _ (any (target files c path))
    (λ t _. passes IsFileMap (refuse_if (not (is_privileged c) && not (nat_eq c.uid t.file.meta.uid)) EPERM) _ (set_mode-map t.path mode files m))

-- Steps

-- the files of a state
abbrev IsMapped : State Segment ℕ → Type 0
IsMapped s = IsFileMap s.files

files-left : (files : Files) (c : Cred) (left : Files) → Refiled files c left → IsFileMap files → IsFileMap left
files-left files c left (Unlinked path e) m = of_given IsFileMap _ left e (unlink-map files c path m)
files-left files c left (Removed path e) m = of_given IsFileMap _ left e (rmdir-map files c path m)
files-left files c left (Remoded path mode e) m = of_given IsFileMap _ left e (chmod-map files c path mode m)

-- no other part of it matters to them
others : Kept IsMapped
others = record {
  people = λ s ps h. h;
  drawn = λ s ds h. h;
  held = λ s n q h. h;
  opens = λ s a n h. h;
  fifo = λ s q owner f there e h. h;
  piped = λ s q owner h. h;
  fewer = λ s test h. h;
  made = λ s c kind path mode files e h.
      of_given IsFileMap _ files e (make-map kind s.files s.files_made c path mode h);
  filed = λ s c files how h. files-left s.files c files how h;
}

pub stays : (s : State Segment ℕ) → IsFileMap s.files → (c : Limits) (step : Step)
    → IsFileMap (step_of c s step).state.files
stays s m c step = kept-step IsMapped others s m c step
