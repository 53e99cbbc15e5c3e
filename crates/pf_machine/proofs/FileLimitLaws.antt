-- The calls on files keep them within the limits, and so a list of names is.

use Rattle.std.proofs.Common.{◌≡◌, ℕ, ◌+◌, ◌*◌, ◌≤◌, Bool, true, false, not, ◌||◌, ◌&&◌, List, ◌∷◌, ◌++◌, length, Option, Some, None, is_some, refl, ap, subst, arith, length-append, nat_eq, nat_lt, nat_le, if◌then◌else◌, []}
use Rattle.std.specs.Prelude.{⊤}
use Rattle.std.specs.List.{list_any}
use Rattle.std.specs.Option.{option_to_list}
use Rattle.std.specs.declared.cmp.Ordering.{Ordering}
use Rattle.std.specs.declared.cmp.Ordering.TheVariants.{Less, Equal, Greater}
use Rattle.std.proofs.lemmas.Bool.{ltb-false}
use Rattle.pf_machine.specs.Refusals.{refuse_if, or_refuse}
use Rattle.pf_base.specs.Permissions.{is_privileged}
use Rattle.pf_machine.specs.FileMap.{Files, Path, Name, find, insert, remove, set_mode, same_path, same_name, path_cmp, by_order, name_below, names_below, listed, is_directory, IsDirectory}
use Rattle.pf_machine.specs.FileCalls as calls
use Rattle.pf_machine.specs.FileCalls.{place_of, place, permitted_change, permitted_removal, is_fifo, is_full, made_by}
use Rattle.pf_machine.specs.Paths.{Words, Resolved, Last, Nothing, Dot, DotDot, Named, components, words_of, reach, searched, entry_of, entry, target, is_dot, is_dot_dot, last_of, is_nonempty}
use Rattle.pf_base.specs.declared.cred.Cred.{Cred}
use Rattle.pf_base.specs.declared.errno.Errno.{Errno}
use Rattle.pf_base.specs.declared.errno.Errno.TheVariants.{EPERM, ENOENT, EEXIST, EBUSY, EINVAL, ENOTDIR, ENOSPC, ENOTEMPTY, ENAMETOOLONG}
use Rattle.pf_base.specs.declared.meta.File.{File}
use Rattle.pf_base.specs.declared.meta.Kind.{Kind}
use Rattle.pf_machine.proofs.HoldsLaws.{Holds, goes, carries, passes, unless}
use Rattle.pf_machine.specs.FileLimits.{EndsShort, AllShort, IsWithin}

-- How long a list is

-- how many entries are the root's
abbrev one_at : Path → ℕ
one_at [] = 1
one_at (n ∷ p) = 0

abbrev roots : Files → ℕ
roots [] = 0
roots ((p, f) ∷ rest) = one_at p + roots rest

below_name : (p q : Path) (n : Name) → EndsShort q → name_below p q ≡ Some n → length n ≤ 255
below_name [] [] n short is = absurd (cc)
below_name [] (m ∷ []) n short is = let same : m ≡ n = cc in subst (λ (x : Name). length x ≤ 255) same short
below_name [] (m ∷ k ∷ q) n short is = absurd (cc)
below_name (x ∷ p) [] n short is = absurd (cc)
below_name (x ∷ p) (y ∷ []) n short is = by_name (same_name x y) (λ e. below_name p [] n tt e) is
  where
    by_name : (b : Bool) → (name_below p [] ≡ Some n → length n ≤ 255) → (if b then name_below p [] else None) ≡ Some n → length n ≤ 255
    by_name true h e = h e
    by_name false h e = absurd (cc)
below_name (x ∷ p) (y ∷ z ∷ q) n short is = by_name (same_name x y) (λ e. below_name p (z ∷ q) n short e) is
  where
    by_name : (b : Bool) → (name_below p (z ∷ q) ≡ Some n → length n ≤ 255) → (if b then name_below p (z ∷ q) else None) ≡ Some n → length n ≤ 255
    by_name true h e = h e
    by_name false h e = absurd (cc)

-- the root stands below nothing
root_below : (p : Path) → name_below p [] ≡ None
root_below [] = refl
root_below (x ∷ p) = refl

-- names behind one name, or behind none
listed_behind : (o : Option Name) (ns : List Name) (most : ℕ) → ((n : Name) → o ≡ Some n → length n + 1 ≤ most) → length (listed (option_to_list o ++ ns)) ≤ most + length (listed ns)
listed_behind None ns most h = omega arith
listed_behind (Some n) ns most h = omega (arith, length-append n (47 ∷ listed ns), h n refl)

one_listed : (p q : Path) (ns : List Name) → EndsShort q → length (listed (option_to_list (name_below p q) ++ ns)) + 256 * one_at q ≤ 256 + length (listed ns)
one_listed p [] ns short =
    let none : length (listed (option_to_list (name_below p []) ++ ns)) ≡ length (listed ns) = ap (λ (o : Option Name). length (listed (option_to_list o ++ ns))) (root_below p) in
    omega (arith, none)
one_listed p (m ∷ q) ns short = omega (arith, listed_behind (name_below p (m ∷ q)) ns 256 (λ n is. omega (arith, below_name p (m ∷ q) n short is)))

listed_few : (p : Path) (fs : Files) → AllShort fs → length (listed (names_below p fs)) + 256 * roots fs ≤ 256 * length fs
listed_few p [] short = omega arith
listed_few p ((q, f) ∷ rest) short = omega (arith, one_listed p q (names_below p rest) short.0, listed_few p rest short.1)

has_root : (fs : Files) → IsDirectory (find [] fs) → 1 ≤ roots fs
has_root [] is = absurd (is)
has_root (([], f) ∷ rest) is = omega arith
has_root ((n ∷ q, f) ∷ rest) is = omega (arith, has_root rest is)

pub names_within : (fs : Files) → IsWithin fs → IsDirectory (find [] fs) → (p : Path) → length (listed (names_below p fs)) + 256 ≤ 256 * length fs
names_within fs within root p = omega (arith, listed_few p fs within.short, has_root fs root)

-- Changes

ends_short : (p : Path) (n : Name) → length n ≤ 255 → EndsShort (p ++ n ∷ [])
ends_short [] n h = h
ends_short (x ∷ []) n h = h
ends_short (x ∷ y ∷ p) n h = ends_short (y ∷ p) n h

inserted : (p : Path) (f : File) (fs : Files) → EndsShort p → AllShort fs → AllShort (insert p f fs) × (length (insert p f fs) ≤ length fs + 1)
inserted p f [] h short = ((h, tt), omega arith)
inserted p f ((q, g) ∷ rest) h short = by_place (path_cmp p q) (inserted p f rest h short.1)
  where
    by_place : (o : Ordering) → AllShort (insert p f rest) × (length (insert p f rest) ≤ length rest + 1) → AllShort (by_order o ((p, f) ∷ (q, g) ∷ rest) ((p, f) ∷ rest) ((q, g) ∷ insert p f rest))
        × (length (by_order o ((p, f) ∷ (q, g) ∷ rest) ((p, f) ∷ rest) ((q, g) ∷ insert p f rest)) ≤ length {A = Path × File} ((q, g) ∷ rest) + 1)
    by_place Less more = ((h, short), omega arith)
    by_place Equal more = ((h, short.1), omega arith)
    by_place Greater more = ((short.0, more.0), omega (arith, more.1))

removed : (p : Path) (fs : Files) → AllShort fs → AllShort (remove p fs) × (length (remove p fs) ≤ length fs)
removed p [] short = (tt, omega arith)
removed p ((q, f) ∷ rest) short = by_path (same_path p q) (removed p rest short.1)
  where
    by_path : (b : Bool) → AllShort (remove p rest) × (length (remove p rest) ≤ length rest)
        → AllShort (if b then remove p rest else (q, f) ∷ remove p rest) × (length (if b then remove p rest else (q, f) ∷ remove p rest) ≤ length {A = Path × File} ((q, f) ∷ rest))
    by_path true more = (more.0, omega (arith, more.1))
    by_path false more = ((short.0, more.0), omega (arith, more.1))

remoded : (p : Path) (mode : ℕ) (fs : Files) → AllShort fs → AllShort (set_mode p mode fs) × (length (set_mode p mode fs) ≤ length fs)
remoded p mode [] short = (tt, omega arith)
remoded p mode ((q, f) ∷ rest) short = let more = remoded p mode rest short.1 in ((short.0, more.0), omega (arith, more.1))

remove-within : (p : Path) (fs : Files) → IsWithin fs → IsWithin (remove p fs)
remove-within p fs w = let r = removed p fs w.short in record { number = omega (arith, r.1, w.number); short = r.0 }

set_mode-within : (p : Path) (mode : ℕ) (fs : Files) → IsWithin fs → IsWithin (set_mode p mode fs)
set_mode-within p mode fs w = let r = remoded p mode fs w.short in record { number = omega (arith, r.1, w.number); short = r.0 }

-- Names that a path may have

abbrev LastShort : Last → Type 0
LastShort (Named n) = length n ≤ 255
LastShort _ = ⊤

-- of two tests that fail, each fails
first_fails : (a b : Bool) → (a || b) ≡ false → a ≡ false
first_fails true b e = absurd (cc)
first_fails false b e = refl

second_fails : (a b : Bool) → (a || b) ≡ false → b ≡ false
second_fails true b e = absurd (cc)
second_fails false b e = e

last-short : (ns : List Name) → list_any (λ n. nat_lt 255 (length n)) ns ≡ false → LastShort (last_of ns)
last-short [] e = tt
last-short (n ∷ []) e = by_dots (is_dot n) (is_dot_dot n)
  where
    by_dots : (a b : Bool) → LastShort (if a then Dot else if b then DotDot else Named n)
    by_dots true b = tt
    by_dots false true = tt
    by_dots false false = ltb-false 255 (length n) (first_fails (nat_lt 255 (length n)) false e)
last-short (n ∷ m ∷ ns) e = last-short (m ∷ ns) (second_fails (nat_lt 255 (length n)) (list_any (λ x. nat_lt 255 (length x)) (m ∷ ns)) e)

words-short : (bs : List ℕ) → Holds (λ w. LastShort (last_of w.names)) (words_of bs)
words-short bs =
    passes Q (refuse_if (list_any (λ b. nat_eq b 0) bs) EINVAL) _
    (passes Q (refuse_if (nat_eq (length bs) 0) ENOENT) _
    (unless Q (nat_lt 1023 (length bs) || list_any (λ n. nat_lt 255 (length n)) (components bs)) ENAMETOOLONG _
    (λ e. last-short (components bs) (second_fails (nat_lt 1023 (length bs)) (list_any (λ n. nat_lt 255 (length n)) (components bs)) e))))
  where
    Q : Words → Type 0
    Q w = LastShort (last_of w.names)

place-short : (a b d : Errno) (files : Files) (c : Cred) (bs : List ℕ) → Holds (λ l. EndsShort l.path) (place a b d files c bs)
place-short a b d files c bs =
    goes (λ e. LastShort e.last) (λ l. EndsShort l.path) (entry files c bs) (λ e. place_of a b d e e.last)
    (goes (λ w. LastShort (last_of w.names)) (λ e. LastShort e.last) (words_of bs) (λ words. entry_of files c words) (words-short bs) entered)
    (λ e h. by_last e e.last h)
  where
    entered : (w : Words) → LastShort (last_of w.names) → Holds (λ e. LastShort e.last) (entry_of files c w)
    entered w h = carries (λ e. LastShort e.last) (reach files c [] (Rattle.pf_machine.specs.FileMap.front w.names)) _ (λ at. carries (λ e. LastShort e.last) (searched files c at) _ (λ f. h))

    by_last : (e : Resolved) (last : Last) → LastShort last → Holds (λ l. EndsShort l.path) (place_of a b d e last)
    by_last e Nothing h = tt
    by_last e Dot h = tt
    by_last e DotDot h = tt
    by_last e (Named n) h = ends_short e.path n h

-- Calls

pub make-within : (kind : Kind) (files : Files) (made : ℕ) (c : Cred) (path : List ℕ) (mode : ℕ) → IsWithin files → Holds IsWithin (calls.make kind files made c path mode)
make-within kind files made c path mode w =
    goes (λ l. EndsShort l.path) IsWithin (place EEXIST EEXIST EEXIST files c path) _ (place-short EEXIST EEXIST EEXIST files c path)
    (λ l h. passes IsWithin (refuse_if (is_some (find l.path files)) EEXIST) _
    (passes IsWithin (refuse_if (is_fifo kind && l.slash) ENOENT) _
    (passes IsWithin (permitted_change c l.directory) _
    (unless IsWithin (is_full files made) ENOSPC _
    (λ e.
    let r = inserted l.path (made_by c kind mode made) files h w.short in
    let room = ltb-false 10000 (length files) (first_fails (nat_lt 10000 (length files)) (nat_le 18446744073709551615 made) e) in
    record { number = omega (arith, r.1, room); short = r.0 })))))

pub unlink-within : (files : Files) (c : Cred) (path : List ℕ) → IsWithin files → Holds IsWithin (calls.unlink files c path)
unlink-within files c path w =
    carries IsWithin (place EPERM EPERM EPERM files c path) _
    (λ l. carries IsWithin (or_refuse ENOENT (find l.path files)) _
    (λ f. passes IsWithin (refuse_if (l.slash && not (is_directory f)) ENOTDIR) _
    (passes IsWithin (permitted_removal c l.directory f) _
    (passes IsWithin (refuse_if (is_directory f) EPERM) _ (remove-within l.path files w)))))

pub rmdir-within : (files : Files) (c : Cred) (path : List ℕ) → IsWithin files → Holds IsWithin (calls.rmdir files c path)
rmdir-within files c path w =
    carries IsWithin (place EBUSY EINVAL EINVAL files c path) _
    (λ l. carries IsWithin (or_refuse ENOENT (find l.path files)) _
    (λ f. passes IsWithin (refuse_if (not (is_directory f)) ENOTDIR) _
    (passes IsWithin (permitted_removal c l.directory f) _
    (passes IsWithin (refuse_if (is_nonempty (names_below l.path files)) ENOTEMPTY) _ (remove-within l.path files w)))))

pub chmod-within : (files : Files) (c : Cred) (path : List ℕ) (mode : ℕ) → IsWithin files → Holds IsWithin (calls.chmod files c path mode)
chmod-within files c path mode w =
    carries IsWithin (target files c path) _
    (λ t. passes IsWithin (refuse_if (not (is_privileged c) && not (nat_eq c.uid t.file.meta.uid)) EPERM) _ (set_mode-within t.path mode files w))

-- At the opening
