-- Examples by computation: permissions, paths, and the calls on files.

use Rattle.std.specs.Prelude.{◌≡◌, ℕ, List, [], ◌∷◌, true, false, Ok, Err, refl}
use Rattle.pf_machine.specs.FileMap.{Files, Path, insert, remove, names_below}
use Rattle.pf_machine.specs.FileCalls.{make, unlink, rmdir, chmod, stat, list}
use Rattle.pf_machine.specs.Paths.{has_dots, words_of, reach}
use Rattle.pf_base.specs.Permissions.{allows, masked, may_remove, mode_of}
use Rattle.pf_base.specs.declared.cred.Cred.{Cred}
use Rattle.pf_base.specs.declared.errno.Errno.TheVariants.{EPERM, ENOENT, EACCES, EBUSY, EEXIST, ENOTDIR, EINVAL}
use Rattle.pf_base.specs.declared.meta.File.{File}
use Rattle.pf_base.specs.declared.meta.Kind.TheVariants.{Fifo, Directory}
use Rattle.pf_base.specs.declared.meta.Meta.{Meta}
use Rattle.pf_base.specs.declared.permissions.Want.TheVariants.{Read, Write, Search}

abbrev user : ℕ → ℕ → List ℕ → Cred
user uid gid groups = record { uid = uid; gid = gid; groups = groups; umask = 18 }

-- a FIFO of the user 5 and the group 6
abbrev fifo : ℕ → Meta
fifo mode = record { kind = Fifo; mode = mode; uid = 5; gid = 6 }

-- 0070: the owner has none of it, though it is in the group
owner_alone : allows (user 5 6 []) (fifo 56) Read ≡ false
owner_alone = refl

group_reads : allows (user 7 6 []) (fifo 56) Read ≡ true
group_reads = refl

supplementary_reads : allows (user 7 8 (9 ∷ 6 ∷ [])) (fifo 56) Read ≡ true
supplementary_reads = refl

-- 0707: a member of the group has none of what the others have
member_alone : allows (user 7 6 []) (fifo 455) Write ≡ false
member_alone = refl

others_write : allows (user 7 8 []) (fifo 455) Write ≡ true
others_write = refl

-- 0000, and the uid 0
privileged : allows (user 0 0 []) (fifo 0) Search ≡ true
privileged = refl

-- 0666 under 022 is 0644
umask_022 : masked 438 18 ≡ 420
umask_022 = refl

-- 01777 under 022 is 01755: the umask has permission bits alone
umask_stays : masked 1023 18 ≡ 1005
umask_stays = refl

-- 01777 is a mode; 02000 and 04000, the set-group-ID and the set-user-ID bit, are none
sticky_mode : mode_of 1023 ≡ Ok 1023
sticky_mode = refl

set_group_id : mode_of 1024 ≡ Err EINVAL
set_group_id = refl

set_user_id : mode_of 2048 ≡ Err EINVAL
set_user_id = refl

-- a FIFO of the user 5 in a directory of the user 3: without the sticky bit anyone who may write it takes it out
abbrev shared : ℕ → Meta
shared mode = record { kind = Directory; mode = mode; uid = 3; gid = 6 }

anyone_takes : may_remove (user 7 6 []) (shared 511) (fifo 438) ≡ true
anyone_takes = refl

-- with it the file's owner does, the directory's owner, and the uid 0
file_owner_takes : may_remove (user 5 8 []) (shared 1023) (fifo 438) ≡ true
file_owner_takes = refl

directory_owner_takes : may_remove (user 3 8 []) (shared 1023) (fifo 438) ≡ true
directory_owner_takes = refl

privileged_takes : may_remove (user 0 0 []) (shared 1023) (fifo 438) ≡ true
privileged_takes = refl

-- and nobody else, of the file's group and the directory's though he be; 01770 lets that group write
member_leaves : may_remove (user 7 6 []) (shared 1016) (fifo 438) ≡ false
member_leaves = refl

-- the sticky bit of the file itself counts for nothing
sticky_file : may_remove (user 7 6 []) (shared 511) (fifo 1023) ≡ true
sticky_file = refl

-- "/a//b/" has two components, and a slash behind them
cut_twice : words_of (47 ∷ 97 ∷ 47 ∷ 47 ∷ 98 ∷ 47 ∷ []) ≡ Ok (record { names = (97 ∷ []) ∷ (98 ∷ []) ∷ []; slash = true })
cut_twice = refl

-- "/" has none
cut_root : words_of (47 ∷ []) ≡ Ok (record { names = []; slash = false })
cut_root = refl

-- "a/./b" and "/.." have a name that may turn back, "/.a/..b/..." has none
dot_between : has_dots (97 ∷ 47 ∷ 46 ∷ 47 ∷ 98 ∷ []) ≡ true
dot_between = refl

dots_last : has_dots (47 ∷ 46 ∷ 46 ∷ []) ≡ true
dots_last = refl

dots_in_names : has_dots (47 ∷ 46 ∷ 97 ∷ 47 ∷ 46 ∷ 46 ∷ 98 ∷ 47 ∷ 46 ∷ 46 ∷ 46 ∷ []) ≡ false
dots_in_names = refl

-- a path that is refused before its walk has none
dots_behind_a_byte_0 : has_dots (47 ∷ 46 ∷ 47 ∷ 0 ∷ []) ≡ false
dots_behind_a_byte_0 = refl

cut_empty : words_of [] ≡ Err ENOENT
cut_empty = refl

-- the root 0777, and in it the directory /b 0700 of the user 5 and the FIFO /a of the same
abbrev file : ℕ → Meta → File
file number meta = record { meta = meta; number = number }

abbrev directory : ℕ → ℕ → Meta
directory mode uid = record { kind = Directory; mode = mode; uid = uid; gid = 0 }

abbrev a : Path
a = (97 ∷ []) ∷ []

abbrev b : Path
b = (98 ∷ []) ∷ []

abbrev worked : Files
worked = insert a (file 2 (fifo 420)) (insert b (file 1 (directory 448 5)) (([], file 0 (directory 511 0)) ∷ []))

names_rise : names_below [] worked ≡ (97 ∷ []) ∷ (98 ∷ []) ∷ []
names_rise = refl

-- "/b/../a" for the owner of /b; others may not search it
up : reach worked (user 5 5 []) [] ((98 ∷ []) ∷ (46 ∷ 46 ∷ []) ∷ (97 ∷ []) ∷ []) ≡ Ok a
up = refl

no_search : reach worked (user 7 7 []) [] ((98 ∷ []) ∷ (46 ∷ 46 ∷ []) ∷ (97 ∷ []) ∷ []) ≡ Err EACCES
no_search = refl

-- "..": from the root to the root
above_the_root : reach worked (user 7 7 []) [] ((46 ∷ 46 ∷ []) ∷ (97 ∷ []) ∷ []) ≡ Ok a
above_the_root = refl

-- "/a/" is no directory; mkfifo of "/c/" finds nothing there, and of "/a/" a file
slash_behind_a_fifo : stat worked (user 7 7 []) (47 ∷ 97 ∷ 47 ∷ []) ≡ Err ENOTDIR
slash_behind_a_fifo = refl

mkfifo_slash : make Fifo worked 2 (user 7 7 []) (47 ∷ 99 ∷ 47 ∷ []) 438 ≡ Err ENOENT
mkfifo_slash = refl

mkfifo_again : make Fifo worked 2 (user 7 7 []) (47 ∷ 97 ∷ 47 ∷ []) 438 ≡ Err EEXIST
mkfifo_again = refl

-- a new FIFO is its maker's, with the mode that the umask leaves
mkfifo_made : make Fifo worked 2 (user 7 8 []) (99 ∷ []) 438 ≡ Ok (insert ((99 ∷ []) ∷ []) (file 3 (record { kind = Fifo; mode = 420; uid = 7; gid = 8 })) worked)
mkfifo_made = refl

-- the root in place of an entry
root_made : make Directory worked 2 (user 7 7 []) (47 ∷ []) 511 ≡ Err EEXIST
root_made = refl

root_unlinked : unlink worked (user 7 7 []) (47 ∷ []) ≡ Err EPERM
root_unlinked = refl

root_removed : rmdir worked (user 7 7 []) (47 ∷ []) ≡ Err EBUSY
root_removed = refl

-- a directory is not unlinked, and a FIFO is no directory
directory_unlinked : unlink worked (user 7 7 []) (98 ∷ []) ≡ Err EPERM
directory_unlinked = refl

fifo_removed : rmdir worked (user 7 7 []) (97 ∷ []) ≡ Err ENOTDIR
fifo_removed = refl

unlinked : unlink worked (user 7 7 []) (97 ∷ []) ≡ Ok (remove a worked)
unlinked = refl

-- only the owner and the uid 0 change a mode
chmod_refused : chmod worked (user 7 7 []) (97 ∷ []) 0 ≡ Err EPERM
chmod_refused = refl

listing : list worked (user 7 7 []) (47 ∷ []) ≡ Ok (97 ∷ 47 ∷ 98 ∷ 47 ∷ [])
listing = refl

not_read : list worked (user 7 7 []) (98 ∷ []) ≡ Err EACCES
not_read = refl
