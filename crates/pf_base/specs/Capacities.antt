-- How many pages a user's pipes may have (pipe(7), "/proc files"; the reservation, and that a small new pipe has one
-- slot, are the profile's own). `charged` is the pages that the user's pipes are charged with, and `total` those of all
-- pipes of the namespace. Privileged callers are held to the reservation alone.

use Rattle.std.specs.Prelude.{◌≡◌, ℕ, zero, suc, ◌+◌, ◌-◌, ◌*◌, ◌/◌, ◌^◌, ◌≤◌, ◌<◌, Bool, not, ◌||◌, ◌&&◌, nat_eq, nat_le, nat_lt, if◌then◌else◌, ◌⊎◌, Result, Ok, Err}
use Rattle.pf_base.specs.Limits.{Limits}
use Rattle.pf_base.specs.declared.TheConstants.{PAGE_SIZE, DEFAULT_SLOTS, LEAST_SLOTS}
use Rattle.pf_base.specs.declared.capacity.LimitFault.{LimitFault}
use Rattle.pf_base.specs.declared.capacity.LimitFault.TheVariants.{Hard, Reserve, Soft}
use Rattle.pf_base.specs.declared.errno.Errno.{Errno}
use Rattle.pf_base.specs.declared.errno.Errno.TheVariants.{ENFILE}

-- so many pages pass a limit of a user's: 0 is no limit, and privileged callers are not held to it
abbrev pub passes : Bool → ℕ → ℕ → Bool
passes privileged limit pages = not privileged && not (nat_eq limit 0) && nat_lt limit pages

-- New pipes

-- a new pipe has 16 slots, or 1 where these would pass an unprivileged caller's soft limit, or the reservation
abbrev pub slots_for : Limits → Bool → ℕ → ℕ → ℕ
slots_for c privileged charged total =
    if passes privileged c.soft (charged + DEFAULT_SLOTS) || nat_lt c.reserve (total + DEFAULT_SLOTS) then LEAST_SLOTS
    else DEFAULT_SLOTS

-- it is refused where its slots would pass an unprivileged caller's hard limit, and then where they would pass the
-- reservation, whoever calls
abbrev pub new_capacity : Limits → Bool → ℕ → ℕ → Result ℕ LimitFault
new_capacity c privileged charged total =
    if passes privileged c.hard (charged + slots_for c privileged charged total) then Err Hard
    else if nat_lt c.reserve (total + slots_for c privileged charged total) then Err Reserve
    else Ok (slots_for c privileged charged total)

-- Growth

-- growth from some slots to more is refused where an unprivileged caller would pass the soft limit, then where it would
-- pass the hard one, and then where it would pass the reservation, whoever calls. The caller's privilege counts, and
-- `charged` is the owner's
abbrev pub may_grow : Limits → Bool → ℕ → ℕ → ℕ → ℕ → Result (Unit {0}) LimitFault
may_grow c privileged charged total from to =
    if passes privileged c.soft (charged - from + to) then Err Soft
    else if passes privileged c.hard (charged - from + to) then Err Hard
    else if nat_lt c.reserve (total - from + to) then Err Reserve
    else Ok tt

-- What a process is told

-- where a limit of a user's would be passed, the error that the call has for that, and else ENFILE
abbrev pub errno_of : Errno → LimitFault → Errno
errno_of limit Hard = limit
errno_of limit Soft = limit
errno_of limit Reserve = ENFILE

abbrev pub told_as : {A : Type 0} → Errno → Result A LimitFault → Result A Errno
told_as limit (Ok x) = Ok x
told_as limit (Err fault) = Err (errno_of limit fault)

-- Capacities by their bytes (fcntl(2), F_SETPIPE_SZ)

-- the least of k, 2 * k, 4 * k, .. pages that hold so many bytes, among the first so many
abbrev pub pages_from : ℕ → ℕ → ℕ → ℕ
pages_from zero k bytes = k
pages_from (suc more) k bytes = if nat_le bytes (PAGE_SIZE * k) then k else pages_from more (2 * k) bytes

-- the least power of two of pages that holds so many bytes, which are below 2 ^ 64
unfoldable pub pages_for : ℕ → ℕ
pages_for bytes = pages_from 52 1 bytes

-- the least power of two of pages that holds so many bytes: no smaller one does, and so its half doesn't, or it is one
-- page
pub record IsLeastPower (bytes pages : ℕ) : Type 0 where
  pub power : (k : ℕ) × (pages ≡ 2 ^ k)
  pub holds : bytes ≤ PAGE_SIZE * pages
  pub least : (k : ℕ) → bytes ≤ PAGE_SIZE * 2 ^ k → pages ≤ 2 ^ k
  pub half : (pages ≡ 1) ⊎ (PAGE_SIZE * (pages / 2) < bytes)
