-- Examples by computation: capacities and the limits of pages, each at its number and one above.

use Rattle.std.specs.Prelude.{◌≡◌, true, false, Ok, Err, refl}
use Rattle.pf_base.specs.Capacities.{new_capacity, may_grow, told_as, pages_for}
use Rattle.pf_base.specs.Limits.{Limits}
use Rattle.pf_base.specs.declared.capacity.LimitFault.TheVariants.{Hard, Reserve, Soft}
use Rattle.pf_base.specs.declared.errno.Errno.TheVariants.{ENFILE, ENOMEM}

-- Bytes

no-bytes : pages_for 0 ≡ 1
unfolding pages_for
no-bytes = refl

a-page : pages_for 4096 ≡ 1
unfolding pages_for
a-page = refl

a-byte-more : pages_for 4097 ≡ 2
unfolding pages_for
a-byte-more = refl

three-pages : pages_for 12288 ≡ 4
unfolding pages_for
three-pages = refl

-- New pipes

-- a reservation of 64 pages, a soft limit of 17 and a hard one of 20
abbrev limits : Limits
limits = record { reserve = 64; soft = 17; hard = 20; max = 1048576 }

-- with a page charged, 16 more are just at the soft limit
at-soft : new_capacity limits false 1 1 ≡ Ok 16
at-soft = refl

above-soft : new_capacity limits false 2 2 ≡ Ok 1
above-soft = refl

privileged-above-soft : new_capacity limits true 2 2 ≡ Ok 16
privileged-above-soft = refl

-- one slot is just at the hard limit
at-hard : new_capacity limits false 19 19 ≡ Ok 1
at-hard = refl

above-hard : new_capacity limits false 20 20 ≡ Err Hard
above-hard = refl

privileged-above-hard : new_capacity limits true 20 20 ≡ Ok 16
privileged-above-hard = refl

at-reserve : new_capacity limits true 48 48 ≡ Ok 16
at-reserve = refl

above-reserve : new_capacity limits true 49 49 ≡ Ok 1
above-reserve = refl

nothing-left : new_capacity limits true 64 64 ≡ Err Reserve
nothing-left = refl

-- where both would be passed, the hard limit is told
hard-first : new_capacity limits false 64 64 ≡ Err Hard
hard-first = refl

-- Growth

-- the owner has 9 pages, of which this pipe has 1
grown-to-soft : may_grow limits false 9 9 1 9 ≡ Ok tt
grown-to-soft = refl

grown-above-soft : may_grow limits false 9 9 1 10 ≡ Err Soft
grown-above-soft = refl

privileged-growth : may_grow limits true 9 9 1 10 ≡ Ok tt
privileged-growth = refl

-- where all three would be passed, the soft limit is told
soft-first : may_grow limits false 9 9 1 128 ≡ Err Soft
soft-first = refl

-- with no soft limit the hard one, and the reservation for the privileged
hard-next : may_grow (record limits { soft = 0 }) false 9 9 1 128 ≡ Err Hard
hard-next = refl

reserve-last : may_grow limits true 9 9 1 128 ≡ Err Reserve
reserve-last = refl

-- What a process is told

hard-is-told : told_as ENOMEM (new_capacity limits false 20 20) ≡ Err ENOMEM
hard-is-told = refl

reserve-is-told : told_as ENOMEM (new_capacity limits true 64 64) ≡ Err ENFILE
reserve-is-told = refl
