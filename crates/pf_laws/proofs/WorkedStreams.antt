-- Examples by computation: what goes through a pipe, and what the replies say of it.

use Rattle.std.specs.Prelude.{◌≡◌, ℕ, false, List, [], ◌∷◌, length, refl, replicate}
use Rattle.std.proofs.Common.{arith}
use Rattle.pf_base.specs.Limits.{Limits}
use Rattle.pf_base.specs.Capacities.{pages_for}
use Rattle.pf_machine.specs.Queue.{Segment}
use Rattle.pf_machine.specs.State.{State, vacant}
use Rattle.pf_machine.specs.Machine.{step_of}
use Rattle.pf_laws.specs.Standing.{reached}
use Rattle.pf_laws.specs.Streams.{transfer_of, taken_out, given, took, given_to, given_by, joined, says_out, Took, told, told_to, Counts, IsGiving}
use Rattle.pf_base.specs.declared.errno.Errno.TheVariants.{EPIPE}
use Rattle.pf_base.specs.declared.step.Reply.TheVariants.{Num, Bytes, Parked, Err as Refused}
use Rattle.pf_base.specs.declared.step.Step.{Step}
use Rattle.pf_base.specs.declared.step.Step.TheVariants.{Spawn, Fork, Exit, Pipe, Close, Read, Write, SetSize, Splice, Tee, Resume}

abbrev limits : Limits
limits = record { reserve = 64; soft = 16384; hard = 0; max = 1048576 }

-- a long write waits, another process's bytes come between, and Resume puts the rest
abbrev between : List Step
between =
    Spawn 5 5 18 [] ∷ Pipe 1 false ∷ SetSize 1 0 0 ∷ Fork 1 ∷ Write 1 1 (replicate 4098 97) ∷ Read 2 0 4096 ∷ Write 2 1 (98 ∷ [])
    ∷ Resume 1 ∷ Read 2 0 9 ∷ []

between-given : given limits between ≡ record { call = 4; pipe = 0; bytes = replicate 4096 97 } ∷ record { call = 6; pipe = 0; bytes = 98 ∷ [] } ∷ record { call = 4; pipe = 0; bytes = 97 ∷ 97 ∷ [] } ∷ []
unfolding vacant pages_for
between-given = refl

between-given_by : given_by 4 (given limits between) ≡ replicate 4096 97 ∷ (97 ∷ 97 ∷ []) ∷ []
unfolding vacant pages_for
between-given_by = refl

between-took : took limits (Read 1 0 0 ∷ between) 0 ≡ took limits between 0
unfolding vacant pages_for
between-took = refl

-- a small write waits and goes in whole; a tee gives its front to the other pipe and takes nothing
abbrev teed : List Step
teed =
    Spawn 5 5 18 [] ∷ Pipe 1 false ∷ Pipe 1 false ∷ SetSize 1 0 0 ∷ Fork 1 ∷ Write 1 1 (replicate 4096 97) ∷ Write 1 1 (98 ∷ 99 ∷ [])
    ∷ Tee 2 0 3 2 false ∷ Resume 1 ∷ Splice 2 0 3 4096 false ∷ Resume 1 ∷ []

teed-given_to : given_to 0 (given limits teed) ≡ replicate 4096 97 ∷ (98 ∷ 99 ∷ []) ∷ []
unfolding vacant pages_for
teed-given_to = refl

teed-into : given_to 1 (given limits teed) ≡ (97 ∷ 97 ∷ []) ∷ replicate 4096 97 ∷ []
unfolding vacant pages_for
teed-into = refl

teed-took : took limits teed 0 ≡ replicate 4096 97
unfolding vacant pages_for
teed-took = refl

-- What calls are told that give bytes

-- the long write is told at its Resume how many bytes it gave, in two pieces
between-told : told_to 4 (told limits between) ≡ Parked ∷ Num 4098 ∷ []
unfolding vacant pages_for
between-told = refl

between-counts : Counts (length (joined (given_by 4 (given limits between)))) (Num 4098)
unfolding vacant pages_for
between-counts = refl

-- and no other number says so: neither that of its last piece, nor that of its first
last_alone : Counts (length (joined (given_by 4 (given limits between)))) (Num 2) → ⊥
unfolding vacant pages_for
last_alone e = let none : 4098 ≡ 2 = e in absurd (omega (arith, none))

first_alone : Counts (length (joined (given_by 4 (given limits between)))) (Num 4096) → ⊥
unfolding vacant pages_for
first_alone e = let none : 4098 ≡ 4096 = e in absurd (omega (arith, none))

-- the law speaks of it, and of a tee and a splice
between-gives : IsGiving between 4
between-gives = (Write 1 1 (replicate 4098 97), (refl, refl))

teed-gives : IsGiving teed 7
teed-gives = (Tee 2 0 3 2 false, (refl, refl))

spliced-gives : IsGiving teed 9
spliced-gives = (Splice 2 0 3 4096 false, (refl, refl))

-- a small write waits twice and is told both its bytes; a tee and a splice are told what came
teed-written : told_to 6 (told limits teed) ≡ Parked ∷ Parked ∷ Num 2 ∷ []
unfolding vacant pages_for
teed-written = refl

teed-told : told_to 7 (told limits teed) ≡ Num 2 ∷ []
unfolding vacant pages_for
teed-told = refl

spliced-told : told_to 9 (told limits teed) ≡ Num 4096 ∷ []
unfolding vacant pages_for
spliced-told = refl

-- a write whose reader goes is told the part that went in
abbrev left : List Step
left =
    Spawn 5 5 18 [] ∷ Pipe 1 false ∷ SetSize 1 0 0 ∷ Fork 1 ∷ Close 1 0 ∷ Write 1 1 (replicate 4098 97) ∷ Exit 2
    ∷ Resume 1 ∷ Write 1 1 (98 ∷ []) ∷ []

left-told : told_to 5 (told limits left) ≡ Parked ∷ Num 4096 ∷ []
unfolding vacant pages_for
left-told = refl

left-given : given_by 5 (given limits left) ≡ replicate 4096 97 ∷ []
unfolding vacant pages_for
left-given = refl

-- the next one is told EPIPE, and gives none
left-refused : told_to 8 (told limits left) ≡ Refused EPIPE ∷ []
unfolding vacant pages_for
left-refused = refl

left-nothing : given_by 8 (given limits left) ≡ []
unfolding vacant pages_for
left-nothing = refl

-- What steps are told that take bytes

-- a reader waits at an empty pipe, and three bytes come
abbrev come : List Step
come = Spawn 5 5 18 [] ∷ Pipe 1 false ∷ Pipe 1 false ∷ Fork 1 ∷ Read 2 0 9 ∷ Write 1 1 (97 ∷ 98 ∷ 99 ∷ []) ∷ []

abbrev met : State Segment ℕ
met = reached limits come

resumed-reply : (step_of limits met (Resume 2)).reply ≡ Bytes (97 ∷ 98 ∷ 99 ∷ [])
unfolding vacant pages_for
resumed-reply = refl

resumed-says : says_out 0 met (Resume 2) (Bytes (97 ∷ 98 ∷ 99 ∷ [])) ≡ 97 ∷ 98 ∷ 99 ∷ []
unfolding vacant pages_for
resumed-says = refl

resumed-took : taken_out 0 (transfer_of met (Resume 2)) ≡ 97 ∷ 98 ∷ 99 ∷ []
unfolding vacant pages_for
resumed-took = refl

-- one byte too few is not what a read took; and no other pipe lost any
read-says : says_out 0 met (Read 1 0 2) (Bytes (97 ∷ [])) ≡ taken_out 0 (transfer_of met (Read 1 0 2)) → ⊥
unfolding vacant pages_for
read-says e = cc

elsewhere : says_out 1 met (Resume 2) (Bytes (97 ∷ 98 ∷ 99 ∷ [])) ≡ []
unfolding vacant pages_for
elsewhere = refl

-- at a descriptor that names nothing no bytes are to be had
invented : Took met (Read 1 7 1) (97 ∷ []) → ⊥
unfolding vacant pages_for
invented e = let none : ◌≡◌ {A = List ℕ} [] (97 ∷ []) = e.1 in cc

-- a splice that is told 2 took the first two; a tee took none
spliced-says : says_out 0 met (Splice 1 0 3 2 false) (Num 2) ≡ taken_out 0 (transfer_of met (Splice 1 0 3 2 false))
unfolding vacant pages_for
spliced-says = refl

spliced-wrong : says_out 0 met (Splice 1 0 3 2 false) (Num 3) ≡ taken_out 0 (transfer_of met (Splice 1 0 3 2 false)) → ⊥
unfolding vacant pages_for
spliced-wrong e = cc

teed-says : says_out 0 met (Tee 1 0 3 2 false) (Num 2) ≡ []
unfolding vacant pages_for
teed-says = refl
