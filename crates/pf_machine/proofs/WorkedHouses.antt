-- Examples by computation: namespaces that come and go over 17 frames.

use Rattle.std.specs.Prelude.{◌≡◌, ℕ, false, List, [], ◌∷◌, replicate, Some, None, refl}
use Rattle.pf_base.specs.declared.admission.AdmitFault.TheVariants.{NoRoom, TooManyNamespaces}
use Rattle.pf_base.specs.declared.admission.RetireFault.TheVariants.{NoSuchNamespace, Alive}
use Rattle.pf_base.specs.declared.admission.EventAnswer.{EventAnswer}
use Rattle.pf_base.specs.declared.admission.EventAnswer.TheVariants as told
use Rattle.pf_base.specs.declared.step.Answer.TheVariants.{Done, NoMemory}
use Rattle.pf_base.specs.declared.step.Reply.TheVariants.{Num, Pid, Fds, Bytes}
use Rattle.pf_base.specs.declared.step.Step.TheVariants.{Spawn, Exit, Pipe, Write, Read}
use Rattle.pf_base.specs.Limits.{Limits}
use Rattle.pf_machine.specs.Houses.{House, Event, Stepping, Admitting, Retiring, newcomer, turns_of, kept_in, replies_in, begun_in}
use Rattle.pf_machine.specs.State.{vacant}

-- limits of so many frames
abbrev reserve : ℕ → Limits
reserve n = record { reserve = n; soft = 16384; hard = 0; max = 1048576 }

-- red has 16 of the 17 frames
abbrev house : House
house = record { frames = 17; guests = Some (newcomer (reserve 16)) ∷ [] }

-- there is one frame for others until red is retired, whose 16 are for grey then; blue never comes, green stays while it
-- has a process, and red's number is nobody's any more
comes_and_goes :
    turns_of house
    (Stepping 0 (Spawn 5 5 18 []) ∷ Admitting (reserve 2) ∷ Admitting (reserve 1) ∷ Stepping 0 (Exit 1) ∷ Retiring 0
    ∷ Admitting (reserve 16) ∷ Stepping 1 (Spawn 5 5 18 []) ∷ Retiring 1 ∷ Stepping 0 (Spawn 5 5 18 []) ∷ Retiring 0 ∷ [])
    ≡ told.Answer (Done (Pid 1)) ∷ told.NotAdmitted (NoRoom 1) ∷ told.Admitted 1 ∷ told.Answer (Done (Num 0))
    ∷ told.Retired ∷ told.Admitted 2 ∷ told.Answer (Done (Pid 1)) ∷ told.NotRetired (Alive 1) ∷ told.Gone
    ∷ told.NotRetired NoSuchNamespace ∷ []
unfolding vacant
comes_and_goes = refl

-- a frame full of red's bytes goes back with red; who is admitted over it writes a byte, asks for a hundred, and has its own
-- byte alone
nothing_is_left :
    turns_of house
    (Stepping 0 (Spawn 5 5 18 []) ∷ Stepping 0 (Pipe 1 false) ∷ Stepping 0 (Write 1 1 (replicate 4096 97)) ∷ Stepping 0 (Exit 1)
    ∷ Retiring 0 ∷ Admitting (reserve 17) ∷ Stepping 1 (Spawn 5 5 18 []) ∷ Stepping 1 (Pipe 1 false)
    ∷ Stepping 1 (Write 1 1 (98 ∷ [])) ∷ Stepping 1 (Read 1 0 100) ∷ [])
    ≡ told.Answer (Done (Pid 1)) ∷ told.Answer (Done (Fds 0 1)) ∷ told.Answer (Done (Num 4096)) ∷ told.Answer (Done (Num 0))
    ∷ told.Retired ∷ told.Admitted 1 ∷ told.Answer (Done (Pid 1)) ∷ told.Answer (Done (Fds 0 1))
    ∷ told.Answer (Done (Num 1)) ∷ told.Answer (Done (Bytes (98 ∷ []))) ∷ []
unfolding vacant
nothing_is_left = refl

-- 64 live, with nothing reserved
abbrev full : House
full = record { frames = 17; guests = replicate 64 (Some (newcomer (reserve 0))) }

-- there is no place for one more, whatever it reserves: that comes before the frames
no_place : turns_of full (Admitting (reserve 0) ∷ Admitting (reserve 18) ∷ []) ≡ told.NotAdmitted TooManyNamespaces ∷ told.NotAdmitted TooManyNamespaces ∷ []
no_place = refl

-- one goes, and one more comes, under a number of its own
one_for_another :
    turns_of full (Retiring 5 ∷ Admitting (reserve 18) ∷ Admitting (reserve 17) ∷ Admitting (reserve 0) ∷ [])
    ≡ told.Retired ∷ told.NotAdmitted (NoRoom 17) ∷ told.Admitted 64 ∷ told.NotAdmitted TooManyNamespaces ∷ []
unfolding vacant
one_for_another = refl

-- 1,023 numbers are given, and nobody lives any more: one is left, and then none, though all places are free
abbrev old : House
old = record { frames = 17; guests = replicate 1023 None }

no_number :
    turns_of old (Admitting (reserve 1) ∷ Retiring 1023 ∷ Admitting (reserve 1) ∷ [])
    ≡ told.Admitted 1023 ∷ told.Retired ∷ told.NotAdmitted TooManyNamespaces ∷ []
unfolding vacant
no_number = refl

-- What a list of events in that house, with its answers, says of one namespace. Memory is wanted for the second step of number 1; and
-- number 0 is retired before its step, so nobody is told anything of that

abbrev events : List Event
events =
    Admitting (reserve 2) ∷ Retiring 0 ∷ Admitting (reserve 1) ∷ Stepping 1 (Spawn 5 5 18 []) ∷ Stepping 1 (Pipe 1 false)
    ∷ Stepping 0 (Spawn 5 5 18 []) ∷ Stepping 1 (Exit 1) ∷ Retiring 1 ∷ []

abbrev answers : List EventAnswer
answers =
    told.NotAdmitted (NoRoom 1) ∷ told.Retired ∷ told.Admitted 1 ∷ told.Answer (Done (Pid 1)) ∷ told.Answer NoMemory
    ∷ told.Gone ∷ told.Answer (Done (Num 0)) ∷ told.Retired ∷ []

-- it begins where it is admitted, with those limits; nobody begins where none is
begins : begun_in events answers 1 ≡ Some (newcomer (reserve 1))
begins = refl

nobody_begins : begun_in events answers 0 ≡ None
nobody_begins = refl

-- its kept steps are those that were made, and their replies stand in the same order
keeps : kept_in events answers 1 ≡ Spawn 5 5 18 [] ∷ Exit 1 ∷ []
keeps = refl

is_told : replies_in events answers 1 ≡ Pid 1 ∷ Num 0 ∷ []
is_told = refl

nobody_keeps : kept_in events answers 0 ≡ []
nobody_keeps = refl

nobody_is_told : replies_in events answers 0 ≡ []
nobody_is_told = refl
