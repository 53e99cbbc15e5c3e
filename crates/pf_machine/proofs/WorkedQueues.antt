-- Examples by computation: short queues.

use Rattle.std.specs.Prelude.{◌≡◌, [], ◌∷◌, refl}
use Rattle.pf_machine.specs.Queue.{Queue, empty, bytes_of, room_of, put, after_take, tee_number, after_tee, after_splice}
use Rattle.pf_base.specs.Capacities.{pages_for}

-- "hello" in a pipe of 16 slots
abbrev hello : Queue
hello = put (empty 16) (104 ∷ 101 ∷ 108 ∷ 108 ∷ 111 ∷ [])

-- a cut segment keeps its rest and its room
hello-cut : after_take hello 2 ≡ record { capacity = 16; segments = record { bytes = 108 ∷ 108 ∷ 111 ∷ []; room = 4091 } ∷ [] }
hello-cut = refl

-- "hel" copied into another pipe, and "!" written to the first one
tee-copies : after_tee hello (empty 16) 3 ≡ record { capacity = 16; segments = record { bytes = 104 ∷ 101 ∷ 108 ∷ []; room = 0 } ∷ [] }
tee-copies = refl

tee-leaves : bytes_of (put hello (33 ∷ [])) ≡ 104 ∷ 101 ∷ 108 ∷ 108 ∷ 111 ∷ 33 ∷ []
tee-leaves = refl

-- "he" moved into a pipe of one slot leaves no room there, and the cut segment its own
splice-moves : after_tee hello (empty 1) 2 ≡ record { capacity = 1; segments = record { bytes = 104 ∷ 101 ∷ []; room = 0 } ∷ [] }
splice-moves = refl

splice-takes : after_splice hello (empty 1) 2 ≡ record { capacity = 16; segments = record { bytes = 108 ∷ 108 ∷ 111 ∷ []; room = 4091 } ∷ [] }
splice-takes = refl

splice-fills : room_of (after_tee hello (empty 1) 2) ≡ 0
splice-fills = refl

-- a tee takes at most as many segments as there are free slots
tee-slots : tee_number (record { capacity = 4; segments = record { bytes = 1 ∷ []; room = 0 } ∷ record { bytes = 2 ∷ 3 ∷ []; room = 0 } ∷ [] }) (empty 1) 9 ≡ 1
tee-slots = refl

-- the least power of two of pages
one-page : pages_for 0 ≡ 1
unfolding pages_for
one-page = refl

one-page-full : pages_for 4096 ≡ 1
unfolding pages_for
one-page-full = refl

two-pages : pages_for 4097 ≡ 2
unfolding pages_for
two-pages = refl

many-pages : pages_for 1048577 ≡ 512
unfolding pages_for
many-pages = refl
