use Rattle.std.proofs.Common.{ℕ, ◌<◌, length, get_or}
use Rattle.std.specs.Prelude.{slice_index}
use Rattle.pf_service.specs.Seats.{OneSeat, IsGiven}
use Rattle.pf_service.proofs.given.are_given.Given as goal

abbrev pub invariant-loop-seat : goal.invariant-loop-seat
invariant-loop-seat l = (k : ℕ) (d : OneSeat) → k < l.seat-index → (get_or l.seats k d).ns < length l.given

abbrev pub invariant-loop-ns : goal.invariant-loop-ns
invariant-loop-ns l = (n : ℕ) → n < l.ns → IsGiven n (slice_index l.given n) l.seats
