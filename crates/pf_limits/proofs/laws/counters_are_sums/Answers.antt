use Rattle.std.proofs.Common.{ℕ, ◌+◌, List, nat_eq, refl, ap}
use Rattle.std.specs.Map.{lookup}
use Rattle.std.specs.Prelude.{unwrap_or}
use Rattle.pf_machine.specs.Queue.{Segment, with_capacity}
use Rattle.pf_machine.specs.State.{State, Pipe, holding}
use Rattle.pf_limits.proofs.SumLaws as laws
use Rattle.pf_limits.proofs.laws.counters_are_sums.Goals as goal
use Rattle.pf_limits.specs.Sums.{AreSums, AreSumsOf}
use Rattle.pf_limits.specs.UserPages.{UserPages}

abbrev owner : Pipe Segment → ℕ
owner p = p.owner

abbrev capacity : Pipe Segment → ℕ
capacity p = p.queue.capacity

abbrev with_slots : ℕ → Pipe Segment → Pipe Segment
with_slots slots p = holding (with_capacity slots p.queue) p

-- sums over the state's pipes are sums of their capacities by owner
of : (p : UserPages) (s : State Segment ℕ) → AreSums p s → AreSumsOf owner capacity p s.pipes
of p s sums = record { users = sums.users; total = sums.total }

back : (p : UserPages) (s : State Segment ℕ) → AreSumsOf owner capacity p s.pipes → AreSums p s
back p s sums = record { users = sums.users; total = sums.total }

pub returns : goal.returns
returns c = record {
  none = λ p nobody nothing. record {
    users = λ u. ap (λ (users : List (ℕ × ℕ)). unwrap_or (lookup (nat_eq u) users) 0) nobody;
    total = nothing;
  };
  made = λ old new s pipe sums charges. back new _ (laws.made owner capacity old new s.pipes (of old s sums) pipe charges);
  gone = λ old new s n pipe sums stands charges. back new _ (laws.gone owner capacity old new s.pipes (of old s sums) n pipe stands charges);
  grown = λ old new s n pipe pages sums stands charges.
      back new _ (laws.grown owner capacity old new s.pipes (of old s sums) n pipe stands (with_slots (pipe.queue.capacity + pages) pipe) pages refl refl charges);
  shrunk = λ old new s n pipe slots pages sums stands less charges.
      back new _ (laws.shrunk owner capacity old new s.pipes (of old s sums) n pipe stands (with_slots slots pipe) pages refl less charges);
  covers = λ p s n pipe sums stands. laws.covers owner capacity p s.pipes n pipe (of p s sums) stands;
}
