-- How the meaning of a state goes through looking up, changing and sweeping.

use Rattle.std.proofs.Common.{◌≡◌, ◌≢◌, ℕ, zero, suc, List, [], ◌∷◌, length, map, set, refl, ap, sym, ◌∙◌, subst}
use Rattle.std.specs.Prelude.{Option, Some, None, nat_lt, slice_index_or, slice_set}
use Rattle.pf_tables.proofs.TablesShown.{was}
use Rattle.pf_tables.proofs.Common.{option_map, Window, Limits, Segment, bytes_of, at, change_at, sum_of, total, ends}
use Rattle.pf_tables.proofs.Common.{itself, State, with_queue, sweep, Live, Ring, queue_of, Joined, Namespace, meaning}
use Rattle.pf_tables.proofs.Common.{pipe_meaning, ring_or, occupied, Owns, awoken, length-map, at-map, sum_of-map}
use Rattle.pf_machine.proofs.MapLaws.{keep_from-map, set-agree}
use Rattle.pf_machine.specs.State.{Pipe, holding}
use Rattle.pf_machine.specs.Sweep.{live_descriptions}
use Rattle.pf_ring.specs.Ring.{no_ring, segment_of}
use Rattle.pf_tables.specs.Meaning.{AreEmpty}
use Rattle.pf_tables.specs.Told.{Becomes}

module _ (f : Live) where
  -- the segments of all queues are the slots in use of all rings
  pub occupied-meaning : (s : State Window ℕ) → sum_of (λ p. length p.queue.segments) (meaning f s).pipes ≡ occupied s
  occupied-meaning s =
      sum_of-map (pipe_meaning f) (λ p. length p.queue.segments) s.pipes
      ∙ (λ i. sum_of (λ (p : Pipe Window). length-map p.queue.segments (segment_of f) i) s.pipes)

  -- where no ring shows a byte, no queue has one
  pub empty-meaning : (s : State Window ℕ) → AreEmpty f s → (n : ℕ) (p : Pipe Segment)
      → at (meaning f s).pipes n ≡ Some p → bytes_of p.queue ≡ []
  empty-meaning s empty n p there =
      let w = was (pipe_meaning f) s.pipes n p there in
      ap (λ (q : Pipe Segment). bytes_of q.queue) (sym w.2) ∙ empty n w.0 w.1

  pub total-meaning : (s : State Window ℕ) → total (meaning f s) ≡ sum_of (λ p. p.queue.capacity) s.pipes
  total-meaning s = sum_of-map (pipe_meaning f) (λ p. p.queue.capacity) s.pipes

  pub sweep-meaning : (s : State Window ℕ) → sweep itself (meaning f s) ≡ meaning f (sweep itself s)
  sweep-meaning s =
      ap (λ ps. record (meaning f (sweep itself s)) { pipes = ps })
      (keep_from-map (pipe_meaning f)
      (λ p. nat_lt 0 (ends itself (live_descriptions itself s.processes s.descriptions) p)) 0 s.pipes)

  pub settled-meaning : (s : State Window ℕ) → s ≡ sweep itself s → meaning f s ≡ sweep itself (meaning f s)
  settled-meaning s e = ap (meaning f) e ∙ sym (sweep-meaning s)

  -- a change that leaves the pipes
  pub pipes-left : (old new : Namespace) (s : State Window ℕ) → new.limits ≡ old.limits
      → new.state.pipes ≡ old.state.pipes → new.state ≡ sweep itself s → Owns f old → Becomes f f old new (meaning f s)
  pipes-left old new s limits pipes is owns = record {
    owns = record {
      joined = subst (λ (ps : List (Option (Pipe Window))). Joined f (map ring_or ps)) (sym pipes) owns.joined;
      reserve = ap (λ (l : Limits). l.reserve) limits ∙ owns.reserve;
    };
    limits = limits;
    state = ap (meaning f) is ∙ sym (sweep-meaning s);
  }

  pub woken-left : (old new : Namespace) (pid : ℕ) → new ≡ record old { state = awoken old.state pid }
      → new.state ≡ sweep itself new.state → Owns f old → Becomes f f old new (awoken (meaning f old.state) pid)
  woken-left old new pid is still owns =
      pipes-left old new (awoken old.state pid) (ap (λ (n : Namespace). n.limits) is)
      (ap (λ (n : Namespace). n.state.pipes) is) (still ∙ ap (λ (n : Namespace). sweep itself n.state) is) owns

-- rings by number

pub ring_at-rings : (pipes : List (Option (Pipe Window))) (k : ℕ)
    → slice_index_or (map ring_or pipes) k no_ring ≡ ring_or (at pipes k)
ring_at-rings [] k = refl
ring_at-rings (p ∷ ps) zero = refl
ring_at-rings (p ∷ ps) (suc k) = ring_at-rings ps k

-- a ring changes, and no other ring's queue does

module _ (f g : Live) where
  -- what stands at the other numbers means the same
  pub record Others (pipes : List (Option (Pipe Window))) (n : ℕ) : Type 0 where
    pub stay : (k : ℕ) → k ≢ n → option_map (pipe_meaning g) (at pipes k) ≡ option_map (pipe_meaning f) (at pipes k)

  pub others_stay : (pipes : List (Option (Pipe Window))) (n : ℕ)
      → ((k : ℕ) → k ≢ n → queue_of g (slice_index_or (map ring_or pipes) k no_ring)
      ≡ queue_of f (slice_index_or (map ring_or pipes) k no_ring)) → Others pipes n
  others_stay pipes n h = record {
    stay = λ k ne. stays (at pipes k)
        (subst (λ (r : Ring). queue_of g r ≡ queue_of f r) (ring_at-rings pipes k) (h k ne));
  }
    where
      stays : (o : Option (Pipe Window)) → queue_of g (ring_or o) ≡ queue_of f (ring_or o)
          → option_map (pipe_meaning g) o ≡ option_map (pipe_meaning f) o
      stays None e = refl
      stays (Some p) e = ap (λ q. Some (record (pipe_meaning f p) { queue = q })) e

  -- a pipe's ring changes
  pipes-with_queue : (pipes : List (Option (Pipe Window))) (n : ℕ) (r : Ring) → Others pipes n
      → map (option_map (pipe_meaning g)) (change_at (holding r) pipes n)
      ≡ change_at (holding (queue_of g r)) (map (option_map (pipe_meaning f)) pipes) n
  pipes-with_queue pipes n r o =
      set-agree (pipe_meaning f) (pipe_meaning g) pipes n (option_map (holding r) (at pipes n)) o.stay
      ∙ ap (set (map (option_map (pipe_meaning f)) pipes) n)
      (here (at pipes n) ∙ ap (option_map (holding (queue_of g r))) (sym (at-map (pipe_meaning f) pipes n)))
    where
      here : (p : Option (Pipe Window)) → option_map (pipe_meaning g) (option_map (holding r) p)
          ≡ option_map (holding (queue_of g r)) (option_map (pipe_meaning f) p)
      here None = refl
      here (Some p) = refl

  pub meaning-with_queue : (s : State Window ℕ) (n : ℕ) (r : Ring) → Others s.pipes n
      → meaning g (with_queue s n r) ≡ with_queue (meaning f s) n (queue_of g r)
  meaning-with_queue s n r o =
      ap (λ ps. record (meaning f s) { pipes = ps }) (pipes-with_queue s.pipes n r o)

  -- a pipe goes
  pub pipes-without : (pipes : List (Option (Pipe Window))) (n : ℕ) → Others pipes n
      → map (option_map (pipe_meaning g)) (slice_set pipes n None)
      ≡ slice_set (map (option_map (pipe_meaning f)) pipes) n None
  pipes-without pipes n o = set-agree (pipe_meaning f) (pipe_meaning g) pipes n None o.stay
