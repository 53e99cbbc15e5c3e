-- How a namespace's frames and its rings stay together when a ring changes, a pipe comes and a pipe goes.

use Rattle.std.proofs.Common.{◌≡◌, ℕ, ◌+◌, ◌<◌, ◌≤◌, List, [], ◌∷◌, ◌++◌, length, map, refl, ap, sym, ◌∙◌, subst, arith}
use Rattle.std.proofs.Common.{set, ◌-◌, nat_eq, if◌then◌else◌}
use Rattle.std.specs.Prelude.{Option, Some, None}
use Rattle.std.proofs.lemmas.List.{get_or-set_same, map_push}
use Rattle.std.proofs.lemmas.List.Sums.{sum_by-cons}
use Rattle.pf_tables.proofs.Common.{sum_by, option_map, Limits, empty, at, clear_at, sum_of, weight, State}
use Rattle.pf_tables.proofs.Common.{with_queue, Live, IsSound, UserPages, charged_to, Ring, reach, limit}
use Rattle.pf_tables.proofs.Common.{Keeps, Stands, Window, Joined, ring_at, slots_of, slots_used, Namespace, ring_or}
use Rattle.pf_tables.proofs.Common.{rings_of, pages, Charged, occupied, Owns, set-set, length-map, map-set, at_within}
use Rattle.pf_tables.proofs.Common.{sum_of-set}
use Rattle.pf_machine.proofs.NumberedLaws.{sum_of-le}
use Rattle.pf_machine.specs.State.{Pipe, opening, holding}
use Rattle.pf_ring.specs.Ring.{no_ring}
use Rattle.pf_ring.proofs.TableLaws.{joined_after, queue_stays, joined_pushed, joined_cleared, joined_nothing}
use Rattle.pf_ring.proofs.TableLaws.{ring_stands, credits_for, held_le_used, none_held_bytes}
use Rattle.pf_tables.specs.Meaning.{AreEmpty}
use Rattle.pf_tables.proofs.MeaningLaws.{Others, others_stay, ring_at-rings}
use Rattle.pf_tables.specs.Recharging.{Recharges}

-- the ring of a pipe that is there
pub ring_at-pipe : (pipes : List (Option (Pipe Window))) (n : ℕ) (p : Pipe Window) → at pipes n ≡ Some p
    → ring_at (map ring_or pipes) n ≡ p.queue
ring_at-pipe pipes n p there = ring_at-rings pipes n ∙ ap ring_or there

-- what is summed over all rings is summed over all pipes
sum-rings : (h : Ring → ℕ) → h no_ring ≡ 0 → (pipes : List (Option (Pipe Window)))
    → sum_by h (map ring_or pipes) ≡ sum_of (λ p. h p.queue) pipes
sum-rings h none [] = refl
sum-rings h none (None ∷ ps) = omega (arith, sum_by-cons h no_ring (map ring_or ps), none, sum-rings h none ps)
sum-rings h none (Some p ∷ ps) = omega (arith, sum_by-cons h p.queue (map ring_or ps), sum-rings h none ps)

-- the slots of all rings are the pages that all pipes are charged with
pub slots-rings : (pipes : List (Option (Pipe Window)))
    → sum_by slots_of (map ring_or pipes) ≡ sum_of (λ p. p.queue.capacity) pipes
slots-rings = sum-rings slots_of refl

-- at the opening state nothing is live
pub owns_opening : (f : Live) (limits : Limits) → ((q : ℕ) → f.count q ≡ 0) → f.shares ≡ 0 → limits.reserve ≡ f.reserved
    → Owns f (record { limits = limits; state = opening })
owns_opening f limits counts shares reserve = record { joined = joined_nothing f counts shares; reserve = reserve }

-- the ring of a pipe has changed. src: windows that were copied into it, none but for a tee and a splice

module _ (f g : Live) (s : State Window ℕ) (n : ℕ) (p : Pipe Window) (r : Ring) (src : List Window)
    (bound : (q j : ℕ) → reach q src ≤ limit q (ring_at (rings_of s) j).segments)
    (joined : Joined f (rings_of s)) (there : at s.pipes n ≡ Some p)
    (keeps : Keeps src p.queue.segments r.segments f g) where
  keeps_at : Keeps src (ring_at (rings_of s) n).segments r.segments f g
  keeps_at = subst (λ (x : Ring). Keeps src x.segments r.segments f g) (sym (ring_at-pipe s.pipes n p there)) keeps

  within : n < length (rings_of s)
  within = subst (λ k. n < k) (sym (length-map s.pipes ring_or)) (at_within s.pipes n p there)

  pub others_written : Others f g s.pipes n
  others_written = others_stay f g s.pipes n (λ k ne. queue_stays f g (rings_of s) n k r src joined keeps_at ne)

  pub joined_written : r.capacity ≡ p.queue.capacity → length r.segments ≤ r.capacity
      → Joined g (rings_of (with_queue s n r))
  joined_written same fits =
      subst (Joined g) (sym (map-set ring_or s.pipes n (option_map (holding r) (at s.pipes n))
      ∙ ap (λ (o : Option (Pipe Window)). set (rings_of s) n (ring_or (option_map (holding r) o))) there))
      (joined_after f g (rings_of s) n r src within joined bound keeps_at
      (same ∙ ap slots_of (sym (ring_at-pipe s.pipes n p there))) fits)

  -- it is cleared, and its pipe is gone
  pub joined_gone : r ≡ record { capacity = p.queue.capacity; segments = [] }
      → Joined g (map ring_or (clear_at s.pipes n))
  joined_gone cleared =
      let after : Joined g (set (rings_of s) n r) =
      joined_after f g (rings_of s) n r src within joined bound keeps_at
      (ap slots_of (cleared ∙ (λ i. record {
        capacity = (sym (ring_at-pipe s.pipes n p there) i).capacity;
        segments = [];
      }))) (subst (λ (x : Ring). length x.segments ≤ x.capacity) (sym cleared) (omega arith)) in
      let bare : (ring_at (set (rings_of s) n r) n).segments ≡ [] =
      ap (λ (x : Ring). x.segments) (get_or-set_same (rings_of s) n r no_ring within ∙ cleared) in
      subst (Joined g) (set-set (rings_of s) n r no_ring ∙ sym (map-set ring_or s.pipes n None))
      (joined_cleared g (set (rings_of s) n r) n after bare)

-- one more pipe, with nothing in it

pub joined_opened : (f : Live) (pipes : List (Option (Pipe Window))) (p : Pipe Window) {slots : ℕ}
    → p.queue ≡ empty slots
    → Joined f (map ring_or pipes) → sum_of (λ (q : Pipe Window). q.queue.capacity) pipes + slots ≤ f.reserved
    → Joined f (map ring_or (pipes ++ Some p ∷ []))
joined_opened f pipes p {slots} bare joined fits =
    subst (Joined f) (ap (λ r. map ring_or pipes ++ r ∷ []) (sym bare) ∙ sym (map_push ring_or pipes (Some p)))
    (joined_pushed f (map ring_or pipes) slots joined
    (subst (λ k. k + slots ≤ f.reserved) (sym (slots-rings pipes)) fits))

-- the ring of a pipe that is there stands in the frames, and each of its free slots has a credit

pub stands_at : (f : Live) (s : State Window ℕ) (n : ℕ) (p : Pipe Window) → Joined f (rings_of s)
    → at s.pipes n ≡ Some p → Stands f p.queue.segments
stands_at f s n p joined there =
    rw (ring_at-pipe s.pipes n p there) at (ring_stands f (rings_of s) n joined)

pub credits_at : (f : Live) (s : State Window ℕ) (n : ℕ) (p : Pipe Window) → IsSound f → Joined f (rings_of s)
    → at s.pipes n ≡ Some p → f.held + (p.queue.capacity - length p.queue.segments) ≤ f.reserved
credits_at f s n p sound joined there =
    rw (ring_at-pipe s.pipes n p there) at (credits_for f (rings_of s) n sound joined)

-- the counters stay the sums where a pipe's owner is charged with what its ring has then
pub recharged : (old new : UserPages) (s : State Window ℕ) (n : ℕ) (p : Pipe Window) (r : Ring) → at s.pipes n ≡ Some p
    → Recharges old new p.owner p.queue.capacity r.capacity → Charged old s → Charged new (with_queue s n r)
recharged old new s n p r there re is =
    let q : Option (Pipe Window) = option_map (holding r) (at s.pipes n) in
    let after : q ≡ Some (holding r p) = ap (option_map (holding r)) there in
    let l = at_within s.pipes n p there in
    record {
      users = λ u.
          let h : Pipe Window → ℕ = λ (x : Pipe Window). if nat_eq x.owner u then x.queue.capacity else 0 in
          omega (arith, re.users u, is.users u, sum_of-set h s.pipes n q l, ap (weight h) there, ap (weight h) after);
      total =
          let h : Pipe Window → ℕ = λ (x : Pipe Window). x.queue.capacity in
          omega (arith, re.total, is.total, sum_of-set h s.pipes n q l, ap (weight h) there, ap (weight h) after);
    }

-- and where a ring keeps its capacity
pub charged-with_queue : (charges : UserPages) (s : State Window ℕ) (n : ℕ) (p : Pipe Window) (r : Ring)
    → at s.pipes n ≡ Some p → r.capacity ≡ p.queue.capacity → Charged charges s → Charged charges (with_queue s n r)
charged-with_queue charges s n p r there same =
    recharged charges charges s n p r there (record {
      users = λ u. ap (λ m. charged_to charges u + (if nat_eq p.owner u then m else 0)) (sym same);
      total = ap (λ m. charges.total + m) (sym same);
      limits = refl;
    })

-- nobody is charged otherwise
pub charged-same : (old new : UserPages) (owner : ℕ) (s : State Window ℕ) → Recharges old new owner 0 0 → Charged old s
    → Charged new s
charged-same old new owner s re is =
    record { users = λ u. omega (arith, re.users u, is.users u); total = omega (arith, re.total, is.total) }

-- and a pipe that goes takes its own with it
pub pages-without : (pipes : List (Option (Pipe Window))) (n : ℕ) (p : Pipe Window) → at pipes n ≡ Some p
    → sum_of (λ (q : Pipe Window). q.queue.capacity) (clear_at pipes n) + p.queue.capacity
    ≡ sum_of (λ (q : Pipe Window). q.queue.capacity) pipes
pages-without pipes n p there =
    let h : Pipe Window → ℕ = λ (q : Pipe Window). q.queue.capacity in
    omega (arith, sum_of-set h pipes n None (at_within pipes n p there), ap (weight h) there)

-- all pages are within the reservation
pub pages_within : (f : Live) (n : Namespace) → Owns f n → pages n.state ≤ n.limits.reserve
pages_within f n o =
    let slots : sum_by slots_of (rings_of n.state) ≡ pages n.state = slots-rings n.state.pipes in
    omega (arith, slots, o.joined.reserve, o.reserve)

-- the slots in use are those of all rings
pub used-rings : (pipes : List (Option (Pipe Window)))
    → sum_by slots_used (map ring_or pipes) ≡ sum_of (λ p. length p.queue.segments) pipes
used-rings = sum-rings slots_used refl

pub held_occupied : (f : Live) (n : Namespace) → IsSound f → Owns f n → f.held ≤ occupied n.state
held_occupied f n sound o = rw (used-rings n.state.pipes) at (held_le_used f (rings_of n.state) sound o.joined)

pub none_empty : (f : Live) (n : Namespace) → IsSound f → Owns f n → f.held ≡ 0 → AreEmpty f n.state
none_empty f n sound o none k p there =
    rw (ring_at-pipe n.state.pipes k p there) at (none_held_bytes f (rings_of n.state) sound o.joined none k)

-- no ring has more slots in use than it has slots, so the slots in use are within the pages
pub occupied_pages : (f : Live) (n : Namespace) → Owns f n → occupied n.state ≤ pages n.state
occupied_pages f n o = sum_of-le (λ p. length p.queue.segments) (λ p. p.queue.capacity) n.state.pipes
    (λ k p there. rw (ring_at-pipe n.state.pipes k p there) at (o.joined.fits k))
