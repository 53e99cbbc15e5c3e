-- A pipe has another ring, after a transfer or with another size: what the tables keep then, and what their state
-- means.

use Rattle.std.proofs.Common.{◌≡◌, ℕ, ◌≤◌, List, Some, sym, ap, subst, ◌∙◌}
use Rattle.pf_tables.proofs.TablesShown.{shown_change, shown, set_same}
use Rattle.pf_tables.proofs.Common.{Window, Files, at, put_at, State, with_queue, Live, UserPages, Ring, queue_of}
use Rattle.pf_tables.proofs.Common.{reach, limit, Keeps, Joined, ring_at, slots_used, slots_of, meaning, rings_of}
use Rattle.pf_tables.proofs.Common.{Charged, ProcessRows, DescriptionRows, PipeRows, Key, Pipe, pipe_of, pipes_of}
use Rattle.pf_tables.proofs.Common.{state_of, Whole}
use Rattle.pf_machine.specs.State.{holding}
use Rattle.pf_pipe.specs.Pipe.{SameButWindows}
use Rattle.pf_tables.specs.Rows.{pipe_with}
use Rattle.pf_tables.proofs.Fifos.{fifos-put}
use Rattle.pf_tables.proofs.MeaningLaws.{meaning-with_queue}
use Rattle.pf_tables.proofs.OwnsLaws.{ring_at-pipe, others_written, joined_written, charged-with_queue}
use Rattle.pf_tables.proofs.TablesTied.{requeued}

module _ (ps : ProcessRows) (ds : DescriptionRows) (pipes : PipeRows) (files : Files) (files_made : ℕ) (k : Key)
    (r : Pipe) (stands : at pipes k.serial ≡ Some (k.slot, r)) where
  abbrev s : State Window ℕ
  s = state_of ps ds pipes files files_made

  pub there : at (pipes_of pipes) k.serial ≡ Some (pipe_of (k.slot, r))
  there = shown pipe_of pipes k.serial (k.slot, r) stands

  pub ring_is : ring_at (rings_of s) k.serial ≡ r.ring
  ring_is = ring_at-pipe (pipes_of pipes) k.serial (pipe_of (k.slot, r)) there

  module _ (r' : Pipe) where
    abbrev pub refilled : PipeRows
    refilled = put_at pipes k.serial (k.slot, r')

    -- where the pipe is as it was, all is
    pub same_pipes : r' ≡ r → refilled ≡ pipes
    same_pipes e = set_same pipes k.serial (Some (k.slot, r')) (ap (λ x. Some (k.slot, x)) e ∙ sym stands)

    -- the state has its ring at its number
    pub shows : r'.owner ≡ r.owner → r'.opens ≡ r.opens
        → state_of ps ds refilled files files_made ≡ with_queue s k.serial r'.ring
    shows owner opens =
        ap (λ xs. record s { pipes = xs })
        (shown_change pipe_of (holding r'.ring) pipes k.serial (k.slot, r) (k.slot, r') stands
        (λ i. pipe_with r'.ring (owner i) (opens i)))

    module _ (same : SameButWindows r r') where
      shows_it : state_of ps ds refilled files files_made ≡ with_queue s k.serial r'.ring
      shows_it = shows same.owner same.opens

      pub refilled-whole : {charges : UserPages} {es : List (ℕ × Key)} → Whole charges es ps ds pipes
          → Whole charges es ps ds refilled
      refilled-whole {charges} {es} whole = record {
        kept = record {
          tied = requeued k r stands r' same.readers same.writers whole.kept.tied;
          charged =
              subst (Charged charges) (sym shows_it)
              (charged-with_queue charges s k.serial (pipe_of (k.slot, r)) r'.ring there same.capacity
              whole.kept.charged);
        };
        filed = fifos-put es pipes k r r' stands same.opens whole.filed;
      }

      -- src: windows that were copied into it, none but for a tee and a splice
      module _ {f g : Live} (joined : Joined f (rings_of s)) {src : List Window}
          (bound : (q j : ℕ) → reach q src ≤ limit q (ring_at (rings_of s) j).segments)
          (keeps : Keeps src r.ring.segments r'.ring.segments f g) where
        pub refilled-joined : Joined g (rings_of (state_of ps ds refilled files files_made))
        refilled-joined =
            subst (λ (x : State Window ℕ). Joined g (rings_of x)) (sym shows_it)
            (joined_written f g s k.serial (pipe_of (k.slot, r)) r'.ring src bound joined there keeps same.capacity
            (same.fits (subst (λ (x : Ring). slots_used x ≤ slots_of x) ring_is (joined.fits k.serial))))

        pub refilled-means : meaning g (state_of ps ds refilled files files_made)
            ≡ with_queue (meaning f s) k.serial (queue_of g r'.ring)
        refilled-means =
            ap (meaning g) shows_it
            ∙ meaning-with_queue f g s k.serial r'.ring
            (others_written f g s k.serial (pipe_of (k.slot, r)) r'.ring src bound joined there keeps)
