use Rattle.std.proofs.Common.{◌≡◌, ℕ, List, length, sum, replicate, rules, ap, refl, ◌∙◌}
use Rattle.std.proofs.lemmas.List.{length-replicate}
use Rattle.pf_frame.proofs.CountedLaws.{sum_none}
use Rattle.pf_pool.proofs.OwnedLaws.{fresh_pool, fresh_idle}
use Rattle.pf_pool.proofs.pool.FramePool.within.Goals as goal

pub invariant_of-result : goal.invariant_of-result
invariant_of-result c =
    let owners : c.in_ok-owners.owners.items ≡ replicate {A = ℕ} (length c.args.frames.items) 0 = search rules in
    let held : c.in_ok-held.held.items ≡ replicate {A = ℕ} (length c.args.reserves.items) 0 = search rules in
    record { kept = fresh_pool _ _ _ _ _ owners c.in_ok-table.ensures.counts held c.requires.reserved }

pub returns : goal.returns
returns c =
    let held : c.in_ok-held.held.items ≡ replicate {A = ℕ} (length c.args.reserves.items) 0 = search rules in
    record {
      reserved = refl;
      all = ap (λ (xs : List ℕ). length xs) c.in_ok-table.ensures.counts ∙ length-replicate {A = ℕ} (length c.args.frames.items) 0;
      none = ap (λ (xs : List ℕ). sum xs) held ∙ sum_none (length c.args.reserves.items);
      idle = λ ns. fresh_idle _ ns _ _ _ _ c.in_ok-table.ensures.counts;
    }
