use Rattle.std.proofs.Common.{◌≡◌, ℕ, List, length, ap, ◌∙◌, subst}
use Rattle.std.proofs.lemmas.List.{length-replicate}
use Rattle.pf_frame.specs.Live.{IsIdle}
use Rattle.pf_frame.proofs.LiveLaws.{is_idle}
use Rattle.pf_frame.specs.Own.{own_live}
use Rattle.pf_frame.proofs.own.OwnFrames.new.Goals as goal

pub returns : goal.returns
returns c =
    let size : length c.in_ok-table.table.counts.items ≡ length c.args.frames.items = ap (λ (xs : List ℕ). length xs) c.in_ok-table.ensures.counts ∙ length-replicate {A = ℕ} _ 0 in
    subst (λ (n : ℕ). IsIdle n (own_live record { table = c.in_ok-table.table })) size (is_idle (length c.args.frames.items) c.in_ok-table.table.counts.items _ c.in_ok-table.ensures.counts)
