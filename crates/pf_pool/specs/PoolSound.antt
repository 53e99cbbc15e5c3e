-- Proofs of what the trait `Frames` asks of a door: that what a pool's doors show is sound, and their census is one. A
-- law's proof may cite no file of its own crate's proofs/.

use Rattle.std.proofs.Common.{◌≡◌, ℕ, List, [], ◌∷◌, length, refl, arith}
use Rattle.pf_frame.specs.Sound.{counted_within, is_sound, is_census, pages_whole}
use Rattle.pf_frame.specs.Live.{IsSound, Census}
use Rattle.pf_pool.specs.Owned.{mine}
use Rattle.pf_pool.specs.declared.pool.FramePool.{FramePool}
use Rattle.pf_pool.specs.Pool.{pool_live}

pub length-mine : (ns : ℕ) (owners counts : List ℕ) → length owners ≡ length counts → length (mine ns owners counts) ≡ length counts
length-mine ns [] [] e = refl
length-mine ns [] (c ∷ counts) e = absurd (omega arith)
length-mine ns (o ∷ owners) [] e = absurd (omega arith)
length-mine ns (o ∷ owners) (c ∷ counts) e = omega (arith, length-mine ns owners counts (omega arith))

pub pool_sound : (p : FramePool) (ns : ℕ) → IsSound (pool_live p ns)
pool_sound p ns = is_sound _ (mine ns p.owners.items p.table.counts.items) _ (omega (arith, p.kept.each ns, p.kept.within ns)) (λ q some. pages_whole p.table.frames.items q (omega (arith, p.table.kept.paged, length-mine ns p.owners.items p.table.counts.items p.kept.owned, counted_within (mine ns p.owners.items p.table.counts.items) q some)))

pub pool_census : (p : FramePool) (ns : ℕ) → Census (pool_live p ns)
pool_census p ns = is_census _ (mine ns p.owners.items p.table.counts.items) _
