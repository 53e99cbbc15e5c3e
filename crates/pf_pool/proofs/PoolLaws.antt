-- Laws of a pool.

use Rattle.std.proofs.Common.{◌≡◌, ◌≢◌, ℕ, slice_index, arith, ap}
use Rattle.pf_frame.specs.Sound.{counted_within, is_sound, is_census, pages_whole}
use Rattle.pf_frame.specs.Live.{IsSound, Census}
use Rattle.pf_pool.specs.declared.pool.FramePool.{FramePool}
use Rattle.pf_pool.specs.Owned.{mine, PoolRest}
use Rattle.pf_pool.proofs.OwnedLaws.{sees_same}
use Rattle.pf_pool.specs.Pool.{pool_live, pool_rest, frames_of}

-- another namespace sees what it saw
pub same_view : (old new : FramePool) (ns m : ℕ) → pool_rest new ns ≡ pool_rest old ns → m ≢ ns → pool_live new m ≡ pool_live old m
same_view old new ns m e ne = sees_same m ns _ _ _ _ _ _ _ _ ne (ap (λ (r : PoolRest). r.others m) e)

-- the reservations stay, and so does the number of frames
pub same_reserves : (old new : FramePool) (ns : ℕ) → pool_rest new ns ≡ pool_rest old ns → new.reserves.items ≡ old.reserves.items
same_reserves old new ns e = ap (λ (r : PoolRest). r.reserves) e

pub same_frames : (old new : FramePool) (ns : ℕ) → pool_rest new ns ≡ pool_rest old ns → frames_of new ≡ frames_of old
same_frames old new ns e = ap (λ (r : PoolRest). r.frames) e

-- a namespace holds as many frames as its door says
pub held_is : (p : FramePool) (ns : ℕ) → (pool_live p ns).held ≡ slice_index p.held.items ns
held_is p ns = p.kept.each ns
