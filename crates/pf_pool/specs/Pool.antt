-- A pool, as the doors of its namespaces see it.

use Rattle.std.specs.Prelude.{◌≡◌, ℕ, List, length, map, sum, slice_index}
use Rattle.pf_frame.specs.Live.{Live, IsIdle}
use Rattle.pf_frame.specs.Pages.{page_of}
use Rattle.pf_pool.specs.declared.pool.FramePool.{FramePool}
use Rattle.pf_pool.specs.Owned.{live_of, PoolRest, rest_of}

-- what the door of ns sees
abbrev pub pool_live : FramePool → ℕ → Live
pool_live p ns = live_of ns p.owners.items p.table.counts.items p.reserves.items (map page_of p.table.frames.items)

-- what no call of the door of ns changes in the pool
abbrev pub pool_rest : FramePool → ℕ → PoolRest
pool_rest p ns = rest_of ns p.owners.items p.table.counts.items p.reserves.items (map page_of p.table.frames.items)

-- how many namespaces there are: their numbers are those below it
abbrev pub namespaces_of : FramePool → ℕ
namespaces_of p = length p.reserves.items

-- how many frames there are
abbrev pub frames_of : FramePool → ℕ
frames_of p = length p.table.counts.items

-- how many frames all namespaces hold together
abbrev pub all_held : FramePool → ℕ
all_held p = sum p.held.items

-- the door's pool and namespace, and what it leaves alone
pub record DoorRest : Type 0 where
  pub name : ℕ
  pub ns : ℕ
  pub pool : PoolRest

-- a pool of so many frames, with these reservations, of which no namespace holds any
pub record IsFresh (p : FramePool) (frames : ℕ) (reserves : List ℕ) : Type 0 where
  pub reserved : p.reserves.items ≡ reserves
  pub all : frames_of p ≡ frames
  pub none : all_held p ≡ 0
  pub idle : (ns : ℕ) → IsIdle (slice_index p.reserves.items ns) (pool_live p ns)
