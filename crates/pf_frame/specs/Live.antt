-- The live frames of one namespace, as its door sees them, and how each call of the door changes them.

use Rattle.std.specs.Prelude.{◌≡◌, ◌≢◌, ℕ, ◌+◌, ◌<◌, ◌≤◌, List, [], ◌++◌, length, take, drop, Contains, nat_eq}
use Rattle.std.specs.List.{IsDistinct}
use Rattle.pf_base.specs.declared.TheConstants.{PAGE_SIZE}

-- reserved: the reservation;  held: how many frames are live;  shares: the sum of all counts
-- count q: how many slots name the frame q, 0 where it isn't live;  bytes q: its bytes while it is live
pub record Live : Type 0 where
  pub reserved : ℕ
  pub held : ℕ
  pub shares : ℕ
  pub count : ℕ → ℕ
  pub bytes : ℕ → List ℕ

-- what is true of the live frames at all times
pub record IsSound (f : Live) : Type 0 where
  pub credit : f.held ≤ f.reserved
  pub spread : f.held ≤ f.shares
  pub most : (q : ℕ) → f.count q ≤ f.shares
  pub none : f.held ≡ 0 → f.shares ≡ 0
  pub whole : (q : ℕ) → 0 < f.count q → length (f.bytes q) ≡ PAGE_SIZE

-- the live frames one by one: these numbers, each once, are all whose count is above 0, and there are held of them
pub record Census (f : Live) : Type 0 where
  pub numbers : List ℕ
  pub apart : IsDistinct nat_eq numbers
  pub listed : (q : ℕ) → Contains numbers q → 0 < f.count q
  pub all : (q : ℕ) → 0 < f.count q → Contains numbers q
  pub number : length numbers ≡ f.held

-- a frame that was not live is live with count 1 and any bytes
pub record Takes (old new : Live) (no : ℕ) : Type 0 where
  pub reserved : new.reserved ≡ old.reserved
  pub held : new.held ≡ old.held + 1
  pub shares : new.shares ≡ old.shares + 1
  pub fresh : old.count no ≡ 0
  pub taken : new.count no ≡ 1
  pub counts : (q : ℕ) → q ≢ no → new.count q ≡ old.count q
  pub bytes : (q : ℕ) → 0 < old.count q → new.bytes q ≡ old.bytes q

-- a live frame's count is one higher: one more slot names it
pub record Shares (old new : Live) (no : ℕ) : Type 0 where
  pub reserved : new.reserved ≡ old.reserved
  pub held : new.held ≡ old.held
  pub shares : new.shares ≡ old.shares + 1
  pub shared : new.count no ≡ old.count no + 1
  pub counts : (q : ℕ) → q ≢ no → new.count q ≡ old.count q
  pub bytes : (q : ℕ) → 0 < old.count q → new.bytes q ≡ old.bytes q

-- a frame's count is one lower; at 0 it is live no more
pub record Releases (old new : Live) (no : ℕ) : Type 0 where
  pub reserved : new.reserved ≡ old.reserved
  pub shares : new.shares + 1 ≡ old.shares
  pub last : old.count no ≡ 1 → new.held + 1 ≡ old.held
  pub more : 1 < old.count no → new.held ≡ old.held
  pub released : new.count no + 1 ≡ old.count no
  pub counts : (q : ℕ) → q ≢ no → new.count q ≡ old.count q
  pub bytes : (q : ℕ) → 0 < new.count q → new.bytes q ≡ old.bytes q

-- the bytes xs stand in the frame from at on; nothing else changes
pub record Fills (old new : Live) (no at : ℕ) (xs : List ℕ) : Type 0 where
  pub reserved : new.reserved ≡ old.reserved
  pub held : new.held ≡ old.held
  pub shares : new.shares ≡ old.shares
  pub counts : (q : ℕ) → new.count q ≡ old.count q
  pub filled : new.bytes no ≡ take at (old.bytes no) ++ xs ++ drop (at + length xs) (old.bytes no)
  pub bytes : (q : ℕ) → q ≢ no → 0 < old.count q → new.bytes q ≡ old.bytes q

-- no frame is live, and n may be taken
pub record IsIdle (n : ℕ) (f : Live) : Type 0 where
  pub reserved : f.reserved ≡ n
  pub held : f.held ≡ 0
  pub shares : f.shares ≡ 0
  pub counts : (q : ℕ) → f.count q ≡ 0

-- the live frames of a namespace that isn't there
abbrev pub nobody : Live
nobody = record { reserved = 0; held = 0; shares = 0; count = λ q. 0; bytes = λ q. [] }
