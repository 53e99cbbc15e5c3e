-- A depot, and the loans that are made with it.

use Rattle.std.specs.Prelude.{◌≡◌, ℕ, ◌+◌, List, length, sum}
use Rattle.pf_frame.specs.declared.frame.Frame.{Frame}
use Rattle.pf_depot.specs.declared.depot.Depot.{Depot}
use Rattle.pf_depot.specs.declared.loans.Loans.{Loans}
use Rattle.pf_depot.specs.AllLoans.{AreIdle}

-- how many frames are free
abbrev pub free_of : Depot → ℕ
free_of d = length d.free.items

-- how many frames there are, free and on loan
abbrev pub frames_of : Depot → ℕ
frames_of d = d.all

-- how many frames no living namespace has reserved
abbrev pub slack_of : Depot → ℕ
slack_of d = d.slack

-- a depot of these frames, all of them free, and loans for each of these reservations; what is left of the frames is
-- slack
pub record IsFresh (d : Depot) (loans : List Loans) (frames : List Frame) (reserves : List ℕ) : Type 0 where
  pub free : d.free.items ≡ frames
  pub all : frames_of d ≡ free_of d
  pub slack : slack_of d + sum reserves ≡ frames_of d
  pub idle : AreIdle loans reserves

-- so many frames of the slack are reserved by a namespace more, and no frame moves
pub record SetsAside (old new : Depot) (reserve : ℕ) : Type 0 where
  pub free : new.free.items ≡ old.free.items
  pub frames : frames_of new ≡ frames_of old
  pub slack : slack_of new + reserve ≡ slack_of old

-- what no loan changes: how many frames there are, and the slack
pub record DepotRest : Type 0 where
  pub frames : ℕ
  pub slack : ℕ
