-- What a shared depot and the books of its two ledgers say.

use Rattle.std.specs.Prelude.{◌≡◌, ℕ, ◌+◌, ◌-◌, ◌≤◌}
use Rattle.pf_base.specs.declared.TheConstants.{MAX_NAMESPACES}
use Rattle.pf_depot.specs.declared.depot.Depot.{Depot}
use Rattle.pf_depot.specs.Depot.{free_of, frames_of, slack_of}

-- frames: how many there are, free and on loan;  free: how many are free;  slack: how many are reserved for nobody
-- credits, held: how many all namespaces together may still take, and how many they hold
-- living, given: how many namespaces there are, and how many numbers were ever given
pub record Books : Type 0 where
  pub frames : ℕ
  pub free : ℕ
  pub slack : ℕ
  pub credits : ℕ
  pub held : ℕ
  pub living : ℕ
  pub given : ℕ

-- those of a depot
abbrev pub books_of : Depot → ℕ → ℕ → ℕ → ℕ → Books
books_of d credits held living given = record {
  frames = frames_of d;
  free = free_of d;
  slack = slack_of d;
  credits = credits;
  held = held;
  living = living;
  given = given;
}

-- those of so many frames, all of them free, of which so many are reserved by so many namespaces
abbrev pub opening_books : ℕ → ℕ → ℕ → Books
opening_books frames reserved number = record {
  frames = frames;
  free = frames;
  slack = frames - reserved;
  credits = reserved;
  held = 0;
  living = number;
  given = number;
}

-- of a ledger cut into so many parts, what is left where so many living namespaces were dealt one: no amount, and the
-- other parts. There is a part for each namespace that there may be
pub record IsUndealt (parts left amount living : ℕ) : Type 0 where
  pub none : amount ≡ 0
  pub others : parts ≤ living + left
  pub enough : MAX_NAMESPACES ≤ parts

-- one frame more is on loan, for a credit
pub record Lends (old new : Books) : Type 0 where
  pub frames : new.frames ≡ old.frames
  pub free : new.free + 1 ≡ old.free
  pub slack : new.slack ≡ old.slack
  pub credits : new.credits + 1 ≡ old.credits
  pub held : new.held ≡ old.held + 1
  pub living : new.living ≡ old.living
  pub given : new.given ≡ old.given

-- one namespace more, with the next number: its reservation passes from the slack to the credits, and no frame moves
pub record Admits (old new : Books) (reserve : ℕ) : Type 0 where
  pub frames : new.frames ≡ old.frames
  pub free : new.free ≡ old.free
  pub slack : new.slack + reserve ≡ old.slack
  pub credits : new.credits ≡ old.credits + reserve
  pub held : new.held ≡ old.held
  pub living : new.living ≡ old.living + 1
  pub given : new.given ≡ old.given + 1

-- one namespace less, which held nothing but so many frames in stock: they are free, and its reservation is slack
pub record Retires (old new : Books) (reserve stock : ℕ) : Type 0 where
  pub frames : new.frames ≡ old.frames
  pub free : new.free ≡ old.free + stock
  pub slack : new.slack ≡ old.slack + reserve
  pub credits : new.credits + reserve ≡ old.credits + stock
  pub held : new.held + stock ≡ old.held
  pub living : new.living + 1 ≡ old.living
  pub given : new.given ≡ old.given
