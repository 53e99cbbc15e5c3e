-- A namespace's limits (pipe(7), "/proc files"; the reservation is this profile's own).

use Rattle.std.specs.Prelude.{ℕ, Bool, nat_le, nat_lt, ◌&&◌, not, if◌then◌else◌, Result, Ok, Err}
use Rattle.std.specs.Int.{is_power_of_two}
use Rattle.pf_base.specs.declared.TheConstants.{MAX_RESERVE, LEAST_PIPE_MAX_SIZE, MAX_PIPE_MAX_SIZE}
use Rattle.pf_base.specs.declared.config.ConfigFault.{ConfigFault}
use Rattle.pf_base.specs.declared.config.ConfigFault.TheVariants.{ReserveTooLarge, BadMax}

-- reserve: the reservation in frames;  soft, hard: pipe-user-pages-soft and -hard in pages, 0 is no limit;  max:
-- pipe-max-size in bytes
pub record Limits : Type 0 where
  pub reserve : ℕ
  pub soft : ℕ
  pub hard : ℕ
  pub max : ℕ

-- a power of two in its range
abbrev pub is_max : ℕ → Bool
is_max max = nat_le LEAST_PIPE_MAX_SIZE max && nat_le max MAX_PIPE_MAX_SIZE && is_power_of_two max

-- the ranges of a reservation and a pipe-max-size
abbrev pub is_config : ℕ → ℕ → Bool
is_config reserve max = nat_le reserve MAX_RESERVE && is_max max

-- the limits that four numbers are, or the first fault
abbrev pub config_of : ℕ → ℕ → ℕ → ℕ → Result Limits ConfigFault
config_of reserve soft hard max =
    if nat_lt MAX_RESERVE reserve then Err ReserveTooLarge
    else if not (is_max max) then Err BadMax
    else Ok (record { reserve = reserve; soft = soft; hard = hard; max = max })
