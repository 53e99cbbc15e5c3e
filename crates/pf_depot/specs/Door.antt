-- What a door over loans needs of its lender, and what none of its calls changes.

use Rattle.std.specs.Prelude.{ℕ, ◌+◌, ◌≤◌}
use Rattle.pf_frame.specs.Live.{Live}

-- the lender is sure to give a frame for each credit, and can take back all that are held
pub record IsCovered (loans : Live) (ready out : ℕ) : Type 0 where
  pub credits : loans.reserved ≤ ready + loans.held
  pub held : loans.held ≤ out

-- which lender and loans; the reservation; what the lender is sure to give and what is held, together; what the lender
-- can take back besides what is held; and what no call of the lender changes
pub record LoanRest (R : Type 0) : Type 0 where
  pub lender_name : ℕ
  pub loans_name : ℕ
  pub reserved : ℕ
  pub spare : ℕ
  pub owed : ℕ
  pub lender : R
