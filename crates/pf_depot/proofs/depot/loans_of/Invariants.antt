-- Loans for the reservations so far, none of which any slot names, and room for the others.
use Rattle.std.proofs.Common.{◌≡◌, length, map, take}
use Rattle.std.specs.List.{sum_by}
use Rattle.std.specs.Vec.{vec_capacity}
use Rattle.pf_depot.specs.AllLoans.{reserved_of, shares_of}
use Rattle.pf_depot.proofs.depot.loans_of.Given as goal

abbrev pub invariant-loop-reserve : goal.invariant-loop-reserve
invariant-loop-reserve l = record {
  made : map reserved_of l.loans.items ≡ take l.reserve-index l.reserves;
  unnamed : sum_by shares_of l.loans.items ≡ 0;
  so_far : length l.loans.items ≡ l.reserve-index;
  room : vec_capacity l.loans ≡ length l.reserves;
}
