-- Each namespace so far has its credits and a part of both ledgers, and the credits so far and those to come are what is
-- reserved.
use Rattle.std.proofs.Common.{◌≡◌, ◌+◌, ◌≤◌, ◌++◌, length, map}
use Rattle.std.specs.List.{sum_by}
use Rattle.std.specs.Vec.{vec_capacity}
use Rattle.pf_depot.specs.AllLoans.{held_of, reserved_of}
use Rattle.pf_depot.proofs.book.DepotBook.over.Given as goal

abbrev pub invariant-loop-own : goal.invariant-loop-own
invariant-loop-own g l = record {
  dealt : map (λ a. reserved_of a.loans) l.allotments.items ++ map reserved_of l.own-iterator.rest.items ≡ map reserved_of l.fn.loans.items;
  none : sum_by held_of l.own-iterator.rest.items ≡ 0;
  number : length l.allotments.items + length l.own-iterator.rest.items ≡ length l.fn.loans.items;
  credits : length l.allotments.items + l.credits.parts ≡ g.C.Ledger.parts;
  unspent : l.credits.amount ≡ 0;
  held : length l.allotments.items + l.held.parts ≡ g.H.Ledger.parts;
  unlent : l.held.amount ≡ 0;
  booked : l.unspent.total + sum_by reserved_of l.own-iterator.rest.items ≡ sum_by reserved_of l.fn.loans.items;
  room : length l.allotments.items + length l.own-iterator.rest.items ≤ vec_capacity l.allotments;
}
