-- The places of the limits so far, by their numbers, each with its namespace behind its lock, and room for the others.
use Rattle.std.proofs.Common.{◌≡◌, ◌+◌, drop, length, map}
use Rattle.std.specs.List.{range_with_len}
use Rattle.std.specs.Vec.{vec_capacity}
use Rattle.pf_depot.specs.AllLoans.{reserved_of}
use Rattle.pf_service.specs.Places.{numbers_of}
use Rattle.pf_service.proofs.PlaceLaws.{LockedBelow}
use Rattle.pf_service.proofs.opening.places_of.Given as goal

abbrev pub invariant-loop-config : goal.invariant-loop-config
invariant-loop-config g l = record {
  numbered : numbers_of l.places.items ≡ range_with_len 0 (length l.places.items);
  reserved : map (λ a. reserved_of a.loans) l.allotments.rest.items ≡ map (λ e. e.0.reserve) l.config-iterator.rest.items;
  all : length l.places.items + length l.config-iterator.rest.items ≡ length l.fn.configs.items;
  rest : drop (length l.places.items) l.fn.configs.items ≡ l.config-iterator.rest.items;
  locked : LockedBelow (λ n log. g.L.Locks.locked l.fn.way n g.row.A.Denot log) l.fn.configs.items (length l.places.items);
  room : vec_capacity l.places ≡ length l.fn.configs.items;
}
