-- So many places so far, by their numbers.
use Rattle.std.proofs.Common.{◌≡◌, ◌≤◌, length}
use Rattle.std.specs.List.{range_with_len}
use Rattle.pf_base.specs.declared.TheConstants.{MAX_NUMBERS}
use Rattle.pf_service.specs.Places.{numbers_of}
use Rattle.pf_service.proofs.guests.Guests.after.Given as goal

abbrev pub invariant-loop-ns : goal.invariant-loop-ns
invariant-loop-ns g l = record {
  numbered : numbers_of l.places.items ≡ range_with_len 0 (length l.places.items);
  here : length l.places.items ≡ l.ns;
  first : length l.fn.places.items ≤ l.ns;
  most : l.ns ≤ MAX_NUMBERS;
}
