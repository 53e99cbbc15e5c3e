-- So many numbers stand there, and there is room for the others.
use Rattle.std.proofs.Common.{◌≡◌, ◌≤◌, length}
use Rattle.std.specs.Vec.{vec_capacity}
use Rattle.pf_play.specs.Numbers.{numbers_from}
use Rattle.pf_play.proofs.engine.first_numbers.Given as goal

abbrev pub invariant-loop-number : goal.invariant-loop-number
invariant-loop-number l = record {
  numbers : l.numbers.items ≡ numbers_from 0 l.number;
  many : length l.numbers.items ≡ l.number;
  room : l.most ≤ vec_capacity l.numbers;
}
