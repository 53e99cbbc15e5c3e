-- What the namespaces so far were asked and told, and how many seats they gave.
use Rattle.std.proofs.Common.{◌≡◌, ◌+◌, length}
use Rattle.std.specs.Prelude.{All}
use Rattle.std.specs.Vec.{vec_capacity}
use Rattle.pf_service.specs.Transcripts.{IsLone}
use Rattle.pf_service.proofs.place.parts_of.Given as goal

abbrev pub invariant-loop-place : goal.invariant-loop-place
invariant-loop-place g l = record {
  each : length l.transcripts.items + length l.place-iterator.rest.items ≡ length l.fn.places.items;
  all : length l.given.items + length l.place-iterator.rest.items ≡ length l.fn.places.items;
  alone : All IsLone l.transcripts.items;
  room : vec_capacity l.transcripts ≡ length l.fn.places.items;
  space : vec_capacity l.given ≡ length l.fn.places.items;
}
