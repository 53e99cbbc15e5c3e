-- There is room for the answers to the lines of each name so far.
use Rattle.std.proofs.Common.{◌≡◌, ◌<◌, ◌≤◌, ℕ, [], length, get_or}
use Rattle.std.specs.List.{All}
use Rattle.std.specs.Vec.{vec_capacity}
use Rattle.std.specs.declared.alloc.Global.{Global}
use Rattle.std.specs.declared.vec.Vec.{Vec}
use Rattle.pf_script.specs.Places.{lines_of}
use Rattle.pf_script.specs.declared.told.Told.{Told}
use Rattle.pf_play.proofs.engine.no_answers.Given as goal

abbrev pub invariant-loop-ns : goal.invariant-loop-ns
invariant-loop-ns l = record {
  many : length l.own.items ≡ l.ns;
  space : length l.script.spaces ≤ vec_capacity l.own;
  none : All (λ v. v.items ≡ []) l.own.items;
  room : (n : ℕ) (d : Vec Told Global) → n < length l.own.items →
      length (lines_of l.script.steps n) ≤ vec_capacity (get_or l.own.items n d);
}
