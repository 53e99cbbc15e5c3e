-- The lines so far have their answers, which stand apart by name, and there is room for the others.
use Rattle.std.proofs.Common.{◌≡◌, ◌≤◌, ◌<◌, ℕ, List, length, take, drop, get_or}
use Rattle.std.specs.Vec.{vec_capacity}
use Rattle.std.specs.declared.alloc.Global.{Global}
use Rattle.std.specs.declared.vec.Vec.{Vec}
use Rattle.pf_base.specs.declared.admission.EventAnswer.{EventAnswer}
use Rattle.pf_hub.specs.Tenants.{house_of}
use Rattle.pf_script.specs.Text.{answers_of}
use Rattle.pf_script.specs.declared.told.Told.{Told}
use Rattle.pf_play.specs.Answered.{HaveRoom}
use Rattle.pf_play.specs.Houses.{first_house}
use Rattle.pf_play.specs.Trees.{AreTheirs}
use Rattle.pf_play.proofs.PlayLaws.{Running}
use Rattle.pf_play.proofs.engine.play_lines.Given as goal

abbrev pub invariant-loop-event : goal.invariant-loop-event
invariant-loop-event g l = record {
  answers : List EventAnswer;
  running : Running l.script.spaces (first_house l.script) (take l.event-index l.lines) (drop l.event-index l.lines)
      l.numbers.items (house_of l.hub.world) answers;
  many : length answers ≡ length (take l.event-index l.lines);
  names : length l.own.items ≡ length l.script.spaces;
  apart : (n : ℕ) (d : Vec Told Global) → n < length l.own.items →
      (get_or l.own.items n d).items ≡ answers_of (take l.event-index l.lines) answers n;
  room : HaveRoom l.script l.own.items;
  numbers : length l.script.spaces ≤ vec_capacity l.numbers;
  theirs : AreTheirs l.trees l.numbers.items l.hub;
}
