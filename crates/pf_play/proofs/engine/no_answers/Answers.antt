use Rattle.std.proofs.Common.{rules, ◌≡◌, ◌≤◌, ℕ, List, [], length, ap, subst, sym, arith}
use Rattle.std.specs.Vec.{vec_capacity}
use Rattle.std.specs.declared.alloc.Global.{Global}
use Rattle.std.specs.declared.vec.Vec.{Vec}
use Rattle.pf_script.specs.Places.{lines_of}
use Rattle.pf_script.specs.declared.told.Told.{Told}
use Rattle.pf_play.proofs.ApartLaws.{each_push}
use Rattle.pf_play.proofs.WorkLaws.{many_from}
use Rattle.pf_play.proofs.engine.no_answers.Goals as goal

pub loop-ns-preserved : goal.loop-ns-preserved
loop-ns-preserved c =
    let steps = c.args.script.now.steps in
    let own = c.loop-ns.own.items in
    let made = c.in_ok-with_capacity.field-0 in
    let here : length (lines_of steps c.loop-ns.ns) ≤ vec_capacity made =
    omega (
      arith,
      many_from 0 steps c.loop-ns.ns,
      ap (λ (xs : List ℕ). length xs) c.places.ensures,
      c.in_ok-with_capacity.ensures.capacity,
    ) in
    record {
      many = search rules;
      space = search rules;
      none = rw c.push_reserved.ensures.items
          (each_push (λ n (v : Vec Told Global). v.items ≡ []) own made c.loop-ns.invariant.none c.in_ok-with_capacity.ensures.items);
      room = rw c.push_reserved.ensures.items
          (each_push (λ n (v : Vec Told Global). length (lines_of steps n) ≤ vec_capacity v) own made c.loop-ns.invariant.room
          (subst (λ n. length (lines_of steps n) ≤ vec_capacity made) (sym c.loop-ns.invariant.many) here));
    }
