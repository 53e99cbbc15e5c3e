-- The door of a namespace leaves all others; and the namespace does as it says.
use Rattle.std.proofs.Common.{◌<◌, ◌∙◌, sym, subst, rules}
use Rattle.pf_pool.specs.Pool.{pool_live}
use Rattle.pf_hub.specs.Stepped.{Moved}
use Rattle.pf_plain.proofs.PlainLemmas.{here, same_rest, same_door, owned_before}
use Rattle.pf_plain.proofs.PlainLemmas.{plain_after, plain_stepped, plain_same}
use Rattle.pf_plain.proofs.plain.Plain.step_in.Goals as goal

pub door-door-requires : goal.door-door-requires
door-door-requires g c =
    subst (λ k. c.args.ns < k) (sym c.self.invariant.doors) (here c.self.invariant c.self.view_is c.requires.lives)

pub index_mut-requires : goal.index_mut-requires
index_mut-requires g c = let h = here c.self.invariant c.self.view_is c.requires.lives in search rules

pub step-requires : goal.step-requires
step-requires g c =
    let is_here = here c.self.invariant c.self.view_is c.requires.lives in
    record {
      door = record {
        fact = rw (c.door-door.ensures.ns, c.door-door.ensures.pool, c.self.invariant.doors) is_here;
        owns =
            rw (c.door-door.ensures.ns, c.door-door.ensures.pool)
            (owned_before is_here c.self.invariant c.index_mut.ensures.value);
      };
    }

pub invariant_of-self : goal.invariant_of-self
invariant_of-self g c =
    let is_here = here c.self.invariant c.self.view_is c.requires.lives in
    let moved : Moved (pool_live c.door-door.result.pool.now c.door-door.result.ns)
    (pool_live c.step.new.door.pool.now c.step.new.door.ns) c.index_mut.result.now c.step.new.self c.args.step.now
    c.step.result =
    record {
      owns = c.step.ensures.owns;
      limits = c.step.ensures.limits;
      answers = c.step.ensures.answers;
      succeeds = c.step.ensures.succeeds;
    } in
    let pool = c.step.new.door.pool.now in
    let rest = same_rest pool c.door-door.ensures.ns c.door-door.ensures.pool c.step.ensures.door.rest in
    let door = same_door pool c.door-door.ensures.ns c.door-door.ensures.pool c.step.ensures.door.rest moved in
    plain_after is_here c.self.invariant c.index_mut.ensures.value pool rest door

pub returns-clause-stepped : goal.returns-clause-stepped
returns-clause-stepped g c =
    let is_here = here c.self.invariant c.self.view_is c.requires.lives in
    let moved : Moved (pool_live c.door-door.result.pool.now c.door-door.result.ns)
    (pool_live c.step.new.door.pool.now c.step.new.door.ns) c.index_mut.result.now c.step.new.self c.args.step.now
    c.step.result =
    record {
      owns = c.step.ensures.owns;
      limits = c.step.ensures.limits;
      answers = c.step.ensures.answers;
      succeeds = c.step.ensures.succeeds;
    } in
    let pool = c.step.new.door.pool.now in
    let rest = same_rest pool c.door-door.ensures.ns c.door-door.ensures.pool c.step.ensures.door.rest in
    let door = same_door pool c.door-door.ensures.ns c.door-door.ensures.pool c.step.ensures.door.rest moved in
    plain_stepped is_here c.self.invariant c.index_mut.ensures.value pool rest door c.self.view_is

pub returns-clause-unchanged : goal.returns-clause-unchanged
returns-clause-unchanged g c =
    λ e.
    let same = c.step.ensures.unchanged e in
    let is_here = here c.self.invariant c.self.view_is c.requires.lives in
    plain_same is_here c.self.invariant c.index_mut.ensures.value c.step.new.door.pool.now c.step.new.self
    ((λ i. (same.1 i).pool.now) ∙ c.door-door.ensures.pool) same.0 c.self.view_is
