-- Who is admitted gets the next number of the hub, and by name the next place.
use Rattle.std.proofs.Common.{rules, ◌≡◌, ◌<◌, length, arith}
use Rattle.pf_hub.specs.Tenants.{house_of}
use Rattle.pf_hub.proofs.HouseLemmas.{admitted_happens, refused_happens}
use Rattle.pf_play.proofs.NumberLaws.{admit_follows, refuse_follows}
use Rattle.pf_play.proofs.TreeLaws.{come_theirs, skip_theirs}
use Rattle.pf_play.proofs.engine.admit.Goals as goal

pub returns-in-Ok-clause-follows : goal.returns-in-Ok-clause-follows
returns-in-Ok-clause-follows g c =
    let old = c.args.hub.now.world in
    let new = c.admit.new.self.world in
    let made = c.in-Ok.ensures.admitted in
    let few : length c.args.numbers.now.items < 1024 = omega (arith, c.requires.few) in
    let place : c.len-place.result ≡ length c.args.numbers.now.items = search rules in
    λ named is.
    rw (c.push_reserved.ensures.items, place)
    (admit_follows c.args.numbers.now.items (house_of old) named (house_of new) is c.args.config few c.in-Ok.number
    (admitted_happens old new c.args.config c.in-Ok.number made.0 made.1 made.2.world))

pub returns-in-Err-clause-follows : goal.returns-in-Err-clause-follows
returns-in-Err-clause-follows g c =
    let old = c.args.hub.now.world in
    let kept = c.in-Err.ensures.admitted in
    let few : length c.args.numbers.now.items < 1024 = omega (arith, c.requires.few) in
    λ named is.
    rw (c.push_reserved-in-Err.ensures.items)
    (refuse_follows c.args.numbers.now.items (house_of old) named (house_of c.admit.new.self.world) is c.args.config few
    c.in-Err.fault (rw kept.0 (refused_happens old c.args.config c.in-Err.fault kept.1)))

pub returns-in-Ok-clause-trees : goal.returns-in-Ok-clause-trees
returns-in-Ok-clause-trees g c =
    let made = c.in-Ok.ensures.admitted in
    λ trees were own.
    rw c.push_reserved.ensures.items
    (come_theirs trees c.args.numbers.now.items c.args.hub.now c.admit.new.self c.args.config c.args.tree c.in-Ok.number
    made.1 made.2 own were)

pub returns-in-Err-clause-trees : goal.returns-in-Err-clause-trees
returns-in-Err-clause-trees g c =
    λ trees were own.
    rw (c.push_reserved-in-Err.ensures.items, c.in-Err.ensures.admitted.0)
    (skip_theirs trees c.args.numbers.now.items c.args.hub.now were)
