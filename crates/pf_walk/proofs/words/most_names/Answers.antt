use Rattle.std.proofs.Common.{◌∙◌, ◌+◌, ◌<◌, sym, ap, arith, cond, length}
use Rattle.std.proofs.lemmas.List.Sums.{count_by-le-length}
use Rattle.pf_walk.specs.Room.{is_slash}
use Rattle.pf_walk.proofs.SlashLaws.{count, slashes_alone, at_most, all_slashes, another_byte}
use Rattle.pf_walk.proofs.words.most_names.Goals as goal

pub returns-then-slashes-path-clause-enough : goal.returns-then-slashes-path-clause-enough
returns-then-slashes-path-clause-enough c = slashes_alone c.args.path.now (sym c.slashes-slashes.ensures ∙ c.if-slashes-path.true)

pub returns-then-slashes-path-clause-room : goal.returns-then-slashes-path-clause-room
returns-then-slashes-path-clause-room c = sym (ap (λ b. cond b 0 (count c.args.path.now + 1)) (all_slashes c.args.path.now (sym c.slashes-slashes.ensures ∙ c.if-slashes-path.true)))

pub returns-clause-enough : goal.returns-clause-enough
returns-clause-enough c = omega (arith, c.slashes-slashes.ensures, at_most c.args.path.now, count_by-le-length is_slash c.args.path.now)

pub returns-clause-room : goal.returns-clause-room
returns-clause-room c =
    let fewer : count c.args.path.now < length c.args.path.now = omega (arith, c.slashes-slashes.ensures, c.if-slashes-path.false, count_by-le-length is_slash c.args.path.now) in
    ap (λ n. n + 1) c.slashes-slashes.ensures ∙ sym (ap (λ b. cond b 0 (count c.args.path.now + 1)) (another_byte c.args.path.now fewer))
