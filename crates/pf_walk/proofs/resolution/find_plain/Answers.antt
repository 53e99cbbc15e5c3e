use Rattle.std.proofs.Common.{rules, ◌∙◌, not, nat_eq, sym, arith}
use Rattle.std.proofs.lemmas.List.Sums.{prefix_len-le-length}
use Rattle.pf_walk.proofs.Plain.{cut, cut_on, cut_last, meets_dots, stopped, arrives, goes_further}
use Rattle.pf_walk.proofs.resolution.find_plain.Goals as goal

pub split_at-requires : goal.split_at-requires
split_at-requires g c =
    omega (arith, c.before_slash.ensures, prefix_len-le-length (λ b. not (nat_eq b 47)) c.loop-node.rest.now)

pub returns-then-is_dotted-clause-dots : goal.returns-then-is_dotted-clause-dots
returns-then-is_dotted-clause-dots g c = λ none.
    let w =
    cut c.loop-node.rest.now c.split_at.result.0.now c.split_at.result.1.now c.before_slash.result c.before_slash.ensures
    c.split_at.ensures.front c.split_at.ensures.back in
    meets_dots c.args.root.now c.args.cred.now c.args.path.now c.loop-node.rest.now c.loop-node.node.now
    c.loop-node.invariant c.split_at.result.0.now w.0 w.1 (sym c.is_dotted.ensures ∙ c.if-is_dotted.true)

pub returns-in_err-node-clause-refused : goal.returns-in_err-node-clause-refused
returns-in_err-node-clause-refused g c =
    let w =
    cut c.loop-node.rest.now c.split_at.result.0.now c.split_at.result.1.now c.before_slash.result c.before_slash.ensures
    c.split_at.ensures.front c.split_at.ensures.back in
    let refused =
    stopped c.args.root.now c.args.cred.now c.args.path.now c.loop-node.rest.now c.loop-node.node.now
    c.loop-node.invariant c.split_at.result.0.now w.0 w.1 c.in_err-node.field-0.0 c.in_err-node.ensures.refused in
    search rules

pub returns-in_default-clause-reached : goal.returns-in_default-clause-reached
returns-in_default-clause-reached g c =
    arrives c.args.root.now c.args.cred.now c.args.path.now c.loop-node.rest.now c.loop-node.node.now
    c.loop-node.invariant c.split_at.result.0.now c.in_ok-node.node.now
    (cut_last c.loop-node.rest.now c.split_at.result.0.now c.split_at.result.1.now c.before_slash.result
    c.before_slash.ensures c.split_at.ensures.front c.split_at.ensures.back c.in_default.ensures.cases)
    c.in_ok-node.ensures.goes

pub loop-node-preserved : goal.loop-node-preserved
loop-node-preserved g c =
    goes_further c.args.root.now c.args.cred.now c.args.path.now c.loop-node.rest.now c.loop-node.node.now
    c.loop-node.invariant c.split_at.result.0.now c.in_ok-node.node.now c.in-Some.after.now
    (cut_on c.loop-node.rest.now c.split_at.result.0.now c.split_at.result.1.now c.before_slash.result
    c.before_slash.ensures c.split_at.ensures.front c.split_at.ensures.back c.in-Some.field-0-0.now c.in-Some.after.now
    c.in-Some.ensures.cases.0)
    c.in_ok-node.ensures.goes
