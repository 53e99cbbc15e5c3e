-- A name that has a space line is there from the start.
use Rattle.std.proofs.Common.{◌≡◌, [], ◌∷◌, ◌++◌, true, false, ap, sym, ◌∙◌, arith}
use Rattle.std.specs.Prelude.{Bool, nat_lt, if◌then◌else◌}
use Rattle.std.proofs.lemmas.Bool.{lt-ltb, le-ltb}
use Rattle.pf_hub.specs.Opening.{limits_of}
use Rattle.pf_play.proofs.AloneLaws.{lone_start}
use Rattle.pf_play.proofs.engine.lone_configs.Goals as goal

pub returns-then-ns-opening-clause-limits : goal.returns-then-ns-opening-clause-limits
returns-then-ns-opening-clause-limits g c =
    let there : nat_lt c.args.ns c.args.script.now.opening ≡ true =
    lt-ltb c.args.ns c.args.script.now.opening (omega (arith, c.if-ns-opening.true, c.opening-opening.ensures.opening)) in
    let start = lone_start c.args.script.now c.args.ns c.config-config.result c.config-config.ensures.limits
    ∙ ap (λ (b : Bool). if b then c.config-config.result ∷ [] else []) there in
    let items = c.push_reserved.ensures.items
    ∙ ap (λ xs. xs ++ (c.config-config.result, c.args.tree) ∷ []) c.in_ok-configs.ensures.items in
    ap limits_of items ∙ sym start

pub returns-else-ns-opening-clause-limits : goal.returns-else-ns-opening-clause-limits
returns-else-ns-opening-clause-limits g c =
    let past : nat_lt c.args.ns c.args.script.now.opening ≡ false =
    le-ltb c.args.ns c.args.script.now.opening (omega (arith, c.if-ns-opening.false, c.opening-opening.ensures.opening)) in
    let start = lone_start c.args.script.now c.args.ns c.config-config.result c.config-config.ensures.limits
    ∙ ap (λ (b : Bool). if b then c.config-config.result ∷ [] else []) past in
    ap limits_of c.in_ok-configs.ensures.items ∙ sym start
