-- It opens with the limits of the space lines, and each name has its own allocator.
use Rattle.std.proofs.Common.{ap, sym, ◌≡◌, ◌∙◌, length}
use Rattle.std.proofs.lemmas.List.{length-map}
use Rattle.std.proofs.lemmas.Result.{IfOk-weaker}
use Rattle.pf_hub.specs.Opening.{limits_of, new_allocators, new_hub}
use Rattle.pf_play.specs.Houses.{opening_limits}
use Rattle.pf_play.specs.Numbers.{numbers_from}
use Rattle.pf_play.proofs.EngineLaws.{if_both}
use Rattle.pf_play.proofs.TreeLaws.{first_theirs}
use Rattle.pf_play.proofs.engine.first_hub.Goals as goal

pub returns-clause-opened : goal.returns-clause-opened
returns-clause-opened g c =
    let configs = c.in_ok-configs.configs.items in
    IfOk-weaker c.hub_of.result (λ hub. hub.world ≡ new_hub (limits_of configs) (length c.args.frames.items)) _
    (λ hub is. is ∙ (λ i. new_hub (c.in_ok-configs.ensures.limits i) (c.requires.frames i))) c.hub_of.ensures.opened

pub returns-clause-theirs : goal.returns-clause-theirs
returns-clause-theirs g c =
    let configs = c.in_ok-configs.configs.items in
    let frames = c.args.script.now.frames in
    let ls = opening_limits c.args.script.now in
    let numbered : numbers_from 0 (length ls) ≡ numbers_from 0 (length configs) =
    ap (numbers_from 0) (ap (λ xs. length xs) (sym c.in_ok-configs.ensures.limits) ∙ length-map configs (λ e. e.0)) in
    if_both c.hub_of.result (λ hub. hub.world ≡ new_hub (limits_of configs) (length c.args.frames.items))
    (λ hub. hub.allocators ≡ new_allocators configs) _
    (λ hub opened stand.
    first_theirs c.args.trees.now configs (numbers_from 0 (length ls)) frames hub numbered
    (opened ∙ ap (new_hub (limits_of configs)) c.requires.frames) stand c.in_ok-configs.ensures.own)
    c.hub_of.ensures.opened c.hub_of.ensures.allocators
