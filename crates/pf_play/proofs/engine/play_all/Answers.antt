-- The hub opens with as many names as the script has space lines.
use Rattle.std.proofs.Common.{rules, ap, arith, sym, subst, ◌≡◌, ◌∙◌, ℕ, List, length, take}
use Rattle.std.proofs.lemmas.List.{length-map, length-take}
use Rattle.pf_base.specs.Limits.{Limits}
use Rattle.pf_play.specs.Houses.{opening_limits}
use Rattle.pf_play.specs.Numbers.{numbers_from}
use Rattle.pf_play.specs.Trees.{AreTheirs}
use Rattle.pf_play.proofs.engine.play_all.Goals as goal

pub play_lines-requires-clause-numbers : goal.play_lines-requires-clause-numbers
play_lines-requires-clause-numbers g c =
    let script = c.args.script.now in
    let many : script.opening ≡ length (opening_limits script) =
    sym (length-map (take script.opening script.spaces) (λ (s : List ℕ × Limits). s.1)
    ∙ omega (arith, length-take script.opening script.spaces, c.opening.ensures.opening, c.opening.ensures.most)) in
    c.in_ok-numbers.ensures.numbers ∙ ap (numbers_from 0) (c.opening.ensures.opening ∙ many)

pub play_lines-requires-clause-theirs : goal.play_lines-requires-clause-theirs
play_lines-requires-clause-theirs g c =
    let script = c.args.script.now in
    let many : script.opening ≡ length (opening_limits script) =
    sym (length-map (take script.opening script.spaces) (λ (s : List ℕ × Limits). s.1)
    ∙ omega (arith, length-take script.opening script.spaces, c.opening.ensures.opening, c.opening.ensures.most)) in
    subst (λ ns. AreTheirs c.args.trees.now ns c.in_ok-hub.hub)
    (sym (c.in_ok-numbers.ensures.numbers ∙ ap (numbers_from 0) (c.opening.ensures.opening ∙ many)))
    c.in_ok-hub.ensures.theirs

pub returns-clause-told : goal.returns-clause-told
returns-clause-told g c = search rules steps 2000000

pub returns-clause-run : goal.returns-clause-run
returns-clause-run g c = search rules steps 2000000
