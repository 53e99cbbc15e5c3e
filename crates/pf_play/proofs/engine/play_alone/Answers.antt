-- The hub opens with the name where it has a space line, and else with none.
use Rattle.std.proofs.Common.{ap, arith, sym, subst, ◌≡◌, ◌∙◌, ℕ, List, length}
use Rattle.std.proofs.lemmas.List.{length-map}
use Rattle.std.specs.Prelude.{Some}
use Rattle.pf_hub.specs.Opening.{new_tenant}
use Rattle.pf_play.specs.Houses.{lone_limits}
use Rattle.pf_play.specs.Numbers.{numbers_from}
use Rattle.pf_play.specs.Trees.{AreTheirs}
use Rattle.pf_script.specs.Places.{places_of}
use Rattle.pf_play.proofs.AloneLaws.{lone_few}
use Rattle.pf_play.proofs.WorkLaws.{many_from}
use Rattle.pf_play.proofs.engine.play_alone.Goals as goal

pub first_numbers-requires-clause-within : goal.first_numbers-requires-clause-within
first_numbers-requires-clause-within g c =
    let ls = lone_limits c.args.script.now c.args.ns in
    let given : c.namespaces.result ≡ length ls = c.namespaces.ensures.given
    ∙ ap (λ w. length w.tenants) c.in_ok-hub.ensures.opened ∙ length-map ls (λ l. Some (new_tenant l)) in
    omega (arith, given, lone_few c.args.script.now c.args.ns c.requires.exists)

pub play_lines_alone-requires-clause-numbers : goal.play_lines_alone-requires-clause-numbers
play_lines_alone-requires-clause-numbers g c =
    let ls = lone_limits c.args.script.now c.args.ns in
    let given : c.namespaces.result ≡ length ls = c.namespaces.ensures.given
    ∙ ap (λ w. length w.tenants) c.in_ok-hub.ensures.opened ∙ length-map ls (λ l. Some (new_tenant l)) in
    c.in-Ok.ensures.numbers ∙ ap (numbers_from 0) given

pub play_lines_alone-requires-clause-theirs : goal.play_lines_alone-requires-clause-theirs
play_lines_alone-requires-clause-theirs g c =
    let ls = lone_limits c.args.script.now c.args.ns in
    let given : c.namespaces.result ≡ length ls = c.namespaces.ensures.given
    ∙ ap (λ w. length w.tenants) c.in_ok-hub.ensures.opened ∙ length-map ls (λ l. Some (new_tenant l)) in
    subst (λ ns. AreTheirs c.args.trees.now ns c.in_ok-hub.hub)
    (sym (c.in-Ok.ensures.numbers ∙ ap (numbers_from 0) given)) c.in_ok-hub.ensures.theirs

pub play_lines_alone-requires-clause-room : goal.play_lines_alone-requires-clause-room
play_lines_alone-requires-clause-room g c =
    let places : length c.places.result.now ≡ length (places_of c.args.script.now.steps c.args.ns)
    = ap (λ (ps : List ℕ). length ps) c.places.ensures in
    omega (arith, places, many_from 0 c.args.script.now.steps c.args.ns, c.in_ok-answers.ensures.capacity)
