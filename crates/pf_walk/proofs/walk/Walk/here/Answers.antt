use Rattle.std.proofs.Common.{sym, ◌∙◌, subst}
use Rattle.pf_walk.specs.Walks.{Stands}
use Rattle.pf_walk.proofs.Cuts.{no_items}
use Rattle.pf_walk.proofs.WalkLaws.{last_stands, root_stands}
use Rattle.pf_walk.proofs.walk.Walk.here.Goals as goal

pub returns-in-Some : goal.returns-in-Some
returns-in-Some g c =
    let cut = sym c.as_slice.ensures.value ∙ c.in-Some.ensures.cases.0 in
    last_stands c.args.self.now.root.now c.args.self.now.names.items c.in-Some.field-0-1.now c.in-Some.node.now (subst (λ l. Stands c.args.self.now.root.now c.args.self.now.names.items l) cut c.requires.stands)

pub returns-in-None : goal.returns-in-None
returns-in-None g c =
    let none = sym c.as_slice.ensures.value ∙ no_items c.as_slice.result.now c.in-None.ensures.cases in
    root_stands c.args.self.now.root.now c.args.self.now.names.items (subst (λ l. Stands c.args.self.now.root.now c.args.self.now.names.items l) none c.requires.stands)
