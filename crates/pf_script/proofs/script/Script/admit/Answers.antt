use Rattle.std.proofs.Common.{◌≡◌, ℕ, [], ◌∷◌, ◌++◌, length, refl, ◌∙◌, sym}
use Rattle.std.specs.Prelude.{bytes_eq}
use Rattle.std.specs.declared.vec.Vec.{Vec}
use Rattle.std.specs.declared.alloc.Global.{Global}
use Rattle.indexmap.proofs.CallerLemmas.{insert_entry-new}
use Rattle.pf_script.specs.Named.{named}
use Rattle.pf_script.specs.declared.line.Line.TheVariants.{Admit}
use Rattle.pf_script.proofs.ScriptNames.{none_is, grown, many_named}
use Rattle.pf_script.proofs.Soundness.{admit_sound}
use Rattle.pf_script.proofs.script.Script.admit.Goals as goal
use Rattle.pf_script.proofs.script.Script.admit.Goals.{After-unwrap}

-- the map gained the name last
put : (c : After-unwrap) → named c.insert.new.self.entries ≡ named c.self.inside.spaces.entries ++ (c.args.name.now, c.args.config) ∷ []
put c =
    let fresh = rw (← c.self.view_is, ← c.in_ok-name.ensures.items) at c.requires.fresh in
    let new = insert_entry-new (λ (a b : Vec ℕ Global). bytes_eq a.items b.items) c.self.inside.spaces c.in_ok-name.name c.args.config (none_is c.in_ok-name.name.items c.self.inside.spaces.entries fresh) in
    let inserted = rw (c.unwrap.ensures, c.in_ok-reserve.ensures.entries) at c.insert.ensures.entries in
    grown c.self.inside.spaces.entries c.insert.new.self.entries c.in_ok-name.name c.args.config c.args.name.now (inserted ∙ new) c.in_ok-name.ensures.items

many : (c : After-unwrap) → c.len-place.result ≡ length (named c.self.inside.spaces.entries)
many c = c.len-place.ensures.len ∙ sym (many_named c.self.inside.spaces.entries)

-- and the line stands behind the others
kept : (c : After-unwrap) → c.push.new.self ≡ c.self.inside.steps ++ (length (named c.self.inside.spaces.entries), Admit) ∷ []
kept c = rw (← many c) c.in_ok-push.ensures.pushed

pub invariant_of-self-2 : goal.invariant_of-self-2
invariant_of-self-2 c =
    let few = rw (← c.self.view_is) at c.requires.few in
    let fresh = rw (← c.self.view_is) at c.requires.fresh in
    rw (put c, kept c) (admit_sound _ c.args.name.now c.args.config c.self.invariant fresh few)

pub returns-clause-moves : goal.returns-clause-moves
returns-clause-moves c = rw (← c.self.view_is, put c, kept c) refl
