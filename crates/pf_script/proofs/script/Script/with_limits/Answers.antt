use Rattle.std.proofs.Common.{◌≡◌, ◌≤◌, ◌+◌, ℕ, [], ◌∷◌, ◌++◌, length, ◌∙◌, sym, arith}
use Rattle.std.specs.Prelude.{bytes_eq}
use Rattle.std.specs.declared.vec.Vec.{Vec}
use Rattle.std.specs.declared.alloc.Global.{Global}
use Rattle.indexmap.proofs.CallerLemmas.{insert_entry-new}
use Rattle.pf_script.specs.Script.{reserved}
use Rattle.pf_script.specs.Named.{named}
use Rattle.pf_script.proofs.ScriptNames.{none_is, grown, many_named}
use Rattle.pf_script.proofs.Soundness.{all_fit, space_sound, reserves}
use Rattle.pf_script.proofs.script.Script.with_limits.Goals as goal
use Rattle.pf_script.proofs.script.Script.with_limits.Goals.{After-self-1}

pub reserved_frames-requires : goal.reserved_frames-requires
reserved_frames-requires c =
    let none = rw (← c.self.view_is) at c.requires.none in
    rw (← c.self.view_is) (all_fit _ c.self.invariant none)

-- the map gained the name last
put : (c : After-self-1) → named c.insert.new.self.entries ≡ named c.self.inside.spaces.entries ++ (c.args.name.now, c.args.config) ∷ []
put c =
    let fresh = rw (← c.self.view_is, ← c.in_ok-name.ensures.items) at c.requires.fresh in
    let new = insert_entry-new (λ (a b : Vec ℕ Global). bytes_eq a.items b.items) c.self.inside.spaces c.in_ok-name.name c.args.config (none_is c.in_ok-name.name.items c.self.inside.spaces.entries fresh) in
    grown c.self.inside.spaces.entries c.insert.new.self.entries c.in_ok-name.name c.args.config c.args.name.now (c.in_ok-insert.ensures.entries ∙ new) c.in_ok-name.ensures.items

many : (c : After-self-1) → c.len.result ≡ length (named c.self.inside.spaces.entries)
many c = c.len.ensures.len ∙ sym (many_named c.self.inside.spaces.entries)

-- and the pool has the new reservation left
left : (c : After-self-1) → reserved (named c.self.inside.spaces.entries) + c.args.config.reserve ≤ c.self.inside.frames
left c =
    let sum = rw (← c.self.view_is) at c.reserved_frames.ensures.sum in
    omega (arith, sum, c.if-sum-from.false, c.from.ensures, c.from-2.ensures, c.reserve.ensures.value)

pub invariant_of-self-2 : goal.invariant_of-self-2
invariant_of-self-2 c =
    let few = rw (← c.self.view_is) at c.requires.few in
    let none = rw (← c.self.view_is) at c.requires.none in
    let fresh = rw (← c.self.view_is) at c.requires.fresh in
    rw (put c, many c) (space_sound _ c.args.name.now c.args.config c.self.invariant fresh few none (left c))

pub returns-clause-moves : goal.returns-clause-moves
returns-clause-moves c = rw (← c.self.view_is, put c, many c) (reserves _ c.args.name.now c.args.config (left c))
