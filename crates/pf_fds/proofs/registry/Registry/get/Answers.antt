use Rattle.std.proofs.Common.{◌≡◌, Some, None, option_copied, sym, ap, ◌∙◌}
use Rattle.pf_machine.specs.Numbered.{at}
use Rattle.pf_fds.proofs.Slots.{found, entry_value, entry_value-some, entry_value-none}
use Rattle.pf_fds.proofs.registry.Registry.get.Goals as goal

pub returns-then-entry-key : goal.returns-then-entry-key
returns-then-entry-key g c =
    let stands : at c.self.inside.slab.slots c.args.key.slot ≡ Some c.in-Some.entry.now = sym c.get.ensures ∙ ap option_copied c.in-Some.is in
    rw (← c.self.view_is)
    (sym (found c.self.inside.drawn c.self.inside.slab.slots c.args.key.slot c.args.key.serial c.self.invariant.sound
    ∙ entry_value-none c.args.key.serial _ (λ e h. let same : c.in-Some.entry.now ≡ e = cc in λ s. c.if-entry-key.true (ap (λ x. x.serial) same ∙ s))))

pub returns : goal.returns
returns g c =
    let stands : at c.self.inside.slab.slots c.args.key.slot ≡ Some c.in-Some.entry.now = sym c.get.ensures ∙ ap option_copied c.in-Some.is in
    rw (← c.self.view_is)
    (sym (found c.self.inside.drawn c.self.inside.slab.slots c.args.key.slot c.args.key.serial c.self.invariant.sound
    ∙ entry_value-some c.args.key.serial _ c.in-Some.entry.now stands c.if-entry-key.false))

pub returns-in_default : goal.returns-in_default
returns-in_default g c =
    let nothing : at c.self.inside.slab.slots c.args.key.slot ≡ None = sym c.get.ensures ∙ ap option_copied c.in_default.is in
    rw (← c.self.view_is)
    (sym (found c.self.inside.drawn c.self.inside.slab.slots c.args.key.slot c.args.key.serial c.self.invariant.sound ∙ ap (entry_value c.args.key.serial) nothing))
