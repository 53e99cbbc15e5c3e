-- It chains two changes: the read is made as a first one would be, and where it has to wait the process parks again.

use Rattle.std.proofs.Common.{Err, refl, sym, ap, subst, rules, ◌∙◌}
use Rattle.pf_space.proofs.Common.{Namespace, Owns}
use Rattle.pf_space.proofs.ParkedInto as lemmas
use Rattle.pf_space.proofs.space.Space.fill_again.Goals as goal

pub returns-in_err-number-clause-answers : goal.returns-in_err-number-clause-answers
returns-in_err-number-clause-answers g c before woken =
    let told =
    lemmas.is_refused g.F.Frames.live c.self.view_is _ woken {told = Err c.in_err-number.field-0.0} _
    c.in_err-number.ensures.read.0
    (subst (Owns (g.F.Frames.live c.args.door.now)) (sym c.self.view_is) c.requires.door.owns) refl
    c.in_err-number.ensures.read.1 in
    search rules

pub returns-in-Moved-clause-answers : goal.returns-in-Moved-clause-answers
returns-in-Moved-clause-answers g c before woken =
    lemmas.comes g.F.Frames.live c.self.view_is _ woken _ c.in_ok-number.ensures.read c.in-Moved.is refl

pub returns-in-EndOfFile-clause-answers : goal.returns-in-EndOfFile-clause-answers
returns-in-EndOfFile-clause-answers g c before woken =
    lemmas.ends g.F.Frames.live c.self.view_is _ woken _ c.in_ok-number.ensures.read c.in-EndOfFile.is refl

pub returns-clause-answers : goal.returns-clause-answers
returns-clause-answers g c before woken =
    lemmas.waits_on g.F.Frames.live c.self.view_is _ woken _ c.in_ok-number.ensures.read c.in-WouldBlock.is
    c.park.ensures refl

pub returns-clause-owns : goal.returns-clause-owns
returns-clause-owns g c =
    let owns = c.in_ok-number.ensures.read.owns in
    subst (Owns (g.F.Frames.live c.read_truncated.new.door)) (sym c.park.ensures)
    (record { joined = owns.joined; reserve = owns.reserve })

pub returns-clause-limits : goal.returns-clause-limits
returns-clause-limits g c =
    ap (λ (n : Namespace). n.limits) c.park.ensures ∙ c.in_ok-number.ensures.read.limits
    ∙ ap (λ (n : Namespace). n.limits) c.self.view_is
