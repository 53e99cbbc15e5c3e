-- A call is tried as a first one would be.

use Rattle.std.proofs.Common.{Some, refl, ap, ◌∙◌}
use Rattle.pf_tables.specs.Rows.{call_of}
use Rattle.pf_space.proofs.ParkedResume.{resumed}
use Rattle.pf_space.proofs.space.Space.go_on.Goals as goal

pub returns-in-Write-clause-told : goal.returns-in-Write-clause-told
returns-in-Write-clause-told g c before woken =
    resumed (g.F.Frames.live c.args.door.now) {tables = before} refl c.args.pid _
    (woken.waited ∙ ap (λ x. Some (call_of x)) c.in-Write.is) woken.namespace woken.still c.write_on.ensures.told
    c.write_on.ensures.succeeds c.over.ensures

pub returns-in-Cross-clause-told : goal.returns-in-Cross-clause-told
returns-in-Cross-clause-told g c before woken =
    resumed (g.F.Frames.live c.args.door.now) {tables = before} refl c.args.pid _
    (woken.waited ∙ ap (λ x. Some (call_of x)) c.in-Cross.is) woken.namespace woken.still c.cross.ensures.told
    c.cross.ensures.succeeds c.over-in-Cross.ensures
