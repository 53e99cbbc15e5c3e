use Rattle.std.proofs.Common.{◌∙◌, sym, ap}
use Rattle.pf_ring.specs.Ring.{Ring}
use Rattle.pf_ring.specs.Windows.{bytes_in}
use Rattle.pf_ring.proofs.TableLaws.{bytes_number}
use Rattle.pf_ring.proofs.ring.SlotRing.len.Goals as goal

pub returns-clause-bytes : goal.returns-clause-bytes
returns-clause-bytes c f s t =
    c.self.invariant.3 ∙ (ap (λ (r : Ring). bytes_in r.segments) c.self.view_is ∙ sym (bytes_number f c.args.self.now s t))
