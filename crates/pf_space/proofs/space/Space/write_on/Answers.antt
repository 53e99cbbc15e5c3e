-- It chains two changes where it waits: an attempt that put some bytes or none, and a process that parks with the
-- rest of them.

use Rattle.std.proofs.lemmas.Grind.{common_steps}
use Rattle.std.proofs.Common.{arith, ◌≡◌, ◌+◌, false, Ok, refl, sym, ap, subst, ◌∙◌}
use Rattle.pf_space.proofs.Common.{Writing, Moving, Waits, transfer_told, Namespace, meaning, Told, tried_call}
use Rattle.pf_base.specs.declared.step.Reply.TheVariants as replies
use Rattle.pf_space.proofs.ParkedTransfers.{parks, goes_on, stays_waiting}
use Rattle.pf_space.proofs.space.Space.write_on.Goals as goal
use Rattle.pf_space.proofs.space.Space.write_on.Goals.{in-Moved+else-written-n, in-WouldBlock}

pub returns-clause-told : goal.returns-clause-told
returns-clause-told g c =
    let f = g.F.Frames.live c.args.door.now in
    let after = g.F.Frames.live c.write_now.new.door in
    let x = c.args.write.bytes in
    let came = rw (c.bytes.ensures, c.written-written.ensures.written) at c.in_ok-n.ensures.wrote in
    let rest = c.match-branch-2.write in
    let waits : transfer_told (Writing c.args.fd x c.args.write.written) came.tried came.tried.progress
    ≡ Ok (Waits came.tried.state (Moving (Writing c.args.fd rest.bytes rest.written))) =
    elim c.match-branch-2.branch [
      | in-Moved+else-written-n w ↦ goes_on came.tried c.args.fd x c.args.write.written w.in-Moved.n rest
          (λ e. w.if-written-n.false (ap (λ m. m + w.in-Moved.n) c.written-written.ensures.written ∙ e
          ∙ sym w.total.ensures)) (w.write-is ∙ w.advance.ensures) (came.progress_is ∙ w.in-Moved.is)
      | in-WouldBlock w ↦ stays_waiting came.tried c.args.fd c.args.write rest w.write-is
          came.progress_is w.in-WouldBlock.is
    ] in
    subst (λ (o : Namespace). Told f after o c.park.new.self (Ok replies.Parked)
    (tried_call (meaning f o.state) c.args.pid false (Writing c.args.fd x c.args.write.written))) c.self.view_is
    (parks g.F.Frames.live came (Moving (Writing c.args.fd rest.bytes rest.written)) refl waits c.park.ensures)

pub returns-in-NoReader-clause-told : goal.returns-in-NoReader-clause-told
returns-in-NoReader-clause-told g c = grind (arith, common_steps)

pub returns-then-written-n-clause-told : goal.returns-then-written-n-clause-told
returns-then-written-n-clause-told g c = grind (arith, common_steps)
