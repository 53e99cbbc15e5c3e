-- It chains three changes: the call is taken from its process, the attempt is made as a first one would be, and want
-- of memory puts the call back. An open is left where it is, and tried by one call of the tables.

use Rattle.std.proofs.Common.{Some, Err, refl, sym, ap, subst, ◌∙◌}
use Rattle.pf_space.proofs.Common.{Reading, Moving, Namespace, Owns, waits_in, ended}
use Rattle.pf_space.proofs.ParkedResume as lemmas
use Rattle.pf_space.proofs.space.Space.resume.Goals as goal

pub returns-in-None-clause-told : goal.returns-in-None-clause-told
returns-in-None-clause-told g c =
    lemmas.reopened (g.F.Frames.live c.args.door.now) c.self.view_is c.args.pid c.in_ok-fd.ensures c.in-None.is
    c.requires.door.owns c.resume_open.ensures

pub returns-in-Some-clause-told : goal.returns-in-Some-clause-told
returns-in-Some-clause-told g c =
    lemmas.told_seen c.self.view_is c.args.pid
    (c.go_on.ensures.told c.self.inside.tables (lemmas.woken_for c.args.pid c.in_ok-fd.ensures c.in-Some.is))

pub returns-in-Err-NoMemory-clause-unchanged : goal.returns-in-Err-NoMemory-clause-unchanged
returns-in-Err-NoMemory-clause-unchanged g c _ =
    let woken =
    lemmas.woken_for c.args.pid c.in_ok-fd.ensures (c.in-Some-Read.is ∙ ap Some c.in-Some-Read.field-0-is) in
    let same = c.read_on.ensures.unchanged (c.in-Err-NoMemory.is ∙ ap Err c.in-Err-NoMemory.field-0-is) in
    let back =
    lemmas.restored (g.F.Frames.live c.args.door.now) c.self.view_is c.args.pid
    (Reading c.in-Some-Read.fd c.in-Some-Read.n) woken.waited woken.namespace in (
      c.park.ensures ∙ ap (λ (n : Namespace). waits_in (Some (Moving (Reading c.in-Some-Read.fd c.in-Some-Read.n))) n
          c.args.pid) (c.self-in-Some-Read.view_is ∙ same.0) ∙ back,
      same.1,
    )

pub returns-in-Err-NoMemory-clause-wants : goal.returns-in-Err-NoMemory-clause-wants
returns-in-Err-NoMemory-clause-wants g c _ =
    let woken =
    lemmas.woken_for c.args.pid c.in_ok-fd.ensures (c.in-Some-Read.is ∙ ap Some c.in-Some-Read.field-0-is) in
    lemmas.wants (g.F.Frames.live c.args.door.now) c.self.view_is c.args.pid
    (Reading c.in-Some-Read.fd c.in-Some-Read.n) woken.waited woken.namespace
    refl (λ r k. refl) (c.read_on.ensures.many (c.in-Err-NoMemory.is ∙ ap Err c.in-Err-NoMemory.field-0-is))

pub returns-in-Err-NoMemory-clause-told : goal.returns-in-Err-NoMemory-clause-told
returns-in-Err-NoMemory-clause-told g c =
    let back = returns-in-Err-NoMemory-clause-unchanged g c refl in
    record {
      owns =
          subst (λ (n : Namespace). Owns (g.F.Frames.live c.read_on.new.door) n) (sym back.0)
          (subst (λ d. Owns (g.F.Frames.live d) c.args.self.now) (sym back.1) c.requires.door.owns);
      limits = ap (λ (n : Namespace). n.limits) back.0;
      says = (back.0, ap g.F.Frames.live back.1);
    }

pub returns-in-Err-Errno-clause-told : goal.returns-in-Err-Errno-clause-told
returns-in-Err-Errno-clause-told g c =
    let woken =
    lemmas.woken_for c.args.pid c.in_ok-fd.ensures (c.in-Some-Read.is ∙ ap Some c.in-Some-Read.field-0-is) in
    lemmas.resumed (g.F.Frames.live c.args.door.now) c.self.view_is c.args.pid _ woken.waited woken.namespace
    woken.still c.read_on.ensures.told (λ e. let gap = sym (c.in-Err-Errno.is ∙ ap Err c.in-Err-Errno.field-0-is) ∙ e
    in absurd (cc)) (sym (ap ended (c.in-Err-Errno.is ∙ ap Err c.in-Err-Errno.field-0-is)))

pub returns-in-Ok-clause-told : goal.returns-in-Ok-clause-told
returns-in-Ok-clause-told g c =
    let woken =
    lemmas.woken_for c.args.pid c.in_ok-fd.ensures (c.in-Some-Read.is ∙ ap Some c.in-Some-Read.field-0-is) in
    lemmas.resumed (g.F.Frames.live c.args.door.now) c.self.view_is c.args.pid _ woken.waited woken.namespace
    woken.still c.read_on.ensures.told (λ e. let gap = sym c.in-Ok.is ∙ e in absurd (cc)) (sym (ap ended c.in-Ok.is))
