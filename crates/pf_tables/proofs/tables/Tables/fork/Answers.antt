use Rattle.std.proofs.Common.{◌≡◌, length, None, sym, ap, ◌∙◌, rules}
use Rattle.pf_tables.proofs.Common.{Process, at-first_free}
use Rattle.pf_tables.proofs.ProcessTableReady.{is_awake}
use Rattle.pf_tables.proofs.ProcessesFork as lemmas
use Rattle.pf_tables.proofs.Fifos.{fifos-changed}
use Rattle.pf_tables.proofs.tables.Tables.fork.Given.{Over}
use Rattle.pf_tables.proofs.tables.Tables.fork.Goals.{After-put}
use Rattle.pf_tables.proofs.tables.Tables.fork.Goals as goal

pub returns-then-i-ge-MAX_PROCESSES-clause-says : goal.returns-then-i-ge-MAX_PROCESSES-clause-says
returns-then-i-ge-MAX_PROCESSES-clause-says g c =
    let refused =
    lemmas.has_no_room c.self.invariant.kept c.self.view_is _ c.in_ok-parent.ensures c.lowest-i.ensures.lowest
    c.if-i-ge-MAX_PROCESSES.true in
    search rules

pub returns-in_err-cred-clause-wanted : goal.returns-in_err-cred-clause-wanted
returns-in_err-cred-clause-wanted g c _ =
    lemmas.has_room c.self.invariant.kept c.self.view_is _ c.in_ok-parent.ensures c.lowest-i.ensures.lowest
    c.if-i-ge-MAX_PROCESSES.false

pub returns-in_err-descriptors-clause-wanted : goal.returns-in_err-descriptors-clause-wanted
returns-in_err-descriptors-clause-wanted g c _ =
    search (rules, lemmas.has_room c.self.invariant.kept c.self.view_is c.args.pid)

pub name_all-requires-clause-stand : goal.name_all-requires-clause-stand
name_all-requires-clause-stand g c =
    rw c.in_ok-descriptors.ensures
    (lemmas.all_find c.self.invariant.kept c.self.view_is _ c.in_ok-parent.ensures)

pub name_all-requires-clause-few : goal.name_all-requires-clause-few
name_all-requires-clause-few g c = lemmas.are_few c.self.invariant.kept c.self.view_is _ c.in_ok-parent.ensures

same : (g : Over) (c : After-put g) → ◌≡◌ {A = Process}
    (record { cred = c.in_ok-cred.cred; descriptors = c.in_ok-descriptors.descriptors; parked = None })
    c.in_ok-parent.parent.now
same g c =
    let awake = is_awake c.self.inside.processes c.args.pid c.in_ok-parent.parent.now c.in_ok-parent.ensures in
    λ j. record { cred = c.in_ok-cred.ensures j; descriptors = c.in_ok-descriptors.ensures j; parked = sym awake j }

pub put-requires-clause-free : goal.put-requires-clause-free
put-requires-clause-free g c = rw c.lowest-i.ensures.lowest (at-first_free c.self.inside.processes)

pub invariant_of-self : goal.invariant_of-self
invariant_of-self g c =
    record {
      kept =
          lemmas.forked-kept c.self.invariant.kept c.self.view_is _ c.in_ok-parent.ensures c.lowest-i.ensures.lowest
          c.if-i-ge-MAX_PROCESSES.false (same g c) c.put.ensures c.name_all.ensures;
      filed =
          fifos-changed _ _ _ (ap length c.name_all.ensures
          ∙ lemmas.as_many c.in_ok-descriptors.descriptors c.self.inside.descriptions.items) c.self.invariant.filed;
    }

pub returns-clause-says : goal.returns-clause-says
returns-clause-says g c =
    lemmas.forked c.self.invariant.kept c.self.view_is _ c.in_ok-parent.ensures c.lowest-i.ensures.lowest
    c.if-i-ge-MAX_PROCESSES.false (same g c) c.put.ensures c.name_all.ensures

pub returns-in_err-descriptors-clause-refused : goal.returns-in_err-descriptors-clause-refused
returns-in_err-descriptors-clause-refused g c = search rules steps 1000000
