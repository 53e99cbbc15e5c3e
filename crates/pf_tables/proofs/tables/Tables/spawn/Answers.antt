use Rattle.std.proofs.Common.{◌≡◌, true, rules}
use Rattle.pf_tables.proofs.Common.{Cred, at-first_free}
use Rattle.pf_base.specs.Credentials.{is_valid}
use Rattle.pf_tables.proofs.ProcessesSpawn as lemmas
use Rattle.pf_tables.proofs.tables.Tables.spawn.Given.{Over}
use Rattle.pf_tables.proofs.tables.Tables.spawn.Goals.{After-lowest-i}
use Rattle.pf_tables.proofs.tables.Tables.spawn.Goals as goal

abbrev asked : (g : Over) → After-lowest-i g → Cred
asked g c = record { uid = c.args.uid; gid = c.args.gid; groups = c.args.groups.now; umask = c.args.umask }

valid : (g : Over) (c : After-lowest-i g) → is_valid (asked g c) ≡ true
valid g c = search rules

pub returns-then-i-ge-MAX_PROCESSES-clause-says : goal.returns-then-i-ge-MAX_PROCESSES-clause-says
returns-then-i-ge-MAX_PROCESSES-clause-says g c =
    let h = (goal.at.returns-then-i-ge-MAX_PROCESSES-clause-says g c).After-lowest-i in
    let refused =
    lemmas.no_spawn c.self.invariant.kept.tied c.self.view_is c.lowest-i.ensures.lowest (asked g h) (valid g h)
    c.if-i-ge-MAX_PROCESSES.true in
    search rules

pub returns-in_err-groups-clause-wanted : goal.returns-in_err-groups-clause-wanted
returns-in_err-groups-clause-wanted g c _ =
    let h = (goal.at.returns-in_err-groups-clause-wanted g c).After-lowest-i in
    lemmas.may_spawn c.self.invariant.kept.tied c.self.view_is c.lowest-i.ensures.lowest (asked g h) (valid g h)
    c.if-i-ge-MAX_PROCESSES.false

pub returns-in_err-descriptors-clause-wanted : goal.returns-in_err-descriptors-clause-wanted
returns-in_err-descriptors-clause-wanted g c _ =
    let h = (goal.at.returns-in_err-descriptors-clause-wanted g c).After-lowest-i in
    lemmas.may_spawn c.self.invariant.kept.tied c.self.view_is c.lowest-i.ensures.lowest (asked g h) (valid g h)
    c.if-i-ge-MAX_PROCESSES.false

pub put-requires-clause-free : goal.put-requires-clause-free
put-requires-clause-free g c = rw c.lowest-i.ensures.lowest (at-first_free c.self.inside.processes)

pub invariant_of-self : goal.invariant_of-self
invariant_of-self g c =
    let h = (goal.at.invariant_of-self g c).After-lowest-i in
    record {
      kept = record {
        tied =
            lemmas.spawned-tied c.self.invariant.kept.tied c.self.view_is c.lowest-i.ensures.lowest (asked g h)
            (valid g h) c.if-i-ge-MAX_PROCESSES.false c.in_ok-groups.ensures.ids c.in_ok-descriptors.ensures
            c.put.ensures;
        charged = c.self.invariant.kept.charged;
      };
      filed = c.self.invariant.filed;
    }

pub returns-clause-says : goal.returns-clause-says
returns-clause-says g c =
    let h = (goal.at.returns-clause-says g c).After-lowest-i in
    lemmas.spawns c.self.invariant.kept.tied c.self.view_is c.lowest-i.ensures.lowest (asked g h) (valid g h)
    c.if-i-ge-MAX_PROCESSES.false c.in_ok-groups.ensures.ids c.in_ok-descriptors.ensures c.put.ensures
