use Rattle.std.proofs.Common.{refl, sym, ◌∙◌}
use Rattle.pf_machine.specs.Files.{rmdir}
use Rattle.pf_tables.proofs.Files.{changed, changes_well, unmade}
use Rattle.pf_tables.proofs.tables.Tables.rmdir.Goals as goal

pub returns-clause-says : goal.returns-clause-says
returns-clause-says g c =
    rw c.made_reply.ensures (changed c.self.invariant.kept.tied c.self.view_is _ c.in_ok-cred.ensures _
    (λ t q. rmdir t q c.args.path.now) _ refl _ c.rmdir.result c.rmdir.ensures.changed)

pub returns-clause-wanted : goal.returns-clause-wanted
returns-clause-wanted g c none plain =
    changes_well c.self.invariant.kept.tied c.self.view_is _ c.in_ok-cred.ensures _ (λ t q. rmdir t q c.args.path.now) _
    refl (c.rmdir.ensures.wanted (unmade c.rmdir.result (sym c.made_reply.ensures ∙ none)) plain)
