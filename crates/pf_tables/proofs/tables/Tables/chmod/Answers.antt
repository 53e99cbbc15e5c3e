use Rattle.std.proofs.Common.{sym, ◌∙◌}
use Rattle.pf_machine.specs.Files.{chmod}
use Rattle.pf_tables.proofs.Files.{changed, changes_well, unmade}
use Rattle.pf_tables.proofs.tables.Tables.chmod.Goals as goal

pub returns-clause-says : goal.returns-clause-says
returns-clause-says g c =
    rw c.made_reply.ensures (changed c.self.invariant.kept.tied c.self.view_is _ c.in_ok-cred.ensures
    c.self.inside.files_made (λ t q. chmod t q c.args.path.now c.args.bits) _ (rw (← c.in_ok-mode.ensures)) _
    c.chmod.result c.chmod.ensures.changed)

pub returns-clause-wanted : goal.returns-clause-wanted
returns-clause-wanted g c none plain =
    changes_well c.self.invariant.kept.tied c.self.view_is _ c.in_ok-cred.ensures c.self.inside.files_made
    (λ t q. chmod t q c.args.path.now c.args.bits) _ (rw (← c.in_ok-mode.ensures))
    (c.chmod.ensures.wanted (unmade c.chmod.result (sym c.made_reply.ensures ∙ none)) plain)
