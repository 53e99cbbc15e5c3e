use Rattle.pf_tables.proofs.Bounds as lemmas
use Rattle.pf_tables.proofs.tables.Tables.list_bound.Goals as goal

pub returns-clause-covers : goal.returns-clause-covers
returns-clause-covers g c pid path = lemmas.lists _ _ _ _ _ c.self.view_is _ c.list_bound.ensures.covers pid path
