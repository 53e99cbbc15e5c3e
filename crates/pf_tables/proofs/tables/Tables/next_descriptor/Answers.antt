use Rattle.std.proofs.Common.{sym, ap, ◌∙◌, arith}
use Rattle.pf_tables.proofs.Common.{option_map, Key}
use Rattle.pf_tables.proofs.DescriptorsLetGo.{descriptor_shown, open_shown}
use Rattle.pf_tables.proofs.tables.Tables.next_descriptor.Goals as goal

pub returns-clause-above : goal.returns-clause-above
returns-clause-above g c within = grind (arith, c.next_key.ensures.above)

pub returns-clause-stands : goal.returns-clause-stands
returns-clause-stands g c within = sym (open_shown _ _ _ c.self.view_is _ _) ∙ c.next_key.ensures.stands within

pub returns-clause-between : goal.returns-clause-between
returns-clause-between g c fd above below =
    descriptor_shown _ _ _ c.self.view_is _ fd
    ∙ ap (option_map (λ (k : Key). k.serial)) (c.next_key.ensures.between fd above below)
