use Rattle.std.proofs.Common.{refl, sym, ◌∙◌}
use Rattle.pf_tables.proofs.Common.{opens_at, pipe_of}
use Rattle.pf_tables.proofs.DescriptorsLetGo as lemmas
use Rattle.pf_tables.proofs.ProcessesFork.{nothing}
use Rattle.pf_tables.proofs.tables.descriptors.let_go.Goals as goal

pub returns-in_default-clause-left : goal.returns-in_default-clause-left
returns-in_default-clause-left c =
    lemmas.absent c.requires _ _ c.take_key.ensures.rows
    (sym c.take_key.ensures.key ∙ nothing c.take_key.result c.in_default.not-Some)

pub unname-requires : goal.unname-requires
unname-requires c =
    record {
      named =
          lemmas.has_names c.requires _ _ c.take_key.ensures.rows (sym c.take_key.ensures.key ∙ c.in-Some.is);
    }

pub returns-in_default-unname-clause-left : goal.returns-in_default-unname-clause-left
returns-in_default-unname-clause-left c =
    lemmas.still_named c.requires _ _ c.take_key.ensures.rows (sym c.take_key.ensures.key ∙ c.in-Some.is)
    c.in_default-unname.ensures.more c.in_default-unname.ensures.items

pub drop_end-pipe-requires-clause-stands : goal.drop_end-pipe-requires-clause-stands
drop_end-pipe-requires-clause-stands c =
    lemmas.pipe_stands c.requires _ _ c.take_key.ensures.rows (sym c.take_key.ensures.key ∙ c.in-Some.is)
    c.in-Some-unname.ensures.last c.in-Some-unname.ensures.gone

pub drop_end-pipe-requires-clause-counted : goal.drop_end-pipe-requires-clause-counted
drop_end-pipe-requires-clause-counted c =
    lemmas.pipe_counts c.requires _ _ c.take_key.ensures.rows (sym c.take_key.ensures.key ∙ c.in-Some.is)
    c.in-Some-unname.ensures.last c.in-Some-unname.ensures.gone

pub returns-clause-left : goal.returns-clause-left
returns-clause-left c =
    lemmas.ended c.requires _ _ c.take_key.ensures.rows (sym c.take_key.ensures.key ∙ c.in-Some.is)
    c.in-Some-unname.ensures.last c.in-Some-unname.ensures.gone _ c.drop_end-pipe.ensures.items

pub returns-clause-pipe : goal.returns-clause-pipe
returns-clause-pipe c =
    lemmas.went c.requires _ _ c.take_key.ensures.rows (sym c.take_key.ensures.key ∙ c.in-Some.is)
    c.in-Some-unname.ensures.last c.in-Some-unname.ensures.gone _ c.drop_end-pipe.ensures.items pipe_of
    (λ place p. refl) _ c.drop_end-pipe.ensures.pipe

pub returns-clause-opens : goal.returns-clause-opens
returns-clause-opens c =
    lemmas.went c.requires _ _ c.take_key.ensures.rows (sym c.take_key.ensures.key ∙ c.in-Some.is)
    c.in-Some-unname.ensures.last c.in-Some-unname.ensures.gone _ c.drop_end-pipe.ensures.items opens_at
    (λ place p. refl) _ c.drop_end-pipe.ensures.pipe
