-- One pid more is the one that is asked for, or can't go on; those in between wait in no call; and no process is above
-- the last one.
use Rattle.std.proofs.Common.{◌≡◌, ◌+◌, ◌-◌, ⊎_elim, sym, ◌∙◌, arith}
use Rattle.pf_tables.proofs.Common.{cases_lt}
use Rattle.pf_tables.proofs.Queries.{above_all, waits_nowhere}
use Rattle.pf_tables.proofs.tables.Tables.next_to_go_on.Goals as goal

pub loop-i-init : goal.loop-i-init
loop-i-init g c = record {
  above = λ l. c.next_waiting-i.ensures.above l;
  none = λ q above within.
      waits_nowhere c.self.invariant.kept c.self.view_is q (omega (arith, above))
      (c.next_waiting-i.ensures.between (q - 1) (omega (arith, above)) (omega (arith, above, within)));
}

pub returns-then-can_go_on : goal.returns-then-can_go_on
returns-then-can_go_on g c f sound owns = (
  omega (arith, c.loop-i.invariant.above),
  sym (c.can_go_on.ensures f sound owns) ∙ c.if-can_go_on.true,
  λ q above below. sym (c.loop-i.invariant.none q above (omega (arith, below)) f sound owns),
)

pub loop-i-preserved : goal.loop-i-preserved
loop-i-preserved g c = record {
  above = λ l. omega (arith, c.next_waiting-i-in-loop-i.ensures.above l, c.loop-i.invariant.above);
  none = λ q above within. ⊎_elim
      (λ below. c.loop-i.invariant.none q above (omega (arith, below)))
      (λ past.
      ⊎_elim
      (λ at_it.
      let same : c.loop-i.i + 1 ≡ q = omega (arith, past, at_it) in
      rw (← same)
      (λ f sound owns. sym c.if-can_go_on.false ∙ c.can_go_on.ensures f sound owns))
      (λ after.
      waits_nowhere c.self.invariant.kept c.self.view_is q (omega (arith, above))
      (c.next_waiting-i-in-loop-i.ensures.between (q - 1) (omega (arith, after)) (omega (arith, after, within))))
      (cases_lt q (c.loop-i.i + 2)))
      (cases_lt q (c.loop-i.i + 1));
}

pub returns : goal.returns
returns g c f sound owns q above =
    ⊎_elim (λ past. sym (above_all c.self.invariant.kept c.self.view_is q
    (omega (arith, c.loop-i-test.false, past)) f sound owns))
    (λ within. sym (c.loop-i.invariant.none q above within f sound owns)) (cases_lt c.loop-i.i q)
