use Rattle.pf_tables.proofs.Parked.{awoken-whole, awoken-namespace, call-shown}
use Rattle.pf_tables.proofs.TablesSettled.{settled}
use Rattle.pf_tables.proofs.tables.Tables.end_wait.Goals as goal

pub invariant_of-self : goal.invariant_of-self
invariant_of-self g c =
    awoken-whole c.self.invariant c.self.view_is _ c.requires.lives c.wake.ensures.spare c.wake.ensures.rows

pub returns : goal.returns
returns g c = record {
  call = call-shown _ _ _ c.self.view_is c.args.pid c.wake.ensures.call;
  namespace =
      awoken-namespace c.self.invariant c.self.view_is _ c.requires.lives c.wake.ensures.spare
      c.wake.ensures.rows;
  swept = let whole = invariant_of-self g c in settled _ _ whole.kept.tied;
}
