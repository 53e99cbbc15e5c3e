use Rattle.std.proofs.Common.{ap}
use Rattle.pf_tables.proofs.Common.{UserPages}
use Rattle.pf_tables.proofs.Fifos.{no_fifos}
use Rattle.pf_tables.proofs.ProcessTableEmpty.{nothing_tied, nothing_charged, nothing_shown}
use Rattle.pf_tables.proofs.tables.Tables.new.Goals as goal

pub invariant_of-result : goal.invariant_of-result
invariant_of-result g c = record {
  kept = record {
    tied = nothing_tied _ _ _ c.in_ok-processes.ensures c.new-3.ensures.items c.new-4.ensures.items;
    charged =
        nothing_charged _ _ _ c.in_ok-processes.ensures c.new-3.ensures.items c.new-4.ensures.items c.args.config _
        c.new-2.ensures;
  };
  filed = no_fifos _ _ _ c.new-5.ensures.empty c.new-4.ensures.items;
}

pub returns : goal.returns
returns g c =
    λ j. record {
      limits = (ap (λ (u : UserPages). u.limits) c.new-2.ensures) j;
      state =
          (nothing_shown _ _ _ c.in_ok-processes.ensures c.new-3.ensures.items c.new-4.ensures.items c.new-6.ensures) j;
    }
