use Rattle.std.proofs.Common.{Some, ap, arith, sym, rules}
use Rattle.pf_base.specs.declared.progress.Side.TheVariants.{Read, Write}
use Rattle.pf_tables.proofs.Common.{Limits}
use Rattle.pf_tables.proofs.Transfers.{pipe_stands}
use Rattle.pf_tables.proofs.TransfersCross as lemmas
use Rattle.pf_tables.proofs.tables.Tables.cross_now.Goals as goal

pub returns-in_err-from-clause-crossed : goal.returns-in_err-from-clause-crossed
returns-in_err-from-clause-crossed g c =
    let refused =
    lemmas.no_source_end c.self.invariant c.self.view_is c.requires.door c.args.crossing c.args.pid c.args.source
    c.args.sink c.args.n (sym c.in_err-from.ensures) in
    search rules

pub returns-in_err-to-clause-crossed : goal.returns-in_err-to-clause-crossed
returns-in_err-to-clause-crossed g c =
    let refused =
    lemmas.no_sink_end c.self.invariant c.self.view_is c.requires.door c.args.crossing c.args.pid c.args.source
    c.args.sink c.args.n (sym c.in_ok-from.ensures) (sym c.in_err-to.ensures) in
    search rules

pub returns-then-from-to-clause-crossed : goal.returns-then-from-to-clause-crossed
returns-then-from-to-clause-crossed g c =
    lemmas.one_pipe c.self.invariant c.self.view_is c.requires.door c.args.crossing c.args.pid c.args.source c.args.sink
    c.args.n (sym c.in_ok-from.ensures) (sym c.in_ok-to.ensures) c.if-from-to.true

pub take_out-taken-requires : goal.take_out-taken-requires
take_out-taken-requires g c = record {
  stands =
      pipe_stands c.self.invariant c.self.view_is c.requires.door c.args.pid c.args.sink (Some Write)
      (sym c.in_ok-to.ensures);
}

pub value_mut-pipe-requires : goal.value_mut-pipe-requires
value_mut-pipe-requires g c = record {
  stands =
      rw
      (lemmas.source_is c.self.invariant c.self.view_is c.requires.door c.in_ok-from.from c.in_ok-to.to
      c.if-from-to.false c.take_out-taken.ensures.items)
      (pipe_stands c.self.invariant c.self.view_is c.requires.door c.args.pid c.args.source (Some Read)
      (sym c.in_ok-from.ensures));
}

pub cross_now-progress-requires : goal.cross_now-progress-requires
cross_now-progress-requires g c = record {
  door =
      lemmas.holds_both c.self.invariant c.self.view_is c.requires.door c.in_ok-from.from c.in_ok-to.to
      c.if-from-to.false c.take_out-taken.ensures.items c.value_mut-pipe.ensures.value c.take_out-taken.ensures.value
      (omega (
        arith,
        c.reserve-most.ensures.value,
        c.reserve-most.ensures.most,
        ap (λ (l : Limits). l.reserve) c.config.ensures,
      ));
}

pub invariant_of-self : goal.invariant_of-self
invariant_of-self g c =
    rw c.put_back.ensures.items (lemmas.crossed-whole c.self.invariant c.self.view_is c.requires.door c.in_ok-from.from
    c.in_ok-to.to c.if-from-to.false c.take_out-taken.ensures.items c.value_mut-pipe.ensures.value
    c.take_out-taken.ensures.value c.cross_now-progress.ensures.crosses)

pub returns-clause-crossed : goal.returns-clause-crossed
returns-clause-crossed g c =
    lemmas.arrived c.self.invariant c.self.view_is c.requires.door c.args.crossing c.args.pid c.args.source c.args.sink
    c.args.n (sym c.in_ok-from.ensures) (sym c.in_ok-to.ensures) c.if-from-to.false c.take_out-taken.ensures.items
    c.value_mut-pipe.ensures.value c.take_out-taken.ensures.value c.cross_now-progress.ensures.crosses
    c.cross_now-progress.ensures.untouched c.put_back.ensures.items
