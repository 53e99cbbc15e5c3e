use Rattle.std.proofs.Common.{sym, Some, rules}
use Rattle.pf_base.specs.declared.progress.Side.TheVariants.{Read}
use Rattle.pf_tables.proofs.Transfers as lemmas
use Rattle.pf_tables.proofs.tables.Tables.read_truncated.Goals as goal

pub returns-in_err-source-clause-read : goal.returns-in_err-source-clause-read
returns-in_err-source-clause-read g c =
    let refused =
    lemmas.no_read c.self.invariant c.self.view_is c.requires.door c.args.pid c.args.fd c.args.n
    (sym c.in_err-source.ensures) in
    search (refused, rules)

pub value_mut-pipe-requires : goal.value_mut-pipe-requires
value_mut-pipe-requires g c = record {
  stands =
      lemmas.pipe_stands c.self.invariant c.self.view_is c.requires.door c.args.pid c.args.fd (Some Read)
      (sym c.in_ok-source.ensures);
}

pub read_truncated-requires : goal.read_truncated-requires
read_truncated-requires g c = record {
  door =
      lemmas.holds c.self.invariant c.self.view_is c.requires.door c.in_ok-source.source c.value_mut-pipe.ensures.value;
}

pub invariant_of-self : goal.invariant_of-self
invariant_of-self g c =
    lemmas.passed-whole c.self.invariant c.self.view_is c.requires.door c.in_ok-source.source
    c.value_mut-pipe.ensures.value c.read_truncated.ensures.passes

pub returns-clause-read : goal.returns-clause-read
returns-clause-read g c =
    lemmas.was_truncated c.self.invariant c.self.view_is c.requires.door c.in_ok-source.source
    c.value_mut-pipe.ensures.value c.args.pid c.args.fd c.read_truncated.ensures.untouched c.args.n c.args.buffer.now _
    (sym c.in_ok-source.ensures) c.read_truncated.ensures.bytes c.read_truncated.ensures.passes
