use Rattle.std.proofs.Common.{Some, refl, sym, rules}
use Rattle.pf_base.specs.declared.progress.Side.TheVariants.{Write}
use Rattle.pf_tables.proofs.Transfers as lemmas
use Rattle.pf_tables.proofs.tables.Tables.write_now.Goals as goal

pub returns-in_err-sink-clause-wrote : goal.returns-in_err-sink-clause-wrote
returns-in_err-sink-clause-wrote g c =
    let refused =
    lemmas.no_write c.self.invariant c.self.view_is c.requires.door c.args.pid c.args.fd c.args.bytes.now c.args.written
    (sym c.in_err-sink.ensures) in
    search rules

pub returns-then-bytes-gt-MAX_WRITE-clause-wrote : goal.returns-then-bytes-gt-MAX_WRITE-clause-wrote
returns-then-bytes-gt-MAX_WRITE-clause-wrote g c =
    lemmas.too_long c.self.invariant c.self.view_is c.requires.door c.args.pid c.args.fd c.args.bytes.now c.args.written
    (sym c.in_ok-sink.ensures) c.if-bytes-gt-MAX_WRITE.true

pub value_mut-pipe-requires : goal.value_mut-pipe-requires
value_mut-pipe-requires g c = record {
  stands =
      lemmas.pipe_stands c.self.invariant c.self.view_is c.requires.door c.args.pid c.args.fd (Some Write)
      (sym c.in_ok-sink.ensures);
}

pub write_now-requires : goal.write_now-requires
write_now-requires g c = record {
  door =
      lemmas.affords c.self.invariant c.self.view_is c.requires.door c.in_ok-sink.sink c.value_mut-pipe.ensures.value
      g.met.F.Frames.sound;
}

pub invariant_of-self : goal.invariant_of-self
invariant_of-self g c =
    lemmas.passed-whole c.self.invariant c.self.view_is c.requires.door c.in_ok-sink.sink c.value_mut-pipe.ensures.value
    c.write_now.ensures.passes

pub returns-clause-wrote : goal.returns-clause-wrote
returns-clause-wrote g c =
    lemmas.wrote c.self.invariant c.self.view_is c.requires.door c.in_ok-sink.sink c.value_mut-pipe.ensures.value
    c.args.pid c.args.fd c.write_now.ensures.untouched c.args.bytes.now _ _ (sym c.in_ok-sink.ensures)
    c.if-bytes-gt-MAX_WRITE.false refl (rw (lemmas.rest_is c.args.written c.args.bytes.now) at
    c.write_now.ensures.passes)
