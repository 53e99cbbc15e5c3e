use Rattle.std.proofs.Common.{sym, Some, ◌∙◌, rules}
use Rattle.pf_base.specs.declared.progress.Side.TheVariants.{Read}
use Rattle.pf_tables.proofs.Transfers as lemmas
use Rattle.pf_tables.proofs.tables.Tables.read_now.Goals as goal

pub returns-in_err-end-clause-read : goal.returns-in_err-end-clause-read
returns-in_err-end-clause-read g c =
    let refused =
    lemmas.no_read c.self.invariant c.self.view_is c.requires.door c.args.pid c.args.fd c.args.n
    (sym c.in_err-end.ensures) in
    search rules

pub value_mut-pipe-requires : goal.value_mut-pipe-requires
value_mut-pipe-requires g c = record {
  stands =
      lemmas.pipe_stands c.self.invariant c.self.view_is c.requires.door c.args.pid c.args.fd (Some Read)
      (sym c.in_ok-end.ensures);
}

pub read_bytes-requires : goal.read_bytes-requires
read_bytes-requires g c = record {
  door =
      lemmas.holds c.self.invariant c.self.view_is c.requires.door c.in_ok-end.end c.value_mut-pipe.ensures.value;
}

pub invariant_of-self : goal.invariant_of-self
invariant_of-self g c =
    lemmas.same-whole c.self.invariant c.self.view_is c.requires.door c.in_ok-end.end c.value_mut-pipe.ensures.value
    c.in_err-progress.ensures.refused.0

pub returns-in_err-progress-clause-read : goal.returns-in_err-progress-clause-read
returns-in_err-progress-clause-read g c =
    let door = c.in_err-progress.ensures.refused.1 in
    let view =
    lemmas.same_view c.self.invariant c.self.view_is c.requires.door c.in_ok-end.end c.value_mut-pipe.ensures.value
    c.in_err-progress.ensures.refused.0 in
    search rules

pub returns-in_err-progress-clause-many : goal.returns-in_err-progress-clause-many
returns-in_err-progress-clause-many g c _ =
    lemmas.hands_many c.self.invariant c.self.view_is c.requires.door c.in_ok-end.end c.value_mut-pipe.ensures.value
    g.met.F.Frames.sound c.args.pid c.args.fd c.args.n (sym c.in_ok-end.ensures) c.in_err-progress.ensures.many

pub invariant_of-self-2 : goal.invariant_of-self-2
invariant_of-self-2 g c =
    lemmas.passed-whole c.self.invariant c.self.view_is c.requires.door c.in_ok-end.end c.value_mut-pipe.ensures.value
    c.in_ok-progress.ensures.passes

pub returns-clause-read : goal.returns-clause-read
returns-clause-read g c =
    lemmas.was_read c.self.invariant c.self.view_is c.requires.door c.in_ok-end.end c.value_mut-pipe.ensures.value
    c.args.pid c.args.fd c.in_ok-progress.ensures.untouched c.args.n (sym c.in_ok-end.ensures)
    c.in_ok-progress.ensures.passes (λ z bytes. bytes ∙ sym c.in_ok-progress.ensures.bytes)
