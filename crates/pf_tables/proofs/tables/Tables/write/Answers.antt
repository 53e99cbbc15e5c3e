use Rattle.std.proofs.Common.{◌<◌, ◌≤◌, length, Some, refl, sym, subst, rules, arith}
use Rattle.pf_tables.proofs.Common.{Passed, room_of, queue_of}
use Rattle.pf_base.specs.declared.progress.Side.TheVariants.{Write}
use Rattle.pf_tables.specs.Told.{IsDone}
use Rattle.pf_tables.proofs.Transfers as lemmas
use Rattle.pf_tables.proofs.TransfersWhole.{ends, short-whole, wrote_short}
use Rattle.pf_tables.proofs.tables.Tables.write.Given.{Over}
use Rattle.pf_tables.proofs.tables.Tables.write.Goals as goal
use Rattle.pf_tables.proofs.tables.Tables.write.Goals.{else-readers-gt0-via-then-readers-gt0+else-room-bytes}
use Rattle.pf_tables.proofs.tables.Tables.write.Goals.{else-readers-gt0-via-else-readers-gt0}

pub returns-in_err-end-clause-wrote : goal.returns-in_err-end-clause-wrote
returns-in_err-end-clause-wrote g c =
    let refused =
    lemmas.no_write c.self.invariant c.self.view_is c.requires.door c.args.pid c.args.fd c.args.bytes.now 0
    (sym c.in_err-end.ensures) in
    search rules

pub returns-then-bytes-gt-MAX_WRITE-clause-wrote : goal.returns-then-bytes-gt-MAX_WRITE-clause-wrote
returns-then-bytes-gt-MAX_WRITE-clause-wrote g c =
    let refused =
    lemmas.too_long c.self.invariant c.self.view_is c.requires.door c.args.pid c.args.fd c.args.bytes.now 0
    (sym c.in_ok-end.ensures) c.if-bytes-gt-MAX_WRITE.true in
    search rules

pub value_mut-pipe-requires : goal.value_mut-pipe-requires
value_mut-pipe-requires g c = record {
  stands =
      lemmas.pipe_stands c.self.invariant c.self.view_is c.requires.door c.args.pid c.args.fd (Some Write)
      (sym c.in_ok-end.ensures);
}

pub write_short-requires-clause-door : goal.write_short-requires-clause-door
write_short-requires-clause-door g c =
    lemmas.affords c.self.invariant c.self.view_is c.requires.door c.in_ok-end.end c.value_mut-pipe.ensures.value
    g.met.F.Frames.sound

pub invariant_of-self : goal.invariant_of-self
invariant_of-self g c =
    short-whole c.self.invariant c.self.view_is c.requires.door c.in_ok-end.end c.value_mut-pipe.ensures.value
    c.args.bytes.now _ _ c.write_short.result c.write_short.ensures.put

pub returns-then-room-bytes-clause-wrote : goal.returns-then-room-bytes-clause-wrote
returns-then-room-bytes-clause-wrote g c =
    wrote_short c.self.invariant c.self.view_is c.requires.door c.in_ok-end.end c.value_mut-pipe.ensures.value
    c.args.pid c.args.fd c.args.bytes.now (sym c.in_ok-end.ensures) c.if-bytes-gt-MAX_WRITE.false
    (subst (λ k. 0 < k) c.readers.ensures c.if-readers-gt0.true)
    (subst (λ k. k < length c.args.bytes.now) (c.room.ensures (g.F.Frames.live c.args.door.now)) c.if-room-bytes.true)
    _ _ c.write_short.result c.write_short.ensures.put

pub write_now-requires : goal.write_now-requires
write_now-requires g c = record {
  door =
      lemmas.affords c.self.invariant c.self.view_is c.requires.door c.in_ok-end.end c.value_mut-pipe.ensures.value
      g.met.F.Frames.sound;
}

pub invariant_of-self-2 : goal.invariant_of-self-2
invariant_of-self-2 g c =
    lemmas.passed-whole c.self.invariant c.self.view_is c.requires.door c.in_ok-end.end c.value_mut-pipe.ensures.value
    c.write_now.ensures.passes

-- somebody reads the pipe only where there is room for all bytes
fits : (g : Over) (c : goal.After-self-2-1 g) → 0 < c.value_mut-pipe.result.now.readers
    → length c.args.bytes.now ≤ room_of (queue_of (g.F.Frames.live c.args.door.now) c.value_mut-pipe.result.now.ring)
fits g c some = elim c.else-readers-gt0.branch [
  | else-readers-gt0-via-then-readers-gt0+else-room-bytes w ↦ subst (λ k. length c.args.bytes.now ≤ k)
      (w.room.ensures (g.F.Frames.live c.args.door.now)) w.if-room-bytes.false
  | else-readers-gt0-via-else-readers-gt0 w ↦ absurd (omega (arith, some, c.readers.ensures, w.if-readers-gt0.false))
]

pub returns-clause-wrote : goal.returns-clause-wrote
returns-clause-wrote g c = (
  lemmas.wrote c.self.invariant c.self.view_is c.requires.door c.in_ok-end.end c.value_mut-pipe.ensures.value
      c.args.pid c.args.fd c.write_now.ensures.untouched c.args.bytes.now 0 _ (sym c.in_ok-end.ensures)
      c.if-bytes-gt-MAX_WRITE.false refl c.write_now.ensures.passes,
  subst (λ (m : Passed). IsDone m.progress (length c.args.bytes.now)) c.write_now.ensures.passes.told
      (ends _ _ c.args.bytes.now _ (fits g c)),
)
