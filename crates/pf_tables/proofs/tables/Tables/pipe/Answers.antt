use Rattle.std.proofs.Common.{◌∙◌, length, Some, refl, ap, sym, rules}
use Rattle.pf_tables.proofs.Fifos as lemmas
use Rattle.pf_tables.proofs.PipesOpen.{Puts, pushed, by_finds, goes, opened-kept, makes_pipe}
use Rattle.pf_tables.proofs.tables.Tables.pipe.Given.{Over}
use Rattle.pf_tables.proofs.tables.Tables.pipe.Goals.{After-give_keys}
use Rattle.pf_tables.proofs.tables.Tables.pipe.Goals as goal

puts : (g : Over) (c : After-give_keys g) → Puts c.self.inside.processes c.self.inside.descriptions.items
    c.self.inside.pipes.items c.args.pid c.in_ok-free.free c.args.nonblocking c.in_ok-slots.slots
    c.in_ok-process.process.now.cred.uid c.give_keys.new.self c.insert_named-writing.new.descriptions.items
    c.insert_reserved-pipe.new.self.items
puts g c =
    let drawn = ap (λ x. x.items) c.in_ok-reserve.ensures.rest in
    let pipes = ap (λ x. x.items) c.in_ok-reserve-2.ensures.rest in
    let reading = pushed c.insert_named-reading.ensures.items drawn refl in
    record {
      r = c.insert_reserved-pipe.result;
      j = c.insert_named-reading.result;
      k = c.insert_named-writing.result;
      r_is = c.insert_reserved-pipe.ensures.serial ∙ ap length pipes;
      piped_to =
          pushed c.insert_reserved-pipe.ensures.items pipes
          (λ i. Some (c.insert_reserved-pipe.result.slot, c.in_ok-pipe.ensures i));
      j_is = c.insert_named-reading.ensures.serial ∙ ap length drawn;
      k_is = c.insert_named-writing.ensures.serial ∙ ap length reading;
      named_to = pushed c.insert_named-writing.ensures.items reading refl;
      set_to = c.give_keys.ensures;
    }

pub returns-in_err-free-clause-says : goal.returns-in_err-free-clause-says
returns-in_err-free-clause-says g c =
    let refused =
    by_finds c.self.invariant.kept c.self.view_is _ c.args.nonblocking c.in_ok-process.ensures
    c.in_err-free.ensures.found refl refl in
    search rules

pub returns-then-is_spent-clause-says : goal.returns-then-is_spent-clause-says
returns-then-is_spent-clause-says g c =
    let refused =
    by_finds c.self.invariant.kept c.self.view_is _ c.args.nonblocking c.in_ok-process.ensures
    c.in_ok-free.ensures.found (sym c.if-is_spent.true ∙ c.is_spent.ensures) refl in
    search rules

pub returns-in_err-slots-clause-says : goal.returns-in_err-slots-clause-says
returns-in_err-slots-clause-says g c =
    let refused =
    by_finds c.self.invariant.kept c.self.view_is _ c.args.nonblocking c.in_ok-process.ensures
    c.in_ok-free.ensures.found (sym c.if-is_spent.false ∙ c.is_spent.ensures) c.in_err-slots.ensures.found in
    search rules

pub returns-in_err-pipe-clause-wanted : goal.returns-in_err-pipe-clause-wanted
returns-in_err-pipe-clause-wanted g c _ =
    goes c.self.invariant.kept c.self.view_is _ c.args.nonblocking c.in_ok-process.ensures c.in_ok-free.ensures.found
    c.is_spent.ensures c.if-is_spent.false c.in_ok-slots.ensures.found

pub returns-in_err-reserve-clause-wanted : goal.returns-in_err-reserve-clause-wanted
returns-in_err-reserve-clause-wanted g c _ =
    goes c.self.invariant.kept c.self.view_is _ c.args.nonblocking c.in_ok-process.ensures c.in_ok-free.ensures.found
    c.is_spent.ensures c.if-is_spent.false c.in_ok-slots.ensures.found

pub returns-in_err-reserve-2-clause-wanted : goal.returns-in_err-reserve-2-clause-wanted
returns-in_err-reserve-2-clause-wanted g c _ =
    goes c.self.invariant.kept c.self.view_is _ c.args.nonblocking c.in_ok-process.ensures c.in_ok-free.ensures.found
    c.is_spent.ensures c.if-is_spent.false c.in_ok-slots.ensures.found

pub returns-in_err-charge-clause-wanted : goal.returns-in_err-charge-clause-wanted
returns-in_err-charge-clause-wanted g c _ =
    goes c.self.invariant.kept c.self.view_is _ c.args.nonblocking c.in_ok-process.ensures c.in_ok-free.ensures.found
    c.is_spent.ensures c.if-is_spent.false c.in_ok-slots.ensures.found

pub invariant_of-self-2 : goal.invariant_of-self-2
invariant_of-self-2 g c =
    let m = puts g (goal.at.invariant_of-self-2 g c).After-give_keys in
    record {
      kept =
          opened-kept c.self.invariant.kept c.self.view_is _ c.args.nonblocking c.in_ok-process.ensures
          c.in_ok-free.ensures.found c.in_ok-free.ensures.within.1 m c.in_ok-charge.ensures.charged;
      filed =
          lemmas.more_opens c.self.inside.fifos.entries c.self.inside.descriptions.items c.self.inside.pipes.items m
          c.self.invariant.filed;
    }

pub returns-clause-says : goal.returns-clause-says
returns-clause-says g c =
    makes_pipe c.self.invariant.kept c.self.view_is _ c.args.nonblocking c.in_ok-process.ensures
    c.in_ok-free.ensures.found c.in_ok-free.ensures.within.1 (puts g (goal.at.returns-clause-says g c).After-give_keys)
    c.in_ok-charge.ensures.charged (sym c.if-is_spent.false ∙ c.is_spent.ensures) c.in_ok-slots.ensures.found
    c.in_ok-slots.ensures.room
