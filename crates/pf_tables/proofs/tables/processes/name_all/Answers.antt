use Rattle.std.proofs.Common.{◌+◌, ◌≤◌, None, Some, sym, ◌∙◌, arith}
use Rattle.std.proofs.lemmas.List.{at_drop_all}
use Rattle.pf_tables.proofs.Common.{named_once_more}
use Rattle.pf_tables.proofs.ProcessesFork as lemmas
use Rattle.pf_tables.proofs.tables.processes.name_all.Goals as goal

pub loop-fd-init : goal.loop-fd-init
loop-fd-init c = record {
  named = sym (lemmas.skipped c.args.descriptors.now c.args.descriptions.now.items 0 c.next-fd.result (omega arith)
      c.next-fd.ensures.between);
  stand = c.requires.stand;
  few = λ n e h. omega (arith, c.requires.few n e h);
  within = c.next-fd.ensures.most;
}

pub loop-fd-preserved-in-Some : goal.loop-fd-preserved-in-Some
loop-fd-preserved-in-Some c =
    let ks = c.args.descriptors.now in
    let ds = c.loop-fd.descriptions.items in
    let here = sym c.get.ensures ∙ c.in-Some.is in
    let finds = c.loop-fd.invariant.stand c.loop-fd.fd c.in-Some.key here in
    rw c.name.ensures.items
    (record {
      named = sym (lemmas.one_named ks ds c.loop-fd.fd (Some c.in-Some.key)
          (omega (arith, c.loop-fd-test.true, c.requires.wide)) here) ∙ c.loop-fd.invariant.named;
      stand = λ m k h. lemmas.still_finds ds c.in-Some.key.serial k (c.loop-fd.invariant.stand m k h);
      few = λ n e h. omega
          (arith, lemmas.few_more ds c.in-Some.key finds (65792 + c.loop-fd.fd) c.loop-fd.invariant.few n e h);
      within = omega (arith, c.loop-fd-test.true);
    })

-- where there is no key, the next one is looked for
pub loop-fd-preserved : goal.loop-fd-preserved
loop-fd-preserved c =
    let ks = c.args.descriptors.now in
    let ds = c.loop-fd.descriptions.items in
    let on : c.loop-fd.fd + 1 ≤ c.next-fd-in_default.result =
    grind (arith, c.loop-fd-test.true, c.next-fd-in_default.ensures.above) in
    record {
      named = sym (lemmas.one_named ks ds c.loop-fd.fd None (omega (arith, c.loop-fd-test.true, c.requires.wide))
          (sym c.get.ensures ∙ lemmas.nothing c.get.result c.in_default.not-Some)
          ∙ lemmas.skipped ks ds (c.loop-fd.fd + 1) c.next-fd-in_default.result on
          c.next-fd-in_default.ensures.between) ∙ c.loop-fd.invariant.named;
      stand = c.loop-fd.invariant.stand;
      few = λ n e h. omega (arith, c.loop-fd.invariant.few n e h, on);
      within = c.next-fd-in_default.ensures.most;
    }

pub name-requires : goal.name-requires
name-requires c =
    let ds = c.loop-fd.descriptions.items in
    let finds = c.loop-fd.invariant.stand c.loop-fd.fd c.in-Some.key (sym c.get.ensures ∙ c.in-Some.is) in
    record {
      stands = lemmas.stands ds c.in-Some.key finds (65792 + c.loop-fd.fd) c.loop-fd.invariant.few;
      below =
          lemmas.below ds c.in-Some.key finds (65792 + c.loop-fd.fd) c.loop-fd.invariant.few
          (omega (arith, c.loop-fd-test.true));
    }

pub returns : goal.returns
returns c =
    sym (at_drop_all (λ ks. named_once_more ks c.loop-fd.descriptions.items) c.args.descriptors.now c.loop-fd.fd
    (omega (arith, c.loop-fd-test.false, c.requires.wide))) ∙ c.loop-fd.invariant.named
