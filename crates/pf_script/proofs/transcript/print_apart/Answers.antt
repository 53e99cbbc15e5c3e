use Rattle.std.proofs.Common.{map, subst, ◌∙◌}
use Rattle.std.specs.Prelude.{OnOk, OnErr}
use Rattle.std.specs.declared.alloc.Global.{Global}
use Rattle.std.specs.declared.vec.Vec.{Vec}
use Rattle.std.proofs.lemmas.List.{length-map}
use Rattle.pf_script.specs.declared.told.Told.{Told}
use Rattle.pf_script.specs.Ports.{IsWritten, IsCut}
use Rattle.pf_script.proofs.PrinterPut.{ended_well, cut_off_by}
use Rattle.pf_script.proofs.Texts.{apart_are}
use Rattle.pf_script.proofs.transcript.print_apart.Goals as goal

pub returns-clause-written : goal.returns-clause-written
returns-clause-written g c =
    let put = rw c.new-out.ensures at c.put_apart.ensures in
    λ answers apart. subst (λ t. OnOk c.finish.result (IsWritten (g.W.Sink.output c.args.writer.now) (g.W.Sink.output c.finish.new.writer) t))
    (apart_are c.args.script.now answers (map (λ v. v.items) c.args.own.now)
    (length-map c.args.own.now (λ (v : Vec Told Global). v.items) ∙ c.requires) apart)
    (ended_well c.finish.result _ put c.finish.ensures.written)

pub returns-clause-cut : goal.returns-clause-cut
returns-clause-cut g c =
    let put = rw c.new-out.ensures at c.put_apart.ensures in
    λ answers apart. subst (λ t. OnErr c.finish.result (IsCut (g.W.Sink.output c.args.writer.now) (g.W.Sink.output c.finish.new.writer) t))
    (apart_are c.args.script.now answers (map (λ v. v.items) c.args.own.now)
    (length-map c.args.own.now (λ (v : Vec Told Global). v.items) ∙ c.requires) apart)
    (cut_off_by c.finish.result _ put c.finish.ensures.fault)
