use Rattle.std.proofs.Common.{rules, ap, refl, sym, unwrap_or, [], ◌≡◌, ◌∙◌, option_copied}
use Rattle.pf_play.proofs.ProgramLaws.{name_told}
use Rattle.pf_play.proofs.program.tell_fault.Goals as goal

pub returns-in-NoSuchName : goal.returns-in-NoSuchName
returns-in-NoSuchName g c =
    let name : unwrap_or (option_copied c.args.only) [] ≡ c.unwrap_or-name.result.now =
    sym (ap (λ b. b.now) c.unwrap_or-name.ensures ∙ name_told c.args.only _ refl) in
    rw (c.in-NoSuchName.is, name) c.tell-in-NoSuchName.ensures

pub returns-in-Script : goal.returns-in-Script
returns-in-Script g c = search rules steps 500000

pub returns-in-WriteFault : goal.returns-in-WriteFault
returns-in-WriteFault g c = search rules steps 100000
