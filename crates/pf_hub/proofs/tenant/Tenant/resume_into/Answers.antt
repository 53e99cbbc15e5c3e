use Rattle.std.proofs.Common.{rules}
use Rattle.pf_hub.proofs.tenant.Tenant.resume_into.Goals as goal

pub returns : goal.returns
returns g c =
    let told = c.resume_over.ensures.moved in
    let moved = told.is in
    record { lodges = record { reply = told.reply; is = search (moved, rules); told_is = told.told_is; bytes_lie = told.bytes_lie } }
