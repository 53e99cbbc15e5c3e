-- The first places are numbered as they stand.
use Rattle.std.proofs.Common.{rules, ◌≡◌, ◌<◌, ◌≤◌, List, length, refl, ap, ◌∙◌, arith}
use Rattle.std.specs.List.{range_with_len}
use Rattle.pf_base.specs.Limits.{Limits}
use Rattle.pf_service.specs.Places.{numbers_of}
use Rattle.pf_service.proofs.PlaceLaws.{counted, number_at}
use Rattle.pf_service.proofs.service.Service.place.Goals as goal

pub returns-in-Some-clause-found : goal.returns-in-Some-clause-found
returns-in-Some-clause-found g c =
    let n = length c.self.inside.configs.items in
    let numbered : numbers_of c.deref.result.now ≡ range_with_len 0 n = ap numbers_of c.deref.ensures.value ∙ c.self.inside.numbered in
    let all_of : length c.deref.result.now ≡ n = counted c.deref.result.now n numbered in
    let within : c.args.ns < length c.deref.result.now = search (c.in-Some.ensures.lookup.0, rules) in
    (number_at c.deref.result.now n c.args.ns c.in-Some.place.now numbered (omega (arith, within, all_of)) c.in-Some.ensures.lookup.1, omega (arith, within, all_of, c.self.inside.few))

pub returns-in-Some-clause-past : goal.returns-in-Some-clause-past
returns-in-Some-clause-past g c = λ past.
    let n = length c.self.inside.configs.items in
    let numbered : numbers_of c.deref.result.now ≡ range_with_len 0 n = ap numbers_of c.deref.ensures.value ∙ c.self.inside.numbered in
    let all_of : length c.deref.result.now ≡ n = counted c.deref.result.now n numbered in
    let within : c.args.ns < length c.deref.result.now = search (c.in-Some.ensures.lookup.0, rules) in
    absurd (omega (arith, within, all_of, c.self.inside.few, past))

pub returns-in-None-clause-missing : goal.returns-in-None-clause-missing
returns-in-None-clause-missing g c =
    let n = length c.self.inside.configs.items in
    let numbered : numbers_of c.deref.result.now ≡ range_with_len 0 n = ap numbers_of c.deref.ensures.value ∙ c.self.inside.numbered in
    let all_of : length c.deref.result.now ≡ n = counted c.deref.result.now n numbered in
    let all : n ≡ length c.args.self.now = ap (λ (ls : List Limits). length ls) c.self.view_is in
    let past : length c.deref.result.now ≤ c.args.ns = search (c.in_default.ensures.lookup, rules) in
    (refl, omega (arith, past, all_of, all))
