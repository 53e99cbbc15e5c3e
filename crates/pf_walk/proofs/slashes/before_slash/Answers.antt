use Rattle.std.proofs.Common.{rules, ◌≡◌, ◌<◌, true, sym, ap, ◌∙◌, arith, take, map, length, nat_eq, slice_index}
use Rattle.std.specs.Int.Count.{count_trailing_zeros}
use Rattle.std.specs.Simd.Lanes.{mask_l}
use Rattle.std.proofs.lemmas.Bool.Decides.{nat_tests}
use Rattle.std.proofs.lemmas.List.{length-take-le}
use Rattle.std.proofs.lemmas.List.Sums.{position_or_len_is}
use Rattle.std.proofs.lemmas.Simd.{trailing_mask_l}
use Rattle.pf_walk.proofs.SlashLaws.{some_place, in_front}
use Rattle.pf_walk.proofs.slashes.before_slash.Goals as goal

pub returns-then-marks-ne0 : goal.returns-then-marks-ne0
returns-then-marks-ne0 c =
    let front = take 16 c.args.text.now in
    let long = length-take-le 16 c.args.text.now c.if-text-ge-LANES.true in
    let read : c.marks_of-marks.result ≡ mask_l (map (λ b. nat_eq b 47) front) = c.marks_of-marks.ensures in
    let some : 0 < mask_l (map (λ b. nat_eq b 47) front) = omega (arith, read, c.if-marks-ne0.true) in
    ap (count_trailing_zeros 64) read
    ∙ trailing_mask_l (λ b. nat_eq b 47) 64 front (omega (arith, long)) some
    ∙ in_front 16 c.args.text.now (some_place front some)

pub returns-then-text-k-eq47 : goal.returns-then-text-k-eq47
returns-then-text-k-eq47 c =
    let here : nat_eq (slice_index c.args.text.now c.loop-k.k) 47 ≡ true = grind (arith, nat_tests) in
    sym (position_or_len_is (λ b. nat_eq b 47) c.args.text.now c.loop-k.k 0 (omega arith) c.loop-k.invariant (λ lt. here))

pub returns : goal.returns
returns c = sym (position_or_len_is (λ b. nat_eq b 47) c.args.text.now (length c.args.text.now) 0 (omega arith) (λ j lt. c.loop-k.invariant j (omega (arith, lt))) (λ lt. absurd (omega (arith, lt))))

pub loop-k-init : goal.loop-k-init
loop-k-init g c = search rules steps 100000
