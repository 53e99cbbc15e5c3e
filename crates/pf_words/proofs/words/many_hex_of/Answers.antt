use Rattle.std.proofs.Common.{◌≡◌, ◌%◌, ◌/◌, ◌++◌, length, ap, sym, ◌∙◌, arith}
use Rattle.std.proofs.lemmas.List.{take-append-drop}
use Rattle.pf_words.specs.Arguments.{or_cause}
use Rattle.pf_words.specs.declared.cause.Cause.TheVariants as causes
use Rattle.pf_words.proofs.BlockLaws.{pairs, block_on, block_fails, last_on, last_fails, decoded_is}
use Rattle.pf_words.proofs.words.many_hex_of.Goals as goal

pub returns-in_default : goal.returns-in_default
returns-in_default c =
    let rest = c.loop-rest.rest.now in
    let front = c.split_at.result.0.now in
    let even : length front % 2 ≡ 0 = omega (arith, c.split_at.ensures.front_len) in
    let join : front ++ c.split_at.result.1.now
    ≡ rest = rw (c.split_at.ensures.front, c.split_at.ensures.back) (take-append-drop 32 rest) in
    ap (λ r. or_cause r causes.BadData)
    (decoded_is c.args.word.now c.if-word-ne0.false
    ∙ block_fails c.loop-rest.bytes.items front c.split_at.result.1.now (pairs c.args.word.now) even
    (sym c.in_default.is ∙ c.block_of.ensures ∙ decoded_is front even) (rw join c.loop-rest.invariant.read))

pub loop-rest-preserved : goal.loop-rest-preserved
loop-rest-preserved c =
    let rest = c.loop-rest.rest.now in
    let front = c.split_at.result.0.now in
    let even : length front % 2 ≡ 0 = omega (arith, c.split_at.ensures.front_len) in
    let join : front ++ c.split_at.result.1.now
    ≡ rest = rw (c.split_at.ensures.front, c.split_at.ensures.back) (take-append-drop 32 rest) in
    record {
      even = omega (arith, c.split_at.ensures.back_len, c.loop-rest.invariant.even);
      read = rw c.in_ok-extend_from_slice.ensures.items
          (block_on c.loop-rest.bytes.items front c.split_at.result.1.now c.in-Some.decoded
          (pairs c.args.word.now) even (sym c.in-Some.is ∙ c.block_of.ensures ∙ decoded_is front even)
          (rw join c.loop-rest.invariant.read));
    }

pub returns-in_default-last_block_of : goal.returns-in_default-last_block_of
returns-in_default-last_block_of c =
    ap (λ r. or_cause r causes.BadData)
    (decoded_is c.args.word.now c.if-word-ne0.false
    ∙ last_fails c.loop-rest.bytes.items c.loop-rest.rest.now _ c.last_block_of.result
    (pairs c.args.word.now) c.loop-rest.invariant.even
    (sym c.in_default-last_block_of.is) c.last_block_of.ensures c.loop-rest.invariant.read)

pub returns : goal.returns
returns c =
    let all = decoded_is c.args.word.now c.if-word-ne0.false
    ∙ last_on c.loop-rest.bytes.items c.loop-rest.rest.now c.in-Some-last_block_of.last
    (length c.loop-rest.rest.now / 2) c.last_block_of.result
    (pairs c.args.word.now) c.loop-rest.invariant.even
    (sym c.in-Some-last_block_of.is) c.last_block_of.ensures c.loop-rest.invariant.read in
    rw (c.in_ok-new.ensures.bytes, c.in_ok-extend_from_slice-2.ensures.items) (ap (λ r. or_cause r causes.BadData) all)
