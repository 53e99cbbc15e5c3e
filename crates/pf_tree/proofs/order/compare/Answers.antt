use Rattle.std.proofs.Common.{◌≡◌, ◌-◌, ℕ, take, refl, ◌∙◌, arith}
use Rattle.pf_tree.proofs.WordOrder.{words_apart, words_alike, lengths_decide, fewer}
use Rattle.pf_tree.proofs.order.compare.Goals as goal

pub returns-then-x-y : goal.returns-then-x-y
returns-then-x-y c =
    c.cmp-then-x-y.ensures
    ∙ words_apart 0 c.args.a.now c.args.b.now (omega arith) (omega arith) c.word-x.ensures.bytes c.word-y.ensures.bytes c.word-x.result c.word-y.result c.word-x.ensures.value c.word-y.ensures.value refl c.if-x-y.true

pub returns-then-x-y-2 : goal.returns-then-x-y-2
returns-then-x-y-2 c =
    let a = c.args.a.now in
    let b = c.args.b.now in
    let i : ℕ = c.min-both.result - 8 in
    let same : take 8 a ≡ take 8 b = words_alike 0 a b (omega arith) (omega arith) c.word-x.ensures.bytes c.word-y.ensures.bytes c.word-x.result c.word-y.result c.word-x.ensures.value c.word-y.ensures.value c.if-x-y.false in
    c.cmp-then-x-y-2.ensures
    ∙ words_apart i a b (omega arith) (omega arith) c.word-x.ensures.bytes c.word-y.ensures.bytes c.word-x-2.result c.word-y-2.result c.word-x-2.ensures.value c.word-y-2.ensures.value (fewer i 8 a b (omega arith) same) c.if-x-y-2.true

pub returns : goal.returns
returns c =
    let a = c.args.a.now in
    let b = c.args.b.now in
    let i : ℕ = c.min-both.result - 8 in
    let same : take 8 a ≡ take 8 b = words_alike 0 a b (omega arith) (omega arith) c.word-x.ensures.bytes c.word-y.ensures.bytes c.word-x.result c.word-y.result c.word-x.ensures.value c.word-y.ensures.value c.if-x-y.false in
    let back = words_alike i a b (omega arith) (omega arith) c.word-x.ensures.bytes c.word-y.ensures.bytes c.word-x-2.result c.word-y-2.result c.word-x-2.ensures.value c.word-y-2.ensures.value c.if-x-y-2.false in
    c.cmp-2.ensures ∙ lengths_decide i a b (omega arith) (fewer i 8 a b (omega arith) same) back
