use Rattle.std.proofs.Common.{ap, ◌∙◌, nat_eq}
use Rattle.std.proofs.lemmas.Simd.{ones-mask_l}
use Rattle.std.specs.Int.RustNames.{count_ones}
use Rattle.pf_walk.proofs.slashes.slashes_among.Goals as goal

pub returns : goal.returns
returns c = ap count_ones c.marks_of.ensures ∙ ones-mask_l (λ b. nat_eq b 47) c.args.block
