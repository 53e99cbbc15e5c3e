use Rattle.std.proofs.Common.{eqb, w8, arith}
use Rattle.std.proofs.lemmas.Simd.{bitmask_splat}
use Rattle.pf_walk.proofs.slashes.marks_of.Goals as goal

pub returns : goal.returns
returns c = bitmask_splat w8 eqb c.args.block 16 47 c.fits-block.0 (omega arith)
