-- The order of names is total, and only equal names tie.
use Rattle.std.proofs.Common.{◌≡◌, ap, ◌∙◌}
use Rattle.std.specs.Cmp.{IsTotalOrder}
use Rattle.std.specs.Cmp.Lexicographic.{nat_list_cmp_total}
use Rattle.std.specs.FinMap.{nat_cmp-IsAntisymmetric, slice_cmp-IsAntisymmetric}
use Rattle.std.specs.Ordering.{ordering_reverse}
use Rattle.std.specs.declared.cmp.Ordering.TheVariants.{Less, Equal, Greater}
use Rattle.std.proofs.lemmas.Cmp.{tied_itself}
use Rattle.pf_machine.specs.FileMap.{Name, name_cmp}

pub total : IsTotalOrder name_cmp
total = nat_list_cmp_total

pub itself : (a : Name) → name_cmp a a ≡ Equal
itself a = tied_itself total a

pub same : (a b : Name) → name_cmp a b ≡ Equal → a ≡ b
same a b e = slice_cmp-IsAntisymmetric nat_cmp-IsAntisymmetric a b e

pub later : (a b : Name) → name_cmp a b ≡ Less → name_cmp b a ≡ Greater
later a b e = total.antisymm b a ∙ ap ordering_reverse e

pub earlier : (a b : Name) → name_cmp a b ≡ Greater → name_cmp b a ≡ Less
earlier a b e = total.antisymm b a ∙ ap ordering_reverse e
