-- What is refused before a walk, test by test.
use Rattle.std.proofs.Common.{◌≡◌, ℕ, List, length, sym, ap, ◌∙◌}
use Rattle.std.specs.Prelude.{Bool, false, ◌||◌, ◌&&◌, nat_eq, nat_lt, Ok}
use Rattle.std.specs.List.{list_any}
use Rattle.pf_machine.specs.Refusals.{◌>>◌, refuse_if}
use Rattle.pf_machine.specs.FileMap.{Name}
use Rattle.pf_machine.specs.Paths.{Words, words_of, components, ends_in_slash, is_nonempty}
use Rattle.pf_base.specs.declared.errno.Errno.TheVariants.{ENOENT, EINVAL, ENAMETOOLONG}

abbrev long_names : List Name → Bool
long_names ns = list_any (λ n. nat_lt 255 (length n)) ns

abbrev cut_words : List ℕ → List Name → Words
cut_words bs ns = record { names = ns; slash = ends_in_slash bs && is_nonempty ns }

-- a path that no test refuses
pub all_pass : (bs : List ℕ) (ns : List Name) → list_any (λ b. nat_eq b 0) bs ≡ false → nat_eq (length bs) 0 ≡ false → nat_lt 1023 (length bs) ≡ false → ns ≡ components bs → long_names ns ≡ false → words_of bs ≡ Ok (cut_words bs ns)
all_pass bs ns zero empty long cut names =
    ap (λ b. refuse_if b EINVAL >> (refuse_if (nat_eq (length bs) 0) ENOENT >> (refuse_if (nat_lt 1023 (length bs) || long_names (components bs)) ENAMETOOLONG >> Ok (cut_words bs (components bs))))) zero
    ∙ ap (λ b. refuse_if b ENOENT >> (refuse_if (nat_lt 1023 (length bs) || long_names (components bs)) ENAMETOOLONG >> Ok (cut_words bs (components bs)))) empty
    ∙ ap (λ b. refuse_if (b || long_names (components bs)) ENAMETOOLONG >> Ok (cut_words bs (components bs))) long
    ∙ ap (λ l. refuse_if (long_names l) ENAMETOOLONG >> Ok (cut_words bs l)) (sym cut)
    ∙ ap (λ b. refuse_if b ENAMETOOLONG >> Ok (cut_words bs ns)) names
