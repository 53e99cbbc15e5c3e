-- What a contract sees of a write that may not be finished.

use Rattle.std.specs.Prelude.{ℕ, List, refl}
use Rattle.std.specs.Coded.{Coded, code_by, coded×, coded_ℕ, coded_list}

-- all its bytes, and how many of them went in
pub record UnfinishedWrite : Type 0 where
  pub bytes : List ℕ
  pub written : ℕ

-- a write is stored as the pair of its fields
abbrev pub write_code : Coded UnfinishedWrite
write_code =
    code_by
    (List ℕ × ℕ)
    (coded× (coded_list coded_ℕ) coded_ℕ)
    (λ w. (w.bytes, w.written))
    (λ p. record { bytes = p.0; written = p.1 })
    (λ _. refl)
