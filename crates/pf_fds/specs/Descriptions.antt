-- What a contract sees of descriptions.

use Rattle.std.specs.Prelude.{ℕ, ◌+◌, ◌-◌, List, Option, Some, None, refl}
use Rattle.std.specs.Coded.{Coded, code_by, coded×, coded_ℕ, coded_list, coded_option}
use Rattle.pf_machine.specs.Numbered.{change_at}
-- a value, and how many names it has
pub use Rattle.pf_fds.specs.declared.descriptions.Named.{Named}

-- what stands at each number ever drawn, with its place and its count, and how many more values are sure to fit with
-- no allocation
pub record Descriptions (T : Type 0) : Type 0 where
  pub items : List (Option (ℕ × Named T))
  pub room : ℕ

-- a value and its count are stored as a pair
abbrev pub named_code : {T : Type 0} → Coded T → Coded (Named T)
named_code {T} code =
    code_by (T × ℕ) (coded× code coded_ℕ) (λ n. (n.value, n.names)) (λ p. record { value = p.0; names = p.1 }) (λ _. refl)

-- descriptions are stored as the pair of their fields
abbrev pub descriptions_code : {T : Type 0} → Coded T → Coded (Descriptions T)
descriptions_code {T} code =
    code_by
    (List (Option (ℕ × Named T)) × ℕ)
    (coded× (coded_list (coded_option (coded× coded_ℕ (named_code code)))) coded_ℕ)
    (λ d. (d.items, d.room))
    (λ p. record { items = p.0; room = p.1 })
    (λ _. refl)

module _ {T : Type 0} where
  abbrev pub value_of : Named T → T
  value_of n = n.value

  -- how many names, 0 for nothing
  abbrev pub names_of : Option (Named T) → ℕ
  names_of None = 0
  names_of (Some n) = n.names

  -- at its place, with one name more
  abbrev pub one_more : ℕ × Named T → ℕ × Named T
  one_more e = (e.0, record e.1 { names = e.1.names + 1 })

  -- at its place, with one name less
  abbrev pub one_less : ℕ × Named T → ℕ × Named T
  one_less e = (e.0, record e.1 { names = e.1.names - 1 })

  -- at its place and with its names, another value
  abbrev pub revalued : T → ℕ × Named T → ℕ × Named T
  revalued value e = (e.0, record e.1 { value = value })

  -- with another value at a number
  abbrev pub with_description : Descriptions T → ℕ → T → Descriptions T
  with_description d serial value = record d { items = change_at (revalued value) d.items serial }
