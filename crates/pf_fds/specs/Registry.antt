-- What a contract sees of a registry.

use Rattle.std.specs.Prelude.{◌≡◌, ℕ, ◌-◌, ◌^◌, ◌<◌, List, length, Option, Some, None, nat_eq, refl, if◌then◌else◌}
use Rattle.std.specs.Coded.{Coded, code_by, coded×, coded_ℕ, coded_list, coded_option}
use Rattle.pf_machine.specs.Numbered.{at, put_at}
use Rattle.pf_fds.specs.declared.registry.InsertFault.{InsertFault}
use Rattle.pf_fds.specs.declared.registry.InsertFault.TheVariants.{Spent, NoMemory}
use Rattle.pf_fds.specs.declared.registry.Key.{Key}

-- what stands at each number ever drawn, with its place, how many more values are sure to fit with no allocation,
-- and the key whose value was taken out and can be put back
pub record Registry (T : Type 0) : Type 0 where
  pub items : List (Option (ℕ × T))
  pub room : ℕ
  pub out : Option Key

-- a key is stored as the pair of its fields
abbrev pub key_code : Coded Key
key_code =
    code_by (ℕ × ℕ) (coded× coded_ℕ coded_ℕ) (λ k. (k.slot, k.serial)) (λ p. record { slot = p.0; serial = p.1 })
    (λ _. refl)

-- a registry is stored as the tuple of its fields
abbrev pub registry_code : {T : Type 0} → Coded T → Coded (Registry T)
registry_code {T} code =
    code_by
    (List (Option (ℕ × T)) × (ℕ × Option Key))
    (coded× (coded_list (coded_option (coded× coded_ℕ code))) (coded× coded_ℕ (coded_option key_code)))
    (λ r. (r.items, (r.room, r.out)))
    (λ p. record { items = p.0; room = p.1.0; out = p.1.1 })
    (λ _. refl)

module _ {T : Type 0} where
  -- a value, if it stands at this place
  abbrev pub if_placed : ℕ → Option (ℕ × T) → Option T
  if_placed place None = None
  if_placed place (Some e) = if nat_eq e.0 place then Some e.1 else None

  -- the value of a key, if its number stands at its place
  abbrev pub find : List (Option (ℕ × T)) → ℕ → ℕ → Option T
  find xs place serial = if_placed place (at xs serial)

  -- with another value at a key
  abbrev pub with_value : Registry T → ℕ → ℕ → T → Registry T
  with_value r place serial value = record r { items = put_at r.items serial (place, value) }

  -- the value is handed back: every number is drawn, or else memory was wanted, for which there was no room
  abbrev pub IsInsertFault : Registry T → T → InsertFault T → Type 0
  IsInsertFault r value (Spent back) = (back ≡ value) × (length r.items ≡ 2 ^ 64 - 1)
  IsInsertFault r value (NoMemory back) = (back ≡ value) × (r.room ≡ 0) × (length r.items < 2 ^ 64 - 1)
