-- What a contract sees of a call.

use Rattle.std.specs.Prelude.{◌≡◌, ℕ, Bool, true, false, ◌⊎◌, refl}
use Rattle.std.specs.Coded.{Coded, code_by, coded×, coded⊎, coded_ℕ, coded_bool}
use Rattle.std.proofs.Common.{inl, inr}
use Rattle.pf_base.specs.declared.progress.Crossing.{Crossing}
use Rattle.pf_base.specs.declared.progress.Crossing.TheVariants.{Tee, Splice}
use Rattle.pf_parked.specs.UnfinishedWrite.{UnfinishedWrite, write_code}
use Rattle.pf_parked.specs.declared.call.Call.{Call}
use Rattle.pf_parked.specs.declared.call.Call.TheVariants.{Open, Read, Write, Cross}

-- a crossing is stored as whether it is a tee

abbrev is_tee : Crossing → Bool
is_tee Tee = true
is_tee Splice = false

abbrev crossing : Bool → Crossing
crossing true = Tee
crossing false = Splice

pub crossing-is_tee : (c : Crossing) → crossing (is_tee c) ≡ c
crossing-is_tee Tee = refl
crossing-is_tee Splice = refl

abbrev pub crossing_code : Coded Crossing
crossing_code = code_by Bool coded_bool is_tee crossing crossing-is_tee

-- a call is stored as the tuple of its fields, with its kind

abbrev Fields : Type 0 → Type 0
Fields D = (D × ℕ) ⊎ ((ℕ × ℕ) ⊎ ((ℕ × UnfinishedWrite) ⊎ (Crossing × (ℕ × (ℕ × ℕ)))))

module _ {D : Type 0} where
  abbrev fields : Call D → Fields D
  fields (Open description kept) = inl (description, kept)
  fields (Read fd n) = inr (inl (fd, n))
  fields (Write fd write) = inr (inr (inl (fd, write)))
  fields (Cross c source sink n) = inr (inr (inr (c, (source, (sink, n)))))

  abbrev call : Fields D → Call D
  call (inl f) = Open f.0 f.1
  call (inr (inl f)) = Read f.0 f.1
  call (inr (inr (inl f))) = Write f.0 f.1
  call (inr (inr (inr f))) = Cross f.0 f.1.0 f.1.1.0 f.1.1.1

  pub call-fields : (c : Call D) → call (fields c) ≡ c
  call-fields (Open description kept) = refl
  call-fields (Read fd n) = refl
  call-fields (Write fd write) = refl
  call-fields (Cross c source sink n) = refl

  abbrev pub call_code : Coded D → Coded (Call D)
  call_code code =
      code_by
      (Fields D)
      (coded⊎
      (coded× code coded_ℕ)
      (coded⊎
      (coded× coded_ℕ coded_ℕ)
      (coded⊎ (coded× coded_ℕ write_code) (coded× crossing_code (coded× coded_ℕ (coded× coded_ℕ coded_ℕ))))))
      fields
      call
      call-fields
