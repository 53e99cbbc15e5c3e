-- The pipe of a FIFO, as the tables find it by its key and as the machine does.

use Rattle.std.proofs.Common.{◌≡◌, ℕ, zero, suc, Bool, true, false, List, [], ◌∷◌, Option, Some, None}
use Rattle.std.proofs.Common.{nat_eq, if◌then◌else◌, refl, sym, ap, ◌∙◌, arith}
use Rattle.pf_tables.proofs.Fifos.{of_file}
use Rattle.pf_tables.specs.Rows.{file_at, files_of}
use Rattle.pf_tables.proofs.Refusals.{same_some}
use Rattle.pf_tables.proofs.Common.{option_map, lookup, itself, Files, at, fifo_pipe, ProcessRows}
use Rattle.pf_tables.proofs.Common.{DescriptionRows, PipeRows, Key, Pipe, opens_at, opens_of, pipe_of, state_of, Tied}
use Rattle.pf_tables.proofs.Common.{AreFifos, eq-eqb}
use Rattle.pf_tables.specs.Opened.{readers_of, readers_at}
use Rattle.pf_machine.specs.Opens.{first_where, is_of_file, fifo_readers}
use Rattle.pf_tables.proofs.Ends.{as_kept, counted}
use Rattle.pf_tables.proofs.TablesShown.{find_at, was}
use Rattle.pf_machine.proofs.MapLaws.{first_where-map}

-- The least number that passes a test

module _ {X : Type 0} (test : X → Bool) where
  abbrev next : Bool → List (Option X) → Option ℕ
  next b xs = if b then Some 0 else option_map (λ n. suc n) (first_where test xs)

  pub first_is : (xs : List (Option X)) (n : ℕ) (x : X) → at xs n ≡ Some x → test x ≡ true
      → ((k : ℕ) (y : X) → at xs k ≡ Some y → test y ≡ true → k ≡ n) → first_where test xs ≡ Some n
  first_is [] n x h t one = absurd (cc)
  first_is (None ∷ xs) zero x h t one = absurd (cc)
  first_is (None ∷ xs) (suc n) x h t one =
      ap (option_map (λ m. suc m)) (first_is xs n x h t
      (λ k y g s. let after = one (suc k) y g s in omega (arith, after)))
  first_is (Some y ∷ xs) zero x h t one = let same : y ≡ x = cc in ap (λ b. next b xs) (ap test same ∙ t)
  first_is (Some y ∷ xs) (suc n) x h t one =
      by_test (test y) refl (first_is xs n x h t (λ k z g s. let after = one (suc k) z g s in omega (arith, after)))
    where
      by_test : (b : Bool) → test y ≡ b → first_where test xs ≡ Some n → next b xs ≡ Some (suc n)
      by_test true e rest = let before = one 0 y refl e in absurd (omega (arith, before))
      by_test false e rest = ap (option_map (λ m. suc m)) rest

  pub first_none : (xs : List (Option X)) → ((k : ℕ) (y : X) → at xs k ≡ Some y → test y ≡ false)
      → first_where test xs ≡ None
  first_none [] all = refl
  first_none (None ∷ xs) all = ap (option_map (λ m. suc m)) (first_none xs (λ k. all (suc k)))
  first_none (Some y ∷ xs) all =
      ap (λ b. next b xs) (all 0 y refl) ∙ ap (option_map (λ m. suc m)) (first_none xs (λ k. all (suc k)))

not_of_file : (file : ℕ) (o : Option ℕ) → (o ≡ Some file → ⊥) → is_of_file file o ≡ false
not_of_file file o other = by_test (is_of_file file o) refl
  where
    by_test : (b : Bool) → is_of_file file o ≡ b → b ≡ false
    by_test true e = absurd (other (of_file file o e))
    by_test false e = refl

-- a key is that of a FIFO's pipe
module _ (es : List (ℕ × Key)) {drawn : ℕ} (pipes : PipeRows) (a : AreFifos es drawn (opens_of pipes)) (file : ℕ) where
  abbrev test : ℕ × Option ℕ → Bool
  test o = is_of_file file o.1

  by_key : (found : Option Key) → lookup (nat_eq file) es ≡ found
      → first_where test (files_of (opens_of pipes)) ≡ option_map (λ k. k.serial) found
  by_key None h =
      first_none test (files_of (opens_of pipes)) (λ n o g. not_of_file file o.1 (λ e. let key = sym h
      ∙ a.keys.there n o.0 file (g ∙ ap (λ x. Some (o.0, x)) e) in absurd (cc)))
  by_key (Some k) h =
      first_is test (files_of (opens_of pipes)) k.serial (k.slot, Some file) (a.keys.finds file k h)
      (eq-eqb file file refl)
      (λ n o g t. ap (λ (x : Key). x.serial) (same_some (sym (a.keys.there n o.0 file
      (g ∙ ap (λ x. Some (o.0, x)) (of_file file o.1 t))) ∙ h)))

  -- it finds the pipe
  pub key_finds : (k : Key) → lookup (nat_eq file) es ≡ Some k
      → (p : Pipe) × (at pipes k.serial ≡ Some (k.slot, p)) × (p.opens.file ≡ Some file)
  key_finds k h =
      let o = was file_at (opens_of pipes) k.serial (k.slot, Some file) (a.keys.finds file k h) in
      let r = was opens_at pipes k.serial o.0 o.1 in
      let is : (r.0.0, r.0.1.opens.file) ≡ (k.slot, Some file) = ap file_at r.2 ∙ o.2 in
      (r.0.1, r.1 ∙ ap (λ (y : ℕ × Option ℕ). Some (y.0, r.0.1)) is, ap (λ (y : ℕ × Option ℕ). y.1) is)

  -- the machine finds it too
  pub fifo_is : (ps : ProcessRows) (ds : DescriptionRows) (files : Files) (files_made : ℕ) (found : Option Key)
      → lookup (nat_eq file) es ≡ found
      → fifo_pipe (state_of ps ds pipes files files_made) file ≡ option_map (λ k. k.serial) found
  fifo_is ps ds files files_made found h =
      first_where-map pipe_of (λ p. is_of_file file p.file) pipes
      ∙ sym (first_where-map opens_at (λ o. is_of_file file o.1.file) pipes)
      ∙ sym (first_where-map file_at test (opens_of pipes)) ∙ by_key found h

  -- and how many read it
  pub readers_are : (ps : ProcessRows) (ds : DescriptionRows) (files : Files) (files_made : ℕ) → Tied ps ds pipes
      → (found : Option Key) → lookup (nat_eq file) es ≡ found
      → let s = state_of ps ds pipes files files_made in
      fifo_readers itself s (fifo_pipe s file) ≡ readers_at pipes found
  readers_are ps ds files files_made t None h =
      ap (fifo_readers itself (state_of ps ds pipes files files_made)) (fifo_is ps ds files files_made None h)
  readers_are ps ds files files_made t (Some k) h =
      let x = key_finds k h in
      ap (fifo_readers itself (state_of ps ds pipes files files_made)) (fifo_is ps ds files files_made (Some k) h)
      ∙ (counted as_kept None files files_made t 0 0 k.serial k.slot x.0 x.1).0
      ∙ sym (ap readers_of (find_at pipes k.slot k.serial x.0 x.1))
