-- A process comes with no keys, or goes with none.

use Rattle.std.proofs.Common.{◌≡◌, ℕ, zero, suc, ◌<◌, [], length, Option, Some, None, refl, sym, ap, ◌∙◌, arith}
use Rattle.std.proofs.lemmas.List.{length-replicate}
use Rattle.pf_tables.proofs.Common.{Files, Limits, at, put_at, clear_at, weight, MAX_PROCESSES, MAX_DESCRIPTORS}
use Rattle.pf_tables.proofs.Common.{UserPages, AreCharged, ProcessRows, DescriptionRows, PipeRows, Process, process_of}
use Rattle.pf_tables.proofs.Common.{pipes_of, state_of, keys_of, keys_to, names_it, Tied, vacant-map, sum_of-none}
use Rattle.pf_machine.specs.FileMap.{root_alone}
use Rattle.pf_machine.specs.State.{vacant, opening}
use Rattle.pf_tables.proofs.TablesTied.{reseated}

pub vacant_at : {X : Type 0} (n k : ℕ) → at {X = X} (vacant n) k ≡ None
unfolding vacant
vacant_at zero k = refl
vacant_at (suc n) zero = refl
vacant_at (suc n) (suc k) = vacant_at n k

pub length-vacant : (X : Type 0) (n : ℕ) → length (vacant {X = X} n) ≡ n
unfolding vacant
length-vacant X n = length-replicate {A = Option X} n None

-- no key in any of its places
abbrev pub IsBare : Process → Type 0
IsBare p = (m : ℕ) → at (keys_of p) m ≡ None

bare_weight : (n : ℕ) (p : Process) → IsBare p → keys_to n p ≡ 0
bare_weight n p bare = sum_of-none (names_it n) (keys_of p) (λ m k h. let none = bare m in absurd (cc))

module _ (ps : ProcessRows) (ds : DescriptionRows) (pipes : PipeRows) (t : Tied ps ds pipes) (i : ℕ)
    (l : i < MAX_PROCESSES) where
  pub made : at ps i ≡ None → (p : Process) → IsBare p → length p.descriptors ≡ MAX_DESCRIPTORS
      → Tied (put_at ps i p) ds pipes
  made none p bare wide =
      reseated t i (omega (arith, t.places, l)) (Some p) [] (λ q e. let it : p ≡ q =
      cc in ap (λ (x : Process). length x.descriptors) (sym it) ∙ wide)
      (λ m q k e g. let it : p ≡ q = cc in let gap = sym (ap (λ (x : Process). at (keys_of x) m) it)
      ∙ bare m in absurd (cc)) tt (λ n. omega (arith, bare_weight n p bare, ap (weight (keys_to n)) none))

  pub gone : (p : Process) → at ps i ≡ Some p → IsBare p → Tied (clear_at ps i) ds pipes
  gone p stands bare =
      reseated t i (omega (arith, t.places, l)) None [] (λ q e. absurd (cc))
      (λ m q k e g. absurd (cc)) tt (λ n. omega (arith, ap (weight (keys_to n)) stands, bare_weight n p bare))

-- Nothing at all

module _ (ps : ProcessRows) (ds : DescriptionRows) (pipes : PipeRows) (bare : ps ≡ vacant MAX_PROCESSES)
    (none : ds ≡ []) (no_pipe : pipes ≡ []) where
  pub nothing_tied : Tied ps ds pipes
  nothing_tied =
      rw (bare, none, no_pipe)
      (record {
        places = length-vacant Process MAX_PROCESSES;
        wide = λ i p h. nobody i p h;
        finds = λ i m p k h g. nobody i p h;
        in_hand = tt;
        names = λ n. omega (arith, sum_of-none (keys_to n) (vacant MAX_PROCESSES) (λ i p h. nobody i p h));
        is_end = λ n e h. absurd (cc);
        ends_in_hand = tt;
        uses = λ n. (refl, refl);
      })
    where
      nobody : {P : Type 0} (i : ℕ) (p : Process) → at (vacant MAX_PROCESSES) i ≡ Some p → P
      nobody i p h = let gap = vacant_at {X = Process} MAX_PROCESSES i in absurd (cc)

  -- nobody is charged
  pub nothing_charged : (limits : Limits) (u : UserPages) → u ≡ record { limits = limits; users = []; total = 0 }
      → AreCharged u (pipes_of pipes)
  nothing_charged limits u is = rw (is, no_pipe) (record { users = λ w. refl; total = refl })

  pub nothing_shown : {files : Files} → files ≡ root_alone → state_of ps ds pipes files 0 ≡ opening
  nothing_shown alone =
      (λ i. state_of (bare i) (none i) (no_pipe i) (alone i) 0)
      ∙ ap (λ xs. record { processes = xs; descriptions = []; pipes = []; files = root_alone; files_made = 0 })
      (vacant-map process_of MAX_PROCESSES)
