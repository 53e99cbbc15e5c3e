-- Laws of the sweep: what is swept already, what is left after things went, and that to sweep on the way changes nothing.

use Rattle.std.proofs.Common.{◌≡◌, ℕ, ◌+◌, ◌<◌, ◌≤◌, Bool, true, false, ◌&&◌, List, length, Option, Some, None, refl, ap, ◌∙◌, arith, nat_eq, nat_lt, if◌then◌else◌}
use Rattle.std.proofs.lemmas.Bool.Decides.{nat_tests}
use Rattle.pf_machine.specs.Numbered.{at, keep, one_if}
use Rattle.pf_machine.proofs.NumberedLaws.{is_kept, length-keep, at-keep, sum_of-le, sum_of-le-two, sum_of-keep}
use Rattle.pf_machine.specs.State.{State, Process, Description, Pipe}
use Rattle.pf_machine.specs.Counts.{names, ends, readers, writers}
use Rattle.pf_machine.specs.Sweep.{live_descriptions, live_pipes, sweep}

-- Ends

-- each description reads or writes
abbrev pub IsSided : {N : Type 0} → List (Option (Description N)) → Type 0
IsSided {N} ds = (n : ℕ) (d : Description N) → at ds n ≡ Some d → 0 < one_if d.reads + one_if d.writes

end-le-sides : (b reads writes : Bool) → 0 < one_if reads + one_if writes → one_if b ≤ one_if (b && reads) + one_if (b && writes)
end-le-sides true reads writes h = h
end-le-sides false reads writes h = omega arith

side-le-end : (b side : Bool) → one_if (b && side) ≤ one_if b
side-le-end true true = omega arith
side-le-end true false = omega arith
side-le-end false side = omega arith

module _ {X N : Type 0} (number : N → ℕ) (s : State X N) (p : ℕ) where
  -- a pipe that nobody reads or writes has no end
  pub ends-le-sides : IsSided s.descriptions → ends number s.descriptions p ≤ readers number s p + writers number s p
  ends-le-sides sided =
      sum_of-le-two (λ d. one_if (nat_eq (number d.pipe) p)) (λ d. one_if (nat_eq (number d.pipe) p && d.reads)) (λ d. one_if (nat_eq (number d.pipe) p && d.writes)) s.descriptions
      (λ n d e. end-le-sides (nat_eq (number d.pipe) p) d.reads d.writes (sided n d e))

  -- who reads or writes a pipe is an end of it
  pub readers-le-ends : readers number s p ≤ ends number s.descriptions p
  readers-le-ends =
      sum_of-le (λ d. one_if (nat_eq (number d.pipe) p && d.reads)) (λ d. one_if (nat_eq (number d.pipe) p)) s.descriptions (λ n d e. side-le-end (nat_eq (number d.pipe) p) d.reads)

  pub writers-le-ends : writers number s p ≤ ends number s.descriptions p
  writers-le-ends =
      sum_of-le (λ d. one_if (nat_eq (number d.pipe) p && d.writes)) (λ d. one_if (nat_eq (number d.pipe) p)) s.descriptions (λ n d e. side-le-end (nat_eq (number d.pipe) p) d.writes)

-- The sweep

positive : (n : ℕ) → nat_lt 0 n ≡ true → 0 < n
positive n h = grind (arith, nat_tests)

none : (n : ℕ) → nat_lt 0 n ≡ false → n ≡ 0
none n h = grind (arith, nat_tests)

-- a number that nothing stands at where its count is 0
goes : {X : Type 0} (o : Option X) (n : ℕ) → ((x : X) → o ≡ Some x → 0 < n) → nat_lt 0 n ≡ false → o ≡ None
goes None n h e = refl
goes (Some x) n h e = absurd (omega (arith, h x refl, none n e))

fewer : {X : Type 0} (f g : ℕ → ℕ) (xs : List (Option X)) → ((k : ℕ) → f k ≤ g k) → keep (λ n. nat_lt 0 (f n)) (keep (λ n. nat_lt 0 (g n)) xs) ≡ keep (λ n. nat_lt 0 (f n)) xs
fewer f g xs h = is_kept (λ n. nat_lt 0 (f n)) xs _ (length-keep _ _ ∙ length-keep _ _) stays gone
  where
    stays : (k : ℕ) → nat_lt 0 (f k) ≡ true → at (keep (λ n. nat_lt 0 (f n)) (keep (λ n. nat_lt 0 (g n)) xs)) k ≡ at xs k
    stays k t =
        let more : nat_lt 0 (g k) ≡ true = let below = positive _ t in let le = h k in grind (arith, nat_tests) in
        at-keep (λ n. nat_lt 0 (f n)) (keep (λ n. nat_lt 0 (g n)) xs) k ∙ ap (λ b. if b then at (keep (λ n. nat_lt 0 (g n)) xs) k else None) t
        ∙ at-keep (λ n. nat_lt 0 (g n)) xs k ∙ ap (λ b. if b then at xs k else None) more

    gone : (k : ℕ) → nat_lt 0 (f k) ≡ false → at (keep (λ n. nat_lt 0 (f n)) (keep (λ n. nat_lt 0 (g n)) xs)) k ≡ None
    gone k t = at-keep (λ n. nat_lt 0 (f n)) (keep (λ n. nat_lt 0 (g n)) xs) k ∙ ap (λ b. if b then at (keep (λ n. nat_lt 0 (g n)) xs) k else None) t

abbrev pub with_processes : {X N : Type 0} → State X N → List (Option (Process N)) → State X N
with_processes s ps = record s { processes = ps }

module _ {X N : Type 0} (number : N → ℕ) where
  -- what is named stays as it was, and what stands is named: so the rest was swept
  pub swept : (s : State X N) (ps : List (Option (Process N))) (ds : List (Option (Description N))) (pipes : List (Option (Pipe X)))
      → length ds ≡ length s.descriptions → length pipes ≡ length s.pipes
      → ((k : ℕ) → 0 < names number ps k → at ds k ≡ at s.descriptions k) → ((k : ℕ) (d : Description N) → at ds k ≡ Some d → 0 < names number ps k)
      → ((k : ℕ) → 0 < ends number ds k → at pipes k ≡ at s.pipes k) → ((k : ℕ) (p : Pipe X) → at pipes k ≡ Some p → 0 < ends number ds k)
      → record s { processes = ps; descriptions = ds; pipes = pipes } ≡ sweep number (with_processes s ps)
  swept s ps ds pipes e f stay named keeps used =
      let first : ds ≡ live_descriptions number ps s.descriptions =
      is_kept (λ n. nat_lt 0 (names number ps n)) s.descriptions ds e (λ k t. stay k (positive _ t)) (λ k t. goes (at ds k) (names number ps k) (named k) t) in
      let second : pipes ≡ live_pipes number ds s.pipes =
      is_kept (λ p. nat_lt 0 (ends number ds p)) s.pipes pipes f (λ k t. keeps k (positive _ t)) (λ k t. goes (at pipes k) (ends number ds k) (used k) t) in
      joined ds pipes first second
    where
      joined : (xs : List (Option (Description N))) (ys : List (Option (Pipe X))) → xs ≡ live_descriptions number ps s.descriptions → ys ≡ live_pipes number xs s.pipes → ◌≡◌ {A = State X N} (record s { processes = ps; descriptions = xs; pipes = ys }) (sweep number (with_processes s ps))
      joined xs ys p q = cc

  -- a state in which all that stands is named is swept
  pub already : (s : State X N) → ((k : ℕ) (d : Description N) → at s.descriptions k ≡ Some d → 0 < names number s.processes k) → ((k : ℕ) (p : Pipe X) → at s.pipes k ≡ Some p → 0 < ends number s.descriptions k) → s ≡ sweep number s
  already s named used = swept s s.processes s.descriptions s.pipes refl refl (λ k h. refl) named (λ k h. refl) used

  -- to sweep before names go changes nothing
  pub sweep-sweep : (s : State X N) (qs ps : List (Option (Process N))) → ((k : ℕ) → names number ps k ≤ names number qs k) → sweep number (with_processes (sweep number (with_processes s qs)) ps) ≡ sweep number (with_processes s ps)
  sweep-sweep s qs ps h =
      let between = live_descriptions number qs s.descriptions in
      let first : live_descriptions number ps between ≡ live_descriptions number ps s.descriptions = fewer (names number ps) (names number qs) s.descriptions h in
      let second : live_pipes number (live_descriptions number ps between) (live_pipes number between s.pipes) ≡ live_pipes number (live_descriptions number ps between) s.pipes =
      fewer (ends number (live_descriptions number ps between)) (ends number between) s.pipes (λ k. sum_of-keep (λ d. one_if (nat_eq (number d.pipe) k)) (λ n. nat_lt 0 (names number ps n)) between) in
      joined (live_descriptions number ps between) _ first second
    where
      joined : (xs : List (Option (Description N))) (ys : List (Option (Pipe X))) → xs ≡ live_descriptions number ps s.descriptions → ys ≡ live_pipes number xs s.pipes → ◌≡◌ {A = State X N} (record s { processes = ps; descriptions = xs; pipes = ys }) (sweep number (with_processes s ps))
      joined xs ys p q = cc
