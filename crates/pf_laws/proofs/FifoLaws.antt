-- A FIFO has one pipe at most, in every state that a run reaches from the opening state.

use Rattle.std.proofs.Common.{◌≡◌, ◌≢◌, ℕ, zero, suc, Bool, true, false, List, [], ◌∷◌, ◌++◌, length, Option, Some, None, refl, sym, ap, ◌∙◌, subst, ◌⊎◌, inl, inr, ⊎_elim, arith, if◌then◌else◌}
use Rattle.std.proofs.lemmas.Bool.{eqb-true, eq-eqb}
use Rattle.std.specs.Option.{option_map, option_and_then}
use Rattle.pf_base.specs.Limits.{Limits}
use Rattle.pf_machine.specs.Queue.{Segment, Queue}
use Rattle.pf_machine.specs.Numbered.{at, change_at, keep}
use Rattle.pf_machine.proofs.NumberedLaws.{at-keep}
use Rattle.pf_machine.specs.State.{State, Pipe, opening, holding}
use Rattle.pf_machine.specs.Pipes.{new_pipe}
use Rattle.pf_machine.specs.Opens.{first_where, is_of_file, counted}
use Rattle.pf_laws.specs.Standing.{OneFifoEach, reached}
use Rattle.pf_base.specs.declared.step.Step.{Step}
use Rattle.pf_laws.proofs.KeepLaws.{Kept, kept-run}

-- Pipes by the numbers of their FIFOs

abbrev pub Pipes : Type 0
Pipes = List (Option (Pipe Segment))

-- the FIFO of the pipe at a number, if there is one
abbrev pub file_at : Pipes → ℕ → Option ℕ
file_at ps n = option_and_then (λ (p : Pipe Segment). p.file) (at ps n)

-- two pipes of one FIFO are one
pub record Apart (ps : Pipes) : Type 0 where
  pub one : (m n file : ℕ) → file_at ps m ≡ Some file → file_at ps n ≡ Some file → m ≡ n

-- what changes no pipe's FIFO, or takes pipes away
fewer : (ps qs : Pipes) → ((k file : ℕ) → file_at qs k ≡ Some file → file_at ps k ≡ Some file) → Apart ps → Apart qs
fewer ps qs h a = record { one = λ m n file e f. a.one m n file (h m file e) (h n file f) }

pub changed : (f : Pipe Segment → Pipe Segment) → ((x : Pipe Segment) → (f x).file ≡ x.file) → (ps : Pipes) (n k : ℕ) → file_at (change_at f ps n) k ≡ file_at ps k
changed f h [] n k = refl
changed f h (None ∷ ps) zero zero = refl
changed f h (Some x ∷ ps) zero zero = h x
changed f h (y ∷ ps) zero (suc k) = refl
changed f h (y ∷ ps) (suc n) zero = refl
changed f h (y ∷ ps) (suc n) (suc k) = changed f h ps n k

apart-changed : (f : Pipe Segment → Pipe Segment) → ((x : Pipe Segment) → (f x).file ≡ x.file) → (ps : Pipes) (n : ℕ) → Apart ps → Apart (change_at f ps n)
apart-changed f h ps n a = fewer ps (change_at f ps n) (λ k file e. sym (changed f h ps n k) ∙ e) a

apart-holding : (ps : Pipes) (n : ℕ) (q : Queue) → Apart ps → Apart (change_at (holding q) ps n)
apart-holding ps n q a = apart-changed (holding q) (λ x. refl) ps n a

-- what is kept was there
pub kept_file : (test : ℕ → Bool) (ps : Pipes) (k file : ℕ) → file_at (keep test ps) k ≡ Some file → file_at ps k ≡ Some file
kept_file test ps k file e = by_test (test k) (ap (λ (o : Option (Pipe Segment)). option_and_then (λ p. p.file) o) (sym (at-keep test ps k)) ∙ e)
  where
    by_test : (b : Bool) → option_and_then (λ (p : Pipe Segment). p.file) (if b then at ps k else None) ≡ Some file → file_at ps k ≡ Some file
    by_test true e = e
    by_test false e = absurd (cc)

apart-keep : (test : ℕ → Bool) (ps : Pipes) → Apart ps → Apart (keep test ps)
apart-keep test ps a = fewer ps (keep test ps) (kept_file test ps) a

-- one more pipe: what stands then stood before, or is the new one
pub pushed : (ps : Pipes) (x : Pipe Segment) (k file : ℕ) → file_at (ps ++ Some x ∷ []) k ≡ Some file → (file_at ps k ≡ Some file) ⊎ ((k ≡ length ps) × (x.file ≡ Some file))
pushed [] x zero file e = inr (refl, e)
pushed [] x (suc k) file e = absurd (cc)
pushed (y ∷ ps) x zero file e = inl e
pushed (y ∷ ps) x (suc k) file e = ⊎_elim (λ h. inl h) (λ h. inr (omega (arith, h.0), h.1)) (pushed ps x k file e)

apart-push : (ps : Pipes) (x : Pipe Segment) → x.file ≡ None → Apart ps → Apart (ps ++ Some x ∷ [])
apart-push ps x none a = fewer ps (ps ++ Some x ∷ []) (λ k file e. ⊎_elim (λ h. h) (λ h. absurd (let both : None ≡ Some file = sym none ∙ h.1 in cc)) (pushed ps x k file e)) a

-- the least number of a pipe of a FIFO
abbrev pub found_in : ℕ → Pipes → Option ℕ
found_in file ps = first_where (λ (p : Pipe Segment). is_of_file file p.file) ps

unmapped : (o : Option ℕ) → option_map (λ n. suc n) o ≡ None → o ≡ None
unmapped None e = refl
unmapped (Some n) e = absurd (cc)

-- where none is found there is none
unfound : (file : ℕ) (ps : Pipes) → found_in file ps ≡ None → (k : ℕ) → file_at ps k ≢ Some file
unfound file [] e k f = absurd (cc)
unfound file (None ∷ ps) e zero f = absurd (cc)
unfound file (None ∷ ps) e (suc k) f = unfound file ps (unmapped (found_in file ps) e) k f
unfound file (Some x ∷ ps) e k f = by_test (is_of_file file x.file) refl (λ none k. unfound file ps none k) k f e
  where
    by_test : (b : Bool) → is_of_file file x.file ≡ b → (found_in file ps ≡ None → (k : ℕ) → file_at ps k ≢ Some file) → (k : ℕ) → file_at (Some x ∷ ps) k ≡ Some file → (if b then Some 0 else option_map (λ n. suc n) (found_in file ps)) ≡ None → ⊥
    by_test true is rest k f e = absurd (cc)
    by_test false is rest zero f e = let own : is_of_file file x.file ≡ true = ap (is_of_file file) f ∙ eq-eqb file file refl in let both : false ≡ true = sym is ∙ own in absurd (cc)
    by_test false is rest (suc k) f e = rest (unmapped (found_in file ps) e) k f

apart-fifo : (ps : Pipes) (q : Queue) (owner file : ℕ) → found_in file ps ≡ None → Apart ps → Apart (ps ++ Some (new_pipe q owner (Some file)) ∷ [])
apart-fifo ps q owner file none a = record { one = λ m n g e f. by_both m n g (pushed ps x m g e) (pushed ps x n g f) }
  where
    x : Pipe Segment
    x = new_pipe q owner (Some file)

    new : (g k : ℕ) → Some file ≡ Some g → file_at ps k ≡ Some g → ⊥
    new g k e f = unfound file ps none k (f ∙ sym e)

    by_both : (m n g : ℕ) → (file_at ps m ≡ Some g) ⊎ ((m ≡ length ps) × (x.file ≡ Some g)) → (file_at ps n ≡ Some g) ⊎ ((n ≡ length ps) × (x.file ≡ Some g)) → m ≡ n
    by_both m n g (inl e) (inl f) = a.one m n g e f
    by_both m n g (inl e) (inr f) = absurd (new g m f.1 e)
    by_both m n g (inr e) (inl f) = absurd (new g n e.1 f)
    by_both m n g (inr e) (inr f) = e.0 ∙ sym f.0

-- what is found behind the first place
found_behind : (file : ℕ) (y : Option (Pipe Segment)) (ps : Pipes) → ((n : ℕ) → found_in file ps ≡ Some n → file_at ps n ≡ Some file) → (o : Option ℕ) → found_in file ps ≡ o → (m : ℕ) → option_map (λ n. suc n) o ≡ Some m → file_at (y ∷ ps) m ≡ Some file
found_behind file y ps rest None is m e = absurd (cc)
found_behind file y ps rest (Some n) is m e = let next : suc n ≡ m = cc in subst (λ k. file_at (y ∷ ps) k ≡ Some file) next (rest n is)

-- what is found is of the FIFO
pub found_at : (file : ℕ) (ps : Pipes) (m : ℕ) → found_in file ps ≡ Some m → file_at ps m ≡ Some file
found_at file [] m e = absurd (cc)
found_at file (None ∷ ps) m e = found_behind file None ps (λ n is. found_at file ps n is) (found_in file ps) refl m e
found_at file (Some x ∷ ps) m e = by_test (is_of_file file x.file) refl (λ n is. found_at file ps n is) m e
  where
    its_file : (o : Option ℕ) → is_of_file file o ≡ true → o ≡ Some file
    its_file None is = absurd (cc)
    its_file (Some n) is = ap (λ k. Some k) (eqb-true n file is)

    by_test : (b : Bool) → is_of_file file x.file ≡ b → ((n : ℕ) → found_in file ps ≡ Some n → file_at ps n ≡ Some file) → (m : ℕ) → (if b then Some 0 else option_map (λ n. suc n) (found_in file ps)) ≡ Some m → file_at (Some x ∷ ps) m ≡ Some file
    by_test true is rest m e = let next : 0 ≡ m = cc in subst (λ k. file_at (Some x ∷ ps) k ≡ Some file) next (its_file x.file is)
    by_test false is rest m e = found_behind file (Some x) ps rest (found_in file ps) refl m e

pub finds : (ps : Pipes) → Apart ps → (n file : ℕ) → file_at ps n ≡ Some file → found_in file ps ≡ Some n
finds ps a n file e = by_found (found_in file ps) refl
  where
    by_found : (o : Option ℕ) → found_in file ps ≡ o → o ≡ Some n
    by_found None is = absurd (unfound file ps is n e)
    by_found (Some m) is = ap (λ k. Some k) (a.one m n file (found_at file ps m is) e)

-- Steps

abbrev IsApart : State Segment ℕ → Type 0
IsApart s = Apart s.pipes

others : Kept IsApart
others = record {
  people = λ s ps h. h;
  drawn = λ s ds h. h;
  held = λ s n q h. apart-holding s.pipes n q h;
  opens = λ s a n h. apart-changed (counted a) (λ x. refl) s.pipes n h;
  fifo = λ s q owner f there e h. apart-fifo s.pipes q owner f.number e h;
  piped = λ s q owner h. apart-push s.pipes (new_pipe q owner None) refl h;
  fewer = λ s test h. apart-keep test s.pipes h;
  made = λ s c kind path mode files e h. h;
  filed = λ s c files how h. h;
}

pub one_fifo_each : (c : Limits) (xs : List Step) → OneFifoEach (reached c xs)
one_fifo_each c xs = record {
  one = λ m n file p q e f g h. apart.one m n file (file_of m p file e g) (file_of n q file f h);
  found = λ n file p e g. finds (reached c xs).pipes apart n file (file_of n p file e g);
}
  where
    apart : Apart (reached c xs).pipes
    apart = kept-run IsApart others c opening xs (record { one = λ m n file e f. absurd (cc) })

    file_of : (n : ℕ) (p : Pipe Segment) (file : ℕ) → at (reached c xs).pipes n ≡ Some p → p.file ≡ Some file → file_at (reached c xs).pipes n ≡ Some file
    file_of n p file e g = ap (λ (o : Option (Pipe Segment)). option_and_then (λ p. p.file) o) e ∙ g
