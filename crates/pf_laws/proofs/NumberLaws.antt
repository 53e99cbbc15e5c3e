-- Numbers of files: no two paths have files of one number, and none of a file or of a FIFO's pipe is still to be drawn, in
-- every state that a run reaches from the opening state.

use Rattle.std.proofs.Common.{◌≡◌, ℕ, ◌+◌, ◌≤◌, Bool, true, false, List, [], ◌∷◌, ◌++◌, Option, Some, None, refl, sym, ap, ◌∙◌, ◌⊎◌, inl, inr, ⊎_elim, arith, if◌then◌else◌}
use Rattle.pf_base.specs.Limits.{Limits}
use Rattle.pf_machine.specs.FileMap.{Files, Path, find, insert, remove, set_mode, same_path, with_mode, root_alone}
use Rattle.pf_base.specs.Root.{root}
use Rattle.pf_machine.specs.FileCalls as calls
use Rattle.pf_machine.specs.FileCalls.{made_by}
use Rattle.pf_machine.specs.Files.{with_files, with_new}
use Rattle.pf_machine.specs.Queue.{Segment, Queue}
use Rattle.pf_machine.specs.Numbered.{change_at, keep}
use Rattle.pf_machine.specs.State.{State, opening, holding}
use Rattle.pf_machine.specs.Pipes.{new_pipe}
use Rattle.pf_machine.specs.Opens.{Access, fifo_pipe, counted}
use Rattle.pf_laws.specs.Standing.{NumbersApart, reached}
use Rattle.pf_base.specs.declared.cred.Cred.{Cred}
use Rattle.pf_base.specs.declared.meta.File.{File}
use Rattle.pf_base.specs.declared.meta.Kind.{Kind}
use Rattle.pf_base.specs.declared.step.Step.{Step}
use Rattle.pf_machine.proofs.FileLaws.{same_path-eq, moded, find-insert, find-remove_same, find-remove_other, find-set_mode}
use Rattle.pf_machine.proofs.HoldsLaws.{Holds, carries, passes, of_given}
use Rattle.pf_laws.proofs.KeepLaws.{Kept, kept-run}
use Rattle.pf_machine.proofs.AttemptLaws.{There}
use Rattle.pf_machine.proofs.StepLaws.{Refiled, Unlinked, Removed, Remoded}
use Rattle.pf_laws.proofs.FifoLaws.{Pipes, file_at, changed, kept_file, pushed, found_at}

-- of files, where so many were made, and of pipes
pub record Numbers (files : Files) (made : ℕ) (ps : Pipes) : Type 0 where
  pub one : (p q : Path) (f g : File) → find p files ≡ Some f → find q files ≡ Some g → f.number ≡ g.number → p ≡ q
  pub drawn : (p : Path) (f : File) → find p files ≡ Some f → f.number ≤ made
  pub opened : (n file : ℕ) → file_at ps n ≡ Some file → file ≤ made

-- Changes

same_file : (f g : File) → Some f ≡ Some g → f ≡ g
same_file f g e = cc

-- a new file has the next number
module _ (files : Files) (made : ℕ) (ps : Pipes) (is : Numbers files made ps) where
  numbers-insert : (p : Path) (f : File) → f.number ≡ made + 1 → Numbers (insert p f files) (made + 1) ps
  numbers-insert p f next = record { one = one; drawn = drawn; opened = λ n file e. omega (arith, is.opened n file e) }
    where
      found : (q : Path) (g : File) → find q (insert p f files) ≡ Some g → ((q ≡ p) × (f ≡ g)) ⊎ (find q files ≡ Some g)
      found q g e = by_test (same_path q p) refl (sym (find-insert q p f files) ∙ e)
        where
          by_test : (b : Bool) → same_path q p ≡ b → (if b then Some f else find q files) ≡ Some g → ((q ≡ p) × (f ≡ g)) ⊎ (find q files ≡ Some g)
          by_test true t e = inl (same_path-eq q p t, same_file f g e)
          by_test false t e = inr e

      number : (g : File) → f ≡ g → g.number ≡ made + 1
      number g e = sym (ap (λ (h : File). h.number) e) ∙ next

      drawn : (q : Path) (g : File) → find q (insert p f files) ≡ Some g → g.number ≤ made + 1
      drawn q g e = ⊎_elim (λ h. omega (arith, number g h.1)) (λ h. omega (arith, is.drawn q g h)) (found q g e)

      one : (q r : Path) (g h : File) → find q (insert p f files) ≡ Some g → find r (insert p f files) ≡ Some h → g.number ≡ h.number → q ≡ r
      one q r g h e k same = by_both (found q g e) (found r h k)
        where
          by_both : ((q ≡ p) × (f ≡ g)) ⊎ (find q files ≡ Some g) → ((r ≡ p) × (f ≡ h)) ⊎ (find r files ≡ Some h) → q ≡ r
          by_both (inl a) (inl b) = a.0 ∙ sym b.0
          by_both (inl a) (inr b) = absurd (omega (arith, number g a.1, is.drawn r h b, same))
          by_both (inr a) (inl b) = absurd (omega (arith, number h b.1, is.drawn q g a, same))
          by_both (inr a) (inr b) = is.one q r g h a b same

  -- what is there then was there before, with this number
  numbers-fewer : (others : Files) → ((q : Path) (g : File) → find q others ≡ Some g → (f : File) × ((find q files ≡ Some f) × (f.number ≡ g.number))) → Numbers others made ps
  numbers-fewer others was = record {
    one = λ q r g h e k same. let a = was q g e in let b = was r h k in is.one q r a.0 b.0 a.1.0 b.1.0 (a.1.1 ∙ same ∙ sym b.1.1);
    drawn = λ q g e. let a = was q g e in let less : a.0.number ≤ made = is.drawn q a.0 a.1.0 in omega (arith, less, a.1.1);
    opened = is.opened;
  }

  numbers-remove : (p : Path) → Numbers (remove p files) made ps
  numbers-remove p = numbers-fewer (remove p files) (λ q g e. (g, (was q g e (same_path q p) refl, refl)))
    where
      was : (q : Path) (g : File) → find q (remove p files) ≡ Some g → (b : Bool) → same_path q p ≡ b → find q files ≡ Some g
      was q g e true t = absurd (let gone : find q (remove p files) ≡ None = ap (λ r. find r (remove p files)) (same_path-eq q p t) ∙ find-remove_same p files in cc)
      was q g e false t = sym (find-remove_other q p files t) ∙ e

  numbers-set_mode : (p : Path) (mode : ℕ) → Numbers (set_mode p mode files) made ps
  numbers-set_mode p mode = numbers-fewer (set_mode p mode files) (λ q g e. was q g (find q files) refl (sym (find-set_mode q p mode files) ∙ e))
    where
      number : (b : Bool) (f : File) → (if b then with_mode mode f else f).number ≡ f.number
      number true f = refl
      number false f = refl

      was : (q : Path) (g : File) (o : Option File) → find q files ≡ o → moded q p mode o ≡ Some g → (f : File) × ((find q files ≡ Some f) × (f.number ≡ g.number))
      was q g None is e = absurd (cc)
      was q g (Some f) is e = (f, (is, sym (number (same_path p q) f) ∙ ap (λ (h : File). h.number) (same_file _ g e)))

  -- pipes that were there, or the new one of a file
  numbers-pipes : (qs : Pipes) → ((n file : ℕ) → file_at qs n ≡ Some file → file_at ps n ≡ Some file) → Numbers files made qs
  numbers-pipes qs was = record { one = is.one; drawn = is.drawn; opened = λ n file e. is.opened n file (was n file e) }

  numbers-holding : (n : ℕ) (q : Queue) → Numbers files made (change_at (holding q) ps n)
  numbers-holding n q = numbers-pipes (change_at (holding q) ps n) (λ k file e. sym (changed (holding q) (λ x. refl) ps n k) ∙ e)

  numbers-counted : (a : Access) (n : ℕ) → Numbers files made (change_at (counted a) ps n)
  numbers-counted a n = numbers-pipes (change_at (counted a) ps n) (λ k file e. sym (changed (counted a) (λ x. refl) ps n k) ∙ e)

  numbers-keep : (test : ℕ → Bool) → Numbers files made (keep test ps)
  numbers-keep test = numbers-pipes (keep test ps) (kept_file test ps)

  numbers-new : (q : Queue) (owner : ℕ) → Numbers files made (ps ++ Some (new_pipe q owner None) ∷ [])
  numbers-new q owner = numbers-pipes (ps ++ Some (new_pipe q owner None) ∷ []) (λ k file e. ⊎_elim (λ h. h) (λ h. absurd (let none : None ≡ Some file = h.1 in cc)) (pushed ps (new_pipe q owner None) k file e))

  numbers-fifo : (q : Queue) (owner : ℕ) (f : File) → There files f → Numbers files made (ps ++ Some (new_pipe q owner (Some f.number)) ∷ [])
  numbers-fifo q owner f there = record { one = is.one; drawn = is.drawn; opened = opened }
    where
      opened : (n file : ℕ) → file_at (ps ++ Some (new_pipe q owner (Some f.number)) ∷ []) n ≡ Some file → file ≤ made
      opened n file e = ⊎_elim (λ h. is.opened n file h) (λ h. let same : f.number ≡ file = cc_of h.1 in omega (arith, same, is.drawn there.path f there.stands)) (pushed ps (new_pipe q owner (Some f.number)) n file e)
        where
          cc_of : Some f.number ≡ Some file → f.number ≡ file
          cc_of e = cc

-- Steps

abbrev IsNumbered : State Segment ℕ → Type 0
IsNumbered s = Numbers s.files s.files_made s.pipes

-- a file that is made gets the next number
files-made : (s : State Segment ℕ) → IsNumbered s → (c : Cred) (kind : Kind) (path : List ℕ) (mode : ℕ)
    → Holds (λ files. IsNumbered (with_new s files)) (calls.make kind s.files s.files_made c path mode)
files-made s m c kind path mode = search (carries, passes, inserted) depth 24
  where
    inserted : (p : Path) → Numbers (insert p (made_by c kind mode s.files_made) s.files) (s.files_made + 1) s.pipes
    inserted p = numbers-insert s.files s.files_made s.pipes m p (made_by c kind mode s.files_made) refl

files-left : (s : State Segment ℕ) (c : Cred) (files : Files) → Refiled s.files c files → IsNumbered s
    → IsNumbered (with_files s files)
files-left s c files how m = by_call how
  where
    Left : Files → Type 0
    Left fs = Numbers fs s.files_made s.pipes

    removed : (p : Path) → Left (remove p s.files)
    removed p = numbers-remove s.files s.files_made s.pipes m p

    remoded : (p : Path) (mode : ℕ) → Left (set_mode p mode s.files)
    remoded p mode = numbers-set_mode s.files s.files_made s.pipes m p mode

    by_call : Refiled s.files c files → Left files
    by_call (Unlinked path e) = of_given Left _ files e (search (carries, passes, removed) depth 24)
    by_call (Removed path e) = of_given Left _ files e (search (carries, passes, removed) depth 24)
    by_call (Remoded path mode e) = of_given Left _ files e (search (carries, passes, remoded) depth 24)

others : Kept IsNumbered
others = record {
  people = λ s ps h. h;
  drawn = λ s ds h. h;
  held = λ s n q h. numbers-holding s.files s.files_made s.pipes h n q;
  opens = λ s a n h. numbers-counted s.files s.files_made s.pipes h a n;
  fifo = λ s q owner f there e h. numbers-fifo s.files s.files_made s.pipes h q owner f there;
  piped = λ s q owner h. numbers-new s.files s.files_made s.pipes h q owner;
  fewer = λ s test h. numbers-keep s.files s.files_made s.pipes h test;
  made = λ s c kind path mode files e h. of_given _ _ files e (files-made s h c kind path mode);
  filed = files-left;
}

-- the root stands alone
opening-numbered : IsNumbered opening
opening-numbered = record {
  one = λ p q f g e h same. at_root p f e ∙ sym (at_root q g h);
  drawn = λ p f e. its_number p f (same_path p []) e;
  opened = λ n file e. absurd (cc);
}
  where
    by_root : (p : Path) (f : File) (b : Bool) → same_path p [] ≡ b → (if b then Some root else None) ≡ Some f → p ≡ []
    by_root p f true t e = same_path-eq p [] t
    by_root p f false t e = absurd (cc)

    at_root : (p : Path) (f : File) → find p root_alone ≡ Some f → p ≡ []
    at_root p f e = by_root p f (same_path p []) refl e

    its_number : (p : Path) (f : File) (b : Bool) → (if b then Some root else None) ≡ Some f → f.number ≤ 0
    its_number p f true e = let same : root ≡ f = same_file root f e in omega (arith, ap (λ (h : File). h.number) same)
    its_number p f false e = absurd (cc)

pub numbers_apart : (c : Limits) (xs : List Step) → NumbersApart (reached c xs)
numbers_apart c xs = record {
  one = numbered.one;
  drawn = numbered.drawn;
  fresh = by_found (fifo_pipe (reached c xs) ((reached c xs).files_made + 1)) refl;
}
  where
    numbered : IsNumbered (reached c xs)
    numbered = kept-run IsNumbered others c opening xs opening-numbered

    by_found : (o : Option ℕ) → fifo_pipe (reached c xs) ((reached c xs).files_made + 1) ≡ o → o ≡ None
    by_found None e = refl
    by_found (Some n) e = absurd (let less = numbered.opened n ((reached c xs).files_made + 1) (found_at ((reached c xs).files_made + 1) (reached c xs).pipes n e) in omega (arith, less))
