-- The bytes of each pipe of a list, and what a change of one pipe does to them.

use Rattle.std.proofs.Common.{◌≡◌, ℕ, zero, suc, ◌<◌, ◌≤◌, Bool, true, false, not, List, [], ◌∷◌, ◌++◌, length, Option, Some, None, Ok, refl, sym, ap, ◌∙◌, subst, arith, nat_eq, if◌then◌else◌, append-nil, length-append, length-set}
use Rattle.std.proofs.lemmas.Bool.{eqb-true, eqb-false}
use Rattle.std.specs.Option.{option_map, option_and_then}
use Rattle.pf_machine.specs.Refusals.{refuse_if, or_refuse}
use Rattle.pf_machine.specs.Queue.{Segment, Queue, bytes_of}
use Rattle.pf_machine.specs.Numbered.{at, change_at}
use Rattle.pf_machine.proofs.NumberedLaws.{at-put_same, at-put_other, at_within, at-push_old}
use Rattle.pf_machine.proofs.HoldsLaws.{Holds, goes, passes}
use Rattle.pf_machine.specs.State.{itself, State, Process, Description, Pipe, End, holding, end_at, end_of, reading_end, writing_end}
use Rattle.pf_base.specs.declared.errno.Errno.TheVariants.{EBADF}

-- Ends

-- an end's pipe stands under its number
abbrev pub Stands : State Segment ℕ → End Segment ℕ → Type 0
Stands s e = at s.pipes e.description.pipe ≡ Some e.pipe

pub end_at-stands : (s : State Segment ℕ) (n : ℕ) → Holds (Stands s) (or_refuse EBADF (end_at itself s n))
end_at-stands s n = by_description (at s.descriptions n)
  where
    by_pipe : (d : Description ℕ) (o : Option (Pipe Segment)) → at s.pipes d.pipe ≡ o → Holds (Stands s) (or_refuse EBADF (option_map (λ (pipe : Pipe Segment). record { description = d; pipe = pipe }) o))
    by_pipe d None e = tt
    by_pipe d (Some x) e = e

    by_description : (o : Option (Description ℕ)) → Holds (Stands s) (or_refuse EBADF (option_and_then (λ d. option_map (λ (pipe : Pipe Segment). record { description = d; pipe = pipe }) (at s.pipes d.pipe)) o))
    by_description None = tt
    by_description (Some d) = by_pipe d (at s.pipes d.pipe) refl

pub end_of-stands : (s : State Segment ℕ) (p : Process ℕ) (fd : ℕ) → Holds (Stands s) (end_of itself s p fd)
end_of-stands s p fd = by_number (at p.descriptors fd)
  where
    by_number : (o : Option ℕ) → Holds (Stands s) (or_refuse EBADF (option_and_then (end_at itself s) o))
    by_number None = tt
    by_number (Some n) = end_at-stands s n

pub reading_end-stands : (s : State Segment ℕ) (p : Process ℕ) (fd : ℕ) → Holds (Stands s) (reading_end itself s p fd)
reading_end-stands s p fd = goes (Stands s) (Stands s) (end_of itself s p fd) _ (end_of-stands s p fd) (λ e h. passes (Stands s) (refuse_if (not e.description.reads) EBADF) (Ok e) h)

pub writing_end-stands : (s : State Segment ℕ) (p : Process ℕ) (fd : ℕ) → Holds (Stands s) (writing_end itself s p fd)
writing_end-stands s p fd = goes (Stands s) (Stands s) (end_of itself s p fd) _ (end_of-stands s p fd) (λ e h. search (passes, h))

-- Pipes by number

abbrev pub bytes_in : Option (Pipe Segment) → List ℕ
bytes_in None = []
bytes_in (Some p) = bytes_of p.queue

-- the bytes of a pipe, none where there is none
abbrev pub bytes_at : List (Option (Pipe Segment)) → ℕ → List ℕ
bytes_at ps p = bytes_in (at ps p)

-- no pipe that has gone comes back
pub record Keeps (old new : List (Option (Pipe Segment))) : Type 0 where
  pub longer : length old ≤ length new
  pub gone : (p : ℕ) → p < length old → at old p ≡ None → at new p ≡ None

pub keeps-same : (ps : List (Option (Pipe Segment))) → Keeps ps ps
keeps-same ps = record { longer = omega arith; gone = λ p l e. e }

pub keeps-trans : {ps qs rs : List (Option (Pipe Segment))} → Keeps ps qs → Keeps qs rs → Keeps ps rs
keeps-trans {ps} {qs} {rs} k l = record { longer = omega (arith, k.longer, l.longer); gone = λ p b e. l.gone p (omega (arith, b, k.longer)) (k.gone p b e) }

pub keeps-push : (ps : List (Option (Pipe Segment))) (x : Option (Pipe Segment)) → Keeps ps (ps ++ x ∷ [])
keeps-push ps x = record { longer = omega (arith, length-append ps (x ∷ [])); gone = λ p l e. at-push_old ps x p l ∙ e }

pub keeps-change : (f : Pipe Segment → Pipe Segment) (ps : List (Option (Pipe Segment))) (n : ℕ) → Keeps ps (change_at f ps n)
keeps-change f ps n = record { longer = omega (arith, length-set ps n (option_map f (at ps n))); gone = gone }
  where
    gone : (p : ℕ) → p < length ps → at ps p ≡ None → at (change_at f ps n) p ≡ None
    gone p l e = elim (nat_eq p n) as (λ b. nat_eq p n ≡ b → at (change_at f ps n) p ≡ None) [
      | true ↦ λ t.
          let same : p ≡ n = eqb-true p n t in
          subst (λ m. at (change_at f ps m) p ≡ None) same (at-put_same ps p (option_map f (at ps p)) l ∙ ap (option_map f) e)
      | false ↦ λ t. at-put_other ps n p (option_map f (at ps n)) (eqb-false p n t) ∙ e
    ] refl

-- the bytes after a change of the pipe n
pub bytes_at-change : (f : Pipe Segment → Pipe Segment) (ps : List (Option (Pipe Segment))) (n : ℕ) (x : Pipe Segment) → at ps n ≡ Some x → (p : ℕ) → bytes_at (change_at f ps n) p ≡ (if nat_eq n p then bytes_of (f x).queue else bytes_at ps p)
bytes_at-change f ps n x e p = elim (nat_eq n p) as (λ b. nat_eq n p ≡ b → bytes_at (change_at f ps n) p ≡ (if b then bytes_of (f x).queue else bytes_at ps p)) [
  | true ↦ λ t.
      let same : n ≡ p = eqb-true n p t in
      subst (λ m. bytes_at (change_at f ps n) m ≡ bytes_of (f x).queue) same (ap bytes_in (at-put_same ps n (option_map f (at ps n)) (at_within ps n x e) ∙ ap (option_map f) e))
  | false ↦ λ t. ap bytes_in (at-put_other ps n p (option_map f (at ps n)) (λ h. eqb-false n p t (sym h)))
] refl

-- the bytes before, told in the same way
bytes_at-before : (ps : List (Option (Pipe Segment))) (n : ℕ) (x : Pipe Segment) → at ps n ≡ Some x → (p : ℕ) → bytes_at ps p ≡ (if nat_eq n p then bytes_of x.queue else bytes_at ps p)
bytes_at-before ps n x e p = elim (nat_eq n p) as (λ b. nat_eq n p ≡ b → bytes_at ps p ≡ (if b then bytes_of x.queue else bytes_at ps p)) [
  | true ↦ λ t. ap (λ m. bytes_at ps m) (sym (eqb-true n p t)) ∙ ap bytes_in e
  | false ↦ λ t. refl
] refl

if_out : (b : Bool) (a x y z : List ℕ) → a ++ x ≡ y → (if b then a else []) ++ (if b then x else z) ≡ (if b then y else z)
if_out true a x y z e = e
if_out false a x y z e = refl

if_in : (b : Bool) (a x y z : List ℕ) → x ≡ y ++ a → (if b then x else z) ≡ (if b then y else z) ++ (if b then a else [])
if_in true a x y z e = e
if_in false a x y z e = sym (append-nil z)

-- bytes go out of the pipe n
pub goes_out : (ps : List (Option (Pipe Segment))) (n : ℕ) (x : Pipe Segment) (q : Queue) (a : List ℕ) → at ps n ≡ Some x → a ++ bytes_of q ≡ bytes_of x.queue → (p : ℕ) → (if nat_eq n p then a else []) ++ bytes_at (change_at (holding q) ps n) p ≡ bytes_at ps p
goes_out ps n x q a e moved p =
    ap (λ y. (if nat_eq n p then a else []) ++ y) (bytes_at-change (holding q) ps n x e p)
    ∙ if_out (nat_eq n p) a (bytes_of q) (bytes_of x.queue) (bytes_at ps p) moved
    ∙ sym (bytes_at-before ps n x e p)

-- bytes go into the pipe n
pub goes_in : (ps : List (Option (Pipe Segment))) (n : ℕ) (x : Pipe Segment) (q : Queue) (a : List ℕ) → at ps n ≡ Some x → bytes_of q ≡ bytes_of x.queue ++ a → (p : ℕ) → bytes_at (change_at (holding q) ps n) p ≡ bytes_at ps p ++ (if nat_eq n p then a else [])
goes_in ps n x q a e moved p =
    bytes_at-change (holding q) ps n x e p
    ∙ if_in (nat_eq n p) a (bytes_of q) (bytes_of x.queue) (bytes_at ps p) moved
    ∙ ap (λ y. y ++ (if nat_eq n p then a else [])) (sym (bytes_at-before ps n x e p))

-- a change that leaves the bytes
pub bytes_at-kept : (f : Pipe Segment → Pipe Segment) (ps : List (Option (Pipe Segment))) (n : ℕ) → ((x : Pipe Segment) → at ps n ≡ Some x → bytes_of (f x).queue ≡ bytes_of x.queue) → (p : ℕ) → bytes_at (change_at f ps n) p ≡ bytes_at ps p
bytes_at-kept f [] n h p = refl
bytes_at-kept f (None ∷ ps) zero h zero = refl
bytes_at-kept f (Some x ∷ ps) zero h zero = h x refl
bytes_at-kept f (y ∷ ps) zero h (suc p) = refl
bytes_at-kept f (y ∷ ps) (suc n) h zero = refl
bytes_at-kept f (y ∷ ps) (suc n) h (suc p) = bytes_at-kept f ps n h p

-- one more pipe, with nothing in it
pub bytes_at-push : (ps : List (Option (Pipe Segment))) (x : Pipe Segment) → bytes_of x.queue ≡ [] → (p : ℕ) → bytes_at (ps ++ Some x ∷ []) p ≡ bytes_at ps p
bytes_at-push [] x e zero = e
bytes_at-push [] x e (suc p) = refl
bytes_at-push (y ∷ ps) x e zero = refl
bytes_at-push (y ∷ ps) x e (suc p) = bytes_at-push ps x e p
