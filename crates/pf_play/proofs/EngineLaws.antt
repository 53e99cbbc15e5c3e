-- From what the hub promises to what a script's namespaces are told.

use Rattle.std.proofs.Common.{inl, inr, true, ◌≡◌, ℕ, ◌+◌, ◌<◌, ◌≤◌, take, drop, List, [], ◌∷◌, ◌++◌, length, append-nil, get_or, map, Option, Ok}
use Rattle.std.proofs.Common.{refl, ap, subst, sym, ◌∙◌, arith}
use Rattle.std.specs.Prelude.{Bool, Result, Err, IfOk, IsOk}
use Rattle.std.specs.declared.alloc.Global.{Global}
use Rattle.std.proofs.lemmas.List.{take-append-drop, take-append-le, take_more, drop_more, length-take}
use Rattle.std.proofs.Math.Seq.{take-length}
use Rattle.std.proofs.Math.ListN.{drop_of_length-le}
use Rattle.pf_machine.specs.Machine.{may_want_memory}
use Rattle.pf_machine.specs.State.{opening as opened}
use Rattle.pf_machine.proofs.EventLaws.{keep_step-append, keep_reply-append}
use Rattle.pf_hub.specs.Opening as opening
use Rattle.pf_base.specs.Limits.{Limits}
use Rattle.pf_base.specs.declared.admission.EventAnswer.{EventAnswer}
use Rattle.pf_base.specs.declared.step.Answer.{Answer}
use Rattle.pf_base.specs.declared.step.Answer.TheVariants.{NoMemory}
use Rattle.pf_base.specs.declared.step.Step.{Step}
use Rattle.pf_machine.specs.Events.{keep_step, keep_reply}
use Rattle.pf_machine.specs.Runs.{run_of}
use Rattle.pf_script.specs.Script.{Draft}
use Rattle.pf_script.specs.Text.{text}
use Rattle.pf_script.specs.Faults.{IsRead}
use Rattle.pf_script.specs.Ports.{Input, Output, IsCut, IsWritten}
use Rattle.pf_script.specs.declared.refusal.Refusal.{Refusal}
use Rattle.pf_hub.proofs.NeedLemmas.{at_grown}
use Rattle.pf_play.specs.Played.{kept_alone, replies_alone, met_alone, NoWantAlone}
use Rattle.pf_play.specs.Plays.{IsPlayedFor, nomem_of}
use Rattle.pf_play.specs.Replays.{IfAccepted, IsJudged, Names, Suits}
use Rattle.pf_play.specs.Workers.{Framed, IsFramedFor}

-- limits with an allocator beside each are those limits
pub limits_beside : (alloc : Global) (limits : List Limits) → opening.limits_of (map (λ l. (l, alloc)) limits) ≡ limits
limits_beside alloc [] = refl
limits_beside alloc (l ∷ ls) = ap (λ rest. l ∷ rest) (limits_beside alloc ls)

-- One namespace alone

pub kept_push : (xs : List Step) (answers : List Answer) (x : Step) (a : Answer) → length answers ≡ length xs → kept_alone (xs ++ x ∷ []) (answers ++ a ∷ []) ≡ kept_alone xs answers ++ keep_step a x []
kept_push [] [] x a many = refl
kept_push [] (b ∷ answers) x a many = absurd (omega (arith, many))
kept_push (y ∷ ys) [] x a many = absurd (omega (arith, many))
kept_push (y ∷ ys) (b ∷ answers) x a many =
    ap (λ r. keep_step b y r) (kept_push ys answers x a (omega (arith, many))) ∙ keep_step-append b y (kept_alone ys answers) (keep_step a x [])

pub replies_push : (answers : List Answer) (a : Answer) → replies_alone (answers ++ a ∷ []) ≡ replies_alone answers ++ keep_reply a []
replies_push [] a = refl
replies_push (b ∷ answers) a = ap (λ r. keep_reply b r) (replies_push answers a) ∙ keep_reply-append b (replies_alone answers) (keep_reply a [])

-- answers to later steps change nothing
kept_front : (xs : List Step) (answers more : List Answer) → length xs ≤ length answers
    → kept_alone xs (answers ++ more) ≡ kept_alone xs answers
kept_front [] answers more h = refl
kept_front (x ∷ xs) [] more h = absurd (omega arith)
kept_front (x ∷ xs) (a ∷ answers) more h = ap (λ r. keep_step a x r) (kept_front xs answers more (omega arith))

module _ (c : Limits) (xs : List Step) (answers : List Answer) (many : length answers ≡ length xs) where
  -- nor do later steps
  pub met_before : (ys : List Step) (more : List Answer) (i : ℕ) → i ≤ length xs
      → met_alone c (xs ++ ys) (answers ++ more) i ≡ met_alone c xs answers i
  met_before ys more i h =
      ap (λ (zs : List Step). (run_of c opened (kept_alone zs (answers ++ more))).state) (take-append-le i xs ys h)
      ∙ ap (λ (zs : List Step). (run_of c opened zs).state)
      (kept_front (take i xs) answers more (omega (arith, length-take i xs)))

  -- one step more, that memory was wanted for only if it may want it
  pub needed_push : (x : Step) (a : Answer) → NoWantAlone c xs answers
      → (a ≡ NoMemory → may_want_memory c (run_of c opened (kept_alone xs answers)).state x ≡ true)
      → NoWantAlone c (xs ++ x ∷ []) (answers ++ a ∷ [])
  needed_push x a before last i step at at' =
      let met : i ≤ length xs → may_want_memory c (met_alone c (xs ++ x ∷ []) (answers ++ a ∷ []) i) step
      ≡ may_want_memory c (met_alone c xs answers i) step
      = λ h. ap (λ s. may_want_memory c s step) (met_before (x ∷ []) (a ∷ []) i h) in
      elim (at_grown xs answers x step a NoMemory i many at at') [
        | inl was ↦ met (omega arith) ∙ before i step was.1 was.2
        | inr is ↦
            met (omega arith)
            ∙ ap (λ (zs : List Step). may_want_memory c (run_of c opened (kept_alone zs answers)).state step)
            (ap (λ k. take k xs) is.0 ∙ take-length xs)
            ∙ ap (λ (z : Step). may_want_memory c (run_of c opened (kept_alone xs answers)).state z) is.1
            ∙ last (sym is.2)
      ]

-- a text that broke off, of a script that was accepted
pub cut_short : (threads : Bool) (old new : Output) (script : Draft) (read : Result Draft Refusal) (name : Option (List ℕ))
    (only : Option ℕ) (answers told : List EventAnswer) →
    read ≡ Ok script → Suits threads script → Names script name only → IsPlayedFor script only answers → told ≡ answers →
    IsCut old new (text script told only) →
    IfAccepted read (λ s. Suits threads s × (o : Option ℕ) × (xs : List EventAnswer) × Names s name o × IsPlayedFor s o xs
    × IsCut old new (text s xs o))
cut_short threads old new script read name only answers told is suits names played same cut =
    rw is (suits, only, answers, names, played, subst (λ xs. IsCut old new (text script xs only)) same cut)

-- and one that was written whole
pub told_whole : (threads : Bool) (old new : Output) (script : Draft) (read : Result Draft Refusal)
    (name : Option (List ℕ)) (only : Option ℕ) (answers : List EventAnswer) (nomem : ℕ) →
    read ≡ Ok script → Suits threads script → Names script name only → IsPlayedFor script only answers →
    IsWritten old new (text script answers only) → nomem ≡ nomem_of answers →
    IfAccepted read (λ s. Suits threads s × (o : Option ℕ) × (xs : List EventAnswer) × Names s name o × IsPlayedFor s o xs
    × IsWritten old new (text s xs o) × (nomem ≡ nomem_of xs))
told_whole threads old new script read name only answers nomem is suits names played written many =
    rw is (suits, only, answers, names, played, written, many)

-- and one of whose frames a gate was told
pub told_framed : (framed : Framed) (old new : Output) (script : Draft) (read : Result Draft Refusal)
    (name : Option (List ℕ)) (only : Option ℕ) (answers : List EventAnswer) →
    read ≡ Ok script → Names script name only → IsPlayedFor script only answers →
    IsWritten old new (text script answers only) → IsFramedFor framed script only answers →
    IfAccepted read (λ s. (o : Option ℕ) × (xs : List EventAnswer) × Names s name o × IsPlayedFor s o xs
    × IsWritten old new (text s xs o) × IsFramedFor framed s o xs)
told_framed framed old new script read name only answers is names played written told =
    rw is (only, answers, names, played, written, told)

-- what was read, and whatever holds of it
pub judged : (P : Draft → Type 0) (input rest : Input) (script : Draft) → IsRead input rest script → P script →
    IsJudged input rest P
judged P input rest script read holds = (read.0, read.1, rw read.2 holds)

-- what holds of an outcome
pub if_both : {T E : Type 0} (r : Result T E) (P Q R : T → Type 0) → ((x : T) → P x → Q x → R x) → IfOk r P → IfOk r Q
    → IfOk r R
if_both (Ok x) P Q R f p q = f x p q
if_both (Err e) P Q R f p q = tt

pub from_ok : {T E : Type 0} (r : Result T E) (P : T → Type 0) → IfOk r P → IsOk r → (x : T) × P x
from_ok (Ok x) P p ok = (x, p)
from_ok (Err e) P p ok = absurd (cc)

-- so many elements are all
pub take_all : {A : Type 0} (xs : List A) {i : ℕ} → length xs ≤ i → take i xs ≡ xs
take_all xs {i} past = sym (append-nil (take i xs)) ∙ (ap (λ r. take i xs ++ r) (sym (drop_of_length-le xs past)) ∙ take-append-drop i xs)

pub all_taken : {A : Type 0} (xs : List A) (i : ℕ) → i ≡ length xs → take i xs ≡ xs
all_taken xs i same =
    let past : length xs ≤ i = omega (arith, same) in
    take_all xs past

-- the next element, and what is behind it
pub next_of : {A : Type 0} (xs : List A) (i : ℕ) (x : A) → i < length xs → x ≡ get_or xs i x →
    drop i xs ≡ x ∷ drop (i + 1) xs
next_of xs i x low is = drop_more xs i x low ∙ ap (λ y. y ∷ drop (i + 1) xs) (sym is)

-- so many and the next
pub taken_of : {A : Type 0} (xs : List A) (i : ℕ) (x : A) → i < length xs → x ≡ get_or xs i x →
    take (i + 1) xs ≡ take i xs ++ x ∷ []
taken_of xs i x low is = take_more xs i x low ∙ ap (λ y. take i xs ++ y ∷ []) (sym is)
