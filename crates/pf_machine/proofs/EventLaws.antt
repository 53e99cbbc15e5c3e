-- Laws of lists of events: appended lists, and one more event.

use Rattle.std.proofs.Common.{ℕ, ◌≡◌, true, false, List, ◌∷◌, ◌++◌, length, refl, ap, sym, ◌∙◌, arith, append-nil, []}
use Rattle.std.proofs.lemmas.Bool.{eq-eqb, ne_eqb, eqb-true}
use Rattle.std.specs.Prelude.{nat_eq, if◌then◌else◌}
use Rattle.pf_base.specs.Limits.{Limits}
use Rattle.pf_machine.specs.Queue.{Segment}
use Rattle.pf_machine.specs.State.{State}
use Rattle.pf_machine.specs.Machine.{Answers}
use Rattle.pf_machine.specs.Runs.{run_of}
use Rattle.pf_machine.specs.Events.{mine, kept, replies, keep_step, keep_reply, IsDone, IsAmple}
use Rattle.pf_machine.proofs.RunLaws.{run_of-answered}
use Rattle.pf_base.specs.declared.step.Step.{Step}
use Rattle.pf_base.specs.declared.step.Reply.{Reply}
use Rattle.pf_base.specs.declared.step.Answer.{Answer}
use Rattle.pf_base.specs.declared.step.Answer.TheVariants.{Done, NoMemory}

pub keep_step-append : (a : Answer) (x : Step) (xs ys : List Step) → keep_step a x (xs ++ ys) ≡ keep_step a x xs ++ ys
keep_step-append (Done r) x xs ys = refl
keep_step-append NoMemory x xs ys = refl

pub keep_reply-append : (a : Answer) (xs ys : List Reply) → keep_reply a (xs ++ ys) ≡ keep_reply a xs ++ ys
keep_reply-append (Done r) xs ys = refl
keep_reply-append NoMemory xs ys = refl

-- Appended lists

pub kept-append : (es fs : List (ℕ × Step)) (answers bs : List Answer) (n : ℕ) → length es ≡ length answers → kept (es ++ fs) (answers ++ bs) n ≡ kept es answers n ++ kept fs bs n
kept-append [] fs [] bs n l = refl
kept-append [] fs (a ∷ answers) bs n l = absurd (omega (arith, l))
kept-append (e ∷ es) fs [] bs n l = absurd (omega (arith, l))
kept-append (e ∷ es) fs (a ∷ answers) bs n l =
    ap (λ (r : List Step). if nat_eq e.0 n then keep_step a e.1 r else r) (kept-append es fs answers bs n (omega (arith, l)))
    ∙ elim (nat_eq e.0 n) as (λ t. (if t then keep_step a e.1 (kept es answers n ++ kept fs bs n) else kept es answers n ++ kept fs bs n) ≡ (if t then keep_step a e.1 (kept es answers n) else kept es answers n) ++ kept fs bs n) [ true ↦ keep_step-append a e.1 (kept es answers n) (kept fs bs n) | false ↦ refl ]

pub replies-append : (es fs : List (ℕ × Step)) (answers bs : List Answer) (n : ℕ) → length es ≡ length answers → replies (es ++ fs) (answers ++ bs) n ≡ replies es answers n ++ replies fs bs n
replies-append [] fs [] bs n l = refl
replies-append [] fs (a ∷ answers) bs n l = absurd (omega (arith, l))
replies-append (e ∷ es) fs [] bs n l = absurd (omega (arith, l))
replies-append (e ∷ es) fs (a ∷ answers) bs n l =
    ap (λ (r : List Reply). if nat_eq e.0 n then keep_reply a r else r) (replies-append es fs answers bs n (omega (arith, l)))
    ∙ elim (nat_eq e.0 n) as (λ t. (if t then keep_reply a (replies es answers n ++ replies fs bs n) else replies es answers n ++ replies fs bs n) ≡ (if t then keep_reply a (replies es answers n) else replies es answers n) ++ replies fs bs n) [ true ↦ keep_reply-append a (replies es answers n) (replies fs bs n) | false ↦ refl ]

-- One more event

pub kept-own : (es : List (ℕ × Step)) (e : ℕ × Step) (answers : List Answer) (a : Answer) (n : ℕ) → length es ≡ length answers → e.0 ≡ n → kept (es ++ e ∷ []) (answers ++ a ∷ []) n ≡ kept es answers n ++ keep_step a e.1 []
kept-own es e answers a n l own =
    kept-append es (e ∷ []) answers (a ∷ []) n l
    ∙ ap (λ t. kept es answers n ++ (if t then keep_step a e.1 [] else [])) (eq-eqb e.0 n own)

pub kept-other : (es : List (ℕ × Step)) (e : ℕ × Step) (answers : List Answer) (a : Answer) (n : ℕ) → length es ≡ length answers → (e.0 ≡ n → ⊥) → kept (es ++ e ∷ []) (answers ++ a ∷ []) n ≡ kept es answers n
kept-other es e answers a n l other =
    kept-append es (e ∷ []) answers (a ∷ []) n l
    ∙ ap (λ t. kept es answers n ++ (if t then keep_step a e.1 [] else [])) (ne_eqb e.0 n other)
    ∙ append-nil (kept es answers n)

pub replies-own : (es : List (ℕ × Step)) (e : ℕ × Step) (answers : List Answer) (a : Answer) (n : ℕ) → length es ≡ length answers → e.0 ≡ n → replies (es ++ e ∷ []) (answers ++ a ∷ []) n ≡ replies es answers n ++ keep_reply a []
replies-own es e answers a n l own =
    replies-append es (e ∷ []) answers (a ∷ []) n l
    ∙ ap (λ t. replies es answers n ++ (if t then keep_reply a [] else [])) (eq-eqb e.0 n own)

pub replies-other : (es : List (ℕ × Step)) (e : ℕ × Step) (answers : List Answer) (a : Answer) (n : ℕ) → length es ≡ length answers → (e.0 ≡ n → ⊥) → replies (es ++ e ∷ []) (answers ++ a ∷ []) n ≡ replies es answers n
replies-other es e answers a n l other =
    replies-append es (e ∷ []) answers (a ∷ []) n l
    ∙ ap (λ t. replies es answers n ++ (if t then keep_reply a [] else [])) (ne_eqb e.0 n other)
    ∙ append-nil (replies es answers n)

-- The run of a namespace so far, over the first so many events

-- an event of its own goes on with its run
pub told-own : (c : Limits) (s old new : State Segment ℕ) (es : List (ℕ × Step)) (e : ℕ × Step) (answers : List Answer) (a : Answer) (n : ℕ) → length es ≡ length answers → e.0 ≡ n → run_of c s (kept es answers n) ≡ record { state = old; replies = replies es answers n } → Answers c a old e.1 new → run_of c s (kept (es ++ e ∷ []) (answers ++ a ∷ []) n) ≡ record { state = new; replies = replies (es ++ e ∷ []) (answers ++ a ∷ []) n }
told-own c s old new es e answers a n l own so made =
    ap (run_of c s) (kept-own es e answers a n l own)
    ∙ run_of-answered c s old new (kept es answers n) e.1 (replies es answers n) a so made
    ∙ (λ i. record { state = new; replies = sym (replies-own es e answers a n l own) i })

-- another's event leaves it
pub told-other : (c : Limits) (s old : State Segment ℕ) (es : List (ℕ × Step)) (e : ℕ × Step) (answers : List Answer) (a : Answer) (n : ℕ) → length es ≡ length answers → (e.0 ≡ n → ⊥) → run_of c s (kept es answers n) ≡ record { state = old; replies = replies es answers n } → run_of c s (kept (es ++ e ∷ []) (answers ++ a ∷ []) n) ≡ record { state = old; replies = replies (es ++ e ∷ []) (answers ++ a ∷ []) n }
told-other c s old es e answers a n l other so =
    ap (run_of c s) (kept-other es e answers a n l other)
    ∙ so
    ∙ (λ i. record { state = old; replies = sym (replies-other es e answers a n l other) i })

-- Where memory sufficed

keep_step-done : (a : Answer) (x : Step) (xs : List Step) → IsDone a → keep_step a x xs ≡ x ∷ xs
keep_step-done (Done r) x xs d = refl
keep_step-done NoMemory x xs d = absurd d

-- then all of n's steps are kept
pub kept-mine : (es : List (ℕ × Step)) (answers : List Answer) (n : ℕ) → IsAmple es answers n → kept es answers n ≡ mine es n
kept-mine [] answers n h = refl
kept-mine (e ∷ es) [] n h = absurd h
kept-mine (e ∷ es) (a ∷ answers) n h =
    ap (λ (r : List Step). if nat_eq e.0 n then keep_step a e.1 r else r) (kept-mine es answers n h.1)
    ∙ elim (nat_eq e.0 n) as (λ t. nat_eq e.0 n ≡ t → (if t then keep_step a e.1 (mine es n) else mine es n) ≡ (if t then e.1 ∷ mine es n else mine es n)) [ true ↦ λ own. keep_step-done a e.1 (mine es n) (h.0 (eqb-true e.0 n own)) | false ↦ λ _. refl ] refl
