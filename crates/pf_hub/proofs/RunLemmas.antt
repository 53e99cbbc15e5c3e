-- One more event of a run.

use Rattle.std.proofs.Common.{◌≡◌, ◌≢◌, ℕ, zero, suc, cond, length-append, ◌+◌, ◌<◌, List, ◌∷◌, ◌++◌, length, get_or, refl, ap, sym, ◌∙◌, subst, arith, Bool, true, false, []}
use Rattle.std.specs.Prelude.{Option, Some, None, nat_eq, not, is_some}
use Rattle.std.specs.List.{position_from}
use Rattle.std.proofs.lemmas.Bool.{eqb-true, eqb-false}
use Rattle.pf_base.specs.Limits.{Limits}
use Rattle.pf_machine.specs.Machine.{Answers, may_want_memory}
use Rattle.pf_machine.specs.Runs.{Run, run_of, lone}
use Rattle.pf_machine.specs.Events.{kept, replies}
use Rattle.pf_machine.proofs.EventLaws.{told-own, told-other, kept-mine}
use Rattle.pf_base.specs.declared.step.Step.{Step}
use Rattle.pf_base.specs.declared.step.Answer.{Answer}
use Rattle.pf_base.specs.declared.step.Answer.TheVariants.{NoMemory}
use Rattle.pf_machine.specs.Numbered.{at}
use Rattle.pf_hub.specs.Tenants.{Tenants, Tenant, tenant_or, is_living, Lives, limits_at, state_at}
use Rattle.pf_hub.specs.Stepped.{Stepped}
use Rattle.pf_hub.specs.Isolation.{Ran, first_missing, AreAlone, TwoWorlds}
use Rattle.pf_hub.proofs.NeedLemmas.{needed_next, may_want}

-- one more event was answered
pub at_next : (old mid new : Tenants) (es : List (ℕ × Step)) (e : ℕ × Step) (as' : List Answer) (a : Answer)
    → Lives mid e.0 → Ran old es as' mid → Stepped mid new e.0 e.1 a → Ran old (es ++ e ∷ []) (as' ++ a ∷ []) new
at_next old mid new es e as' a living so made = record {
  number = length-append as' (a ∷ []) ∙ ap (λ n. n + 1) so.number ∙ sym (length-append es (e ∷ []));
  tenants = made.number ∙ so.tenants;
  lives = λ n. by_own (λ n. is_living new n ≡ is_living old n) (made.lives ∙ sym living ∙ so.lives e.0) (λ m ne. ap (λ (o : Option Tenant). is_some o) (made.others m ne) ∙ so.lives m) n;
  frames = made.frames ∙ so.frames;
  limits = λ n. by_own (λ n. limits_at new n ≡ limits_at old n) (made.limits ∙ so.limits e.0) (λ m ne. ap (λ (o : Option Tenant). (tenant_or o).limits) (made.others m ne) ∙ so.limits m) n;
  needed = λ n. needed_next (limits_at old n) (state_at old n) es as' n so.number e a (so.needed n) (needs n);
  own = λ n. by_own (λ n. run_of (limits_at old n) (state_at old n) (kept (es ++ e ∷ []) (as' ++ a ∷ []) n) ≡ record { state = state_at new n; replies = replies (es ++ e ∷ []) (as' ++ a ∷ []) n }) own_next others_next n;
}
  where
    by_own : (P : ℕ → Type 0) → P e.0 → ((m : ℕ) → m ≢ e.0 → P m) → (n : ℕ) → P n
    by_own P here there n =
        elim (nat_eq e.0 n) as (λ t. nat_eq e.0 n ≡ t → P n) [ true ↦ λ is. subst P (eqb-true e.0 n is) here | false ↦ λ is. there n (λ (o : n ≡ e.0). eqb-false e.0 n is (sym o)) ] refl

    own_next : run_of (limits_at old e.0) (state_at old e.0) (kept (es ++ e ∷ []) (as' ++ a ∷ []) e.0) ≡ record { state = state_at new e.0; replies = replies (es ++ e ∷ []) (as' ++ a ∷ []) e.0 }
    own_next =
        told-own (limits_at old e.0) (state_at old e.0) (state_at mid e.0) (state_at new e.0) es e as' a e.0 (sym so.number) refl (so.own e.0)
        (subst (λ (c : Limits). Answers c a (state_at mid e.0) e.1 (state_at new e.0)) (so.limits e.0) made.answers)

    May : ℕ → Type 0
    May n =
        may_want_memory (limits_at old n) (run_of (limits_at old n) (state_at old n) (kept es as' n)).state e.1 ≡ true

    needs : (n : ℕ) → e.0 ≡ n → a ≡ NoMemory → May n
    needs n is none =
        subst May is
        (ap (λ (r : Run). may_want_memory (limits_at old e.0) r.state e.1) (so.own e.0)
        ∙ ap (λ (c : Limits). may_want_memory c (state_at mid e.0) e.1) (sym (so.limits e.0))
        ∙ may_want (may_want_memory (limits_at mid e.0) (state_at mid e.0) e.1) a none made.succeeds)

    others_next : (n : ℕ) → n ≢ e.0 → run_of (limits_at old n) (state_at old n) (kept (es ++ e ∷ []) (as' ++ a ∷ []) n) ≡ record { state = state_at new n; replies = replies (es ++ e ∷ []) (as' ++ a ∷ []) n }
    others_next n ne =
        told-other (limits_at old n) (state_at old n) (state_at mid n) es e as' a n (sym so.number) (λ (o : e.0 ≡ n). ne (sym o)) (so.own n)
        ∙ (λ i. record { state = (tenant_or (sym (made.others n ne) i)).state; replies = replies (es ++ e ∷ []) (as' ++ a ∷ []) n })

-- all events were answered, so who was at the opening state was told what its lone machine is
pub are_alone : (old new : Tenants) (es : List (ℕ × Step)) (as' : List Answer) → Ran old es as' new → AreAlone old es as'
are_alone old new es as' ran n opened =
    sym (ap (λ (r : Run). r.replies) (ran.own n)) ∙ ap (λ s. (run_of (limits_at old n) s (kept es as' n)).replies) opened

-- where no event passes the test, none does at any place
none_passes : {K : Type 0} (test : K → Bool) (xs : List K) (from i : ℕ) (d : K) → position_from test from xs ≡ None → i < length xs → test (get_or xs i d) ≡ false
none_passes test [] from i d none h = absurd (omega arith)
none_passes test (x ∷ xs) from zero d none h = elim (test x) as (λ t. cond t (Some from) (position_from test (from + 1) xs) ≡ None → t ≡ false) [ true ↦ λ some. absurd (cc) | false ↦ λ more. refl ] none
none_passes test (x ∷ xs) from (suc i) d none h =
    none_passes test xs (from + 1) i d (elim (test x) as (λ t. cond t (Some from) (position_from test (from + 1) xs) ≡ None → position_from test (from + 1) xs ≡ None) [ true ↦ λ some. absurd (cc) | false ↦ λ more. more ] none) (omega arith)

-- where no event names a namespace that doesn't live, each names one that does
pub lives_at : (h : Tenants) (events : List (ℕ × Step)) (i : ℕ) (d : ℕ × Step) → first_missing h events ≡ None →
    i < length events → Lives h (get_or events i d).0
lives_at h events i d none low =
    stands (is_living h (get_or events i d).0) (none_passes (λ e. not (is_living h e.0)) events 0 i d none low)
  where
    stands : (b : Bool) → not b ≡ false → b ≡ true
    stands true is = refl
    stands false is = absurd (cc)

-- the next of them, too, as no namespace comes or goes in between
pub lives_next : (old mid : Tenants) (events so_far : List (ℕ × Step)) (answers : List Answer) (i : ℕ) (e : ℕ × Step) →
    first_missing old events ≡ None → Ran old so_far answers mid → i < length events → e ≡ get_or events i e → Lives mid e.0
lives_next old mid events so_far answers i e none ran low is =
    ran.lives e.0 ∙ subst (λ (x : ℕ × Step). Lives old x.0) (sym is) (lives_at old events i e none low)

pub two_worlds : TwoWorlds
two_worlds first second es fs as' bs first' second' n ran ran' opened opened' limits same ample ample' =
    are_alone first first' es as' ran n opened
    ∙ (λ i. lone (limits i) ((kept-mine es as' n ample ∙ same ∙ sym (kept-mine fs bs n ample')) i))
    ∙ sym (are_alone second second' fs bs ran' n opened')
