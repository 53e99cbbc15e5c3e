-- A worker that makes its namespace's steps in turn is told what the lone machine is.

use Rattle.std.proofs.Common.{◌≡◌, ℕ, zero, suc, ◌+◌, ◌<◌, ◌≤◌, true, false, List, [], ◌∷◌, ◌++◌, length, map, take}
use Rattle.std.proofs.Common.{drop, get_or, Option, Some, None, refl, ap, subst, sym, ◌∙◌, arith, length-append, inl, inr}
use Rattle.std.specs.Prelude.{◌⊎◌, not, nat_eq, slice_get, slice_index, IfSome, option_map, if◌then◌else◌}
use Rattle.std.proofs.lemmas.Bool.{cases_lt}
use Rattle.std.proofs.Math.Seq.{take-length}
use Rattle.std.proofs.lemmas.List.{length-map, get_or-map, drop_more, length-drop, take_more, get_or_append_left}
use Rattle.std.proofs.lemmas.Option.{slice_get-map}
use Rattle.std.proofs.lemmas.Slice.Zip.{AllZip-long}
use Rattle.std.specs.List.{All, list_any}
use Rattle.std.specs.Option.{option_to_list}
use Rattle.pf_base.specs.Limits.{Limits}
use Rattle.pf_base.specs.declared.step.Step.{Step}
use Rattle.pf_base.specs.declared.admission.EventAnswer.{EventAnswer}
use Rattle.pf_base.specs.declared.admission.EventAnswer.TheVariants as told
use Rattle.pf_base.specs.declared.step.Answer.{Answer}
use Rattle.pf_machine.specs.Machine.{Answers, may_want_memory}
use Rattle.pf_machine.specs.Queue.{Segment}
use Rattle.pf_machine.specs.State.{State, opening}
use Rattle.pf_machine.specs.Events.{mine, IsDone}
use Rattle.pf_machine.specs.Runs.{Run, run_of, lone}
use Rattle.pf_machine.proofs.RunLaws.{run_of-answered}
use Rattle.pf_hub.proofs.NeedLemmas.{may_want}
use Rattle.pf_hub.specs.Covered.{IsRising}
use Rattle.pf_hub.specs.Opening.{new_tenant}
use Rattle.pf_hub.specs.Tenants.{Tenant}
use Rattle.pf_script.specs.Script.{Draft}
use Rattle.pf_script.specs.Places.{places_from, places_of, lines_of}
use Rattle.pf_script.specs.declared.line.Line.{Line}
use Rattle.pf_script.specs.declared.line.Line.TheVariants as lines
use Rattle.pf_play.proofs.EngineLaws.{kept_push, met_before, replies_push, needed_push, take_all}
use Rattle.pf_play.specs.Played.{IsPlayedAlone, IsToldAlone, NoWantAlone, kept_alone, met_alone, replies_alone}
use Rattle.pf_play.specs.Played.{comes_and_goes, is_step, steps_among, steps_of}
use Rattle.pf_play.specs.Answered.{Holds, IsRun}
use Rattle.pf_play.specs.declared.answered.Answered.{Answered}
use Rattle.pf_play.specs.declared.answered.Answered.TheVariants as forms
use Rattle.std.specs.declared.alloc.Global.{Global}
use Rattle.std.specs.declared.vec.Vec.{Vec}
use Rattle.pf_script.specs.declared.told.Told.{Told}
use Rattle.pf_play.specs.Workers.{Passed, Framed, ArePassed, IsDry, IsToldOfBytes, IsFramed, IsRunFramed, IsOpened, IsPassed, IsWorked, AreWorked}
use Rattle.pf_worker.specs.Workers.{OneWorker, new_worker, new_workers, new_workers_from}

-- The steps at a namespace's places are its own

-- a namespace's lines are counted from i on, where these lines stand behind i others
lines_from : (all : List (ℕ × Line)) (d : ℕ × Line) (i : ℕ) (es : List (ℕ × Line)) (n : ℕ) → drop i all ≡ es
    → lines_of es n ≡ map (λ p. (get_or all p d).1) (places_from i es n)
lines_from all d i [] n behind = refl
lines_from all d i (e ∷ es) n behind =
    let long : length (drop i all) ≡ length (e ∷ es) = ap (λ (xs : List (ℕ × Line)). length xs) behind in
    let high : i < length all = omega (arith, length-drop i all, long) in
    let split = sym (drop_more all i d high) ∙ behind in
    let here : get_or all i d ≡ e = cc in
    let rests : drop (i + 1) all ≡ es = cc in
    let more = lines_from all d (i + 1) es n rests in
    elim (nat_eq e.0 n) as
    (λ b. (if b then e.1 ∷ lines_of es n else lines_of es n) ≡ map (λ p. (get_or all p d).1)
    (if b then i ∷ places_from (i + 1) es n else places_from (i + 1) es n)) [
      | true ↦ λ j. (sym here j).1 ∷ more j
      | false ↦ more
    ]

lines_are : (es : List (ℕ × Line)) (d : ℕ × Line) (n : ℕ) →
    lines_of es n ≡ map (λ p. (get_or es p d).1) (places_of es n)
lines_are es d n = lines_from es d 0 es n refl

-- as many
pub many_from : (i : ℕ) (es : List (ℕ × Line)) (n : ℕ) → length (lines_of es n) ≡ length (places_from i es n)
many_from i [] n = refl
many_from i (e ∷ es) n =
    let more = many_from (i + 1) es n in
    elim (nat_eq e.0 n) as
    (λ b. length (if b then e.1 ∷ lines_of es n else lines_of es n) ≡ length
    (if b then i ∷ places_from (i + 1) es n else places_from (i + 1) es n)) [
      | true ↦ ap suc more
      | false ↦ more
    ]

-- where no namespace comes or goes each line is a step
pub lines_mine : (es : List (ℕ × Line)) (n : ℕ) → list_any (λ (e : ℕ × Line). not (is_step e.1)) es ≡ false →
    lines_of es n ≡ map (λ s. lines.Step s) (mine (steps_among es) n)
lines_mine [] n only = refl
lines_mine ((k, lines.Step s) ∷ es) n only =
    let more = lines_mine es n only in
    elim (nat_eq k n) as
    (λ b. (if b then lines.Step s ∷ lines_of es n else lines_of es n)
    ≡ map (λ s. lines.Step s) (if b then s ∷ mine (steps_among es) n else mine (steps_among es) n)) [
      | true ↦ ap (λ (r : List Line). lines.Step s ∷ r) more
      | false ↦ more
    ]
lines_mine ((k, lines.Admit) ∷ es) n only = absurd (cc)
lines_mine ((k, lines.Retire) ∷ es) n only = absurd (cc)

-- so is each that is met
pub all_steps : (es : List (ℕ × Line)) (i : ℕ) (d : ℕ × Line) →
    list_any (λ (e : ℕ × Line). not (is_step e.1)) es ≡ false →
    i < length es → (s : Step) × ((get_or es i d).1 ≡ lines.Step s)
all_steps [] i d only low = absurd (omega (arith, low))
all_steps ((k, lines.Step s) ∷ es) zero d only low = (s, refl)
all_steps ((k, lines.Step s) ∷ es) (suc i) d only low = all_steps es i d only (omega (arith, low))
all_steps ((k, lines.Admit) ∷ es) i d only low = absurd (cc)
all_steps ((k, lines.Retire) ∷ es) i d only low = absurd (cc)

many_mine : (script : Draft) (n : ℕ) → comes_and_goes script ≡ false →
    length (mine (steps_of script) n) ≡ length (places_of script.steps n)
many_mine script n only =
    sym (length-map (mine (steps_of script) n) (λ s. lines.Step s))
    ∙ ap (λ (xs : List Line). length xs) (sym (lines_mine script.steps n only)) ∙ many_from 0 script.steps n

same_step : (s t : Step) → ◌≡◌ {A = Line} (lines.Step s) (lines.Step t) → s ≡ t
same_step s t same = cc

own_step : (script : Draft) (n k : ℕ) (d : ℕ × Line) (x : Step) → comes_and_goes script ≡ false →
    k < length (places_of script.steps n) → (get_or script.steps (slice_index (places_of script.steps n) k) d).1 ≡ lines.Step x →
    get_or (mine (steps_of script) n) k x ≡ x
own_step script n k d x only low is =
    same_step (get_or (mine (steps_of script) n) k x) x
    (sym (get_or-map (λ s. lines.Step s) (mine (steps_of script) n) k x (lines.Step x)
    (omega (arith, many_mine script n only, low)))
    ∙ ap (λ (xs : List Line). get_or xs k (lines.Step x))
    (sym (lines_mine script.steps n only) ∙ lines_are script.steps d n)
    ∙ get_or-map (λ p. (get_or script.steps p d).1) (places_of script.steps n) k 0 (lines.Step x) low
    ∙ is)

-- Steps in turn

-- these steps were made with these answers, from the opening state to this one
pub record Worked (c : Limits) (xs : List Step) (answers : List Answer) (state : State Segment ℕ) : Type 0 where
  pub many : length answers ≡ length xs
  pub ran : run_of c opening (kept_alone xs answers) ≡ record { state = state; replies = replies_alone answers }
  pub needed : NoWantAlone c xs answers

pub worked_none : (c : Limits) → Worked c [] [] opening
worked_none c =
    let needed : NoWantAlone c [] [] = λ place step at at'. absurd (cc) in
    record { many = refl; ran = refl; needed = needed }

-- one more
pub worked_on : (c : Limits) (xs : List Step) (x : Step) (answers : List Answer) (a : Answer) (old new : State Segment ℕ) →
    Worked c xs answers old → Answers c a old x new → (may_want_memory c old x ≡ false → IsDone a) →
    Worked c (xs ++ x ∷ []) (answers ++ a ∷ []) new
worked_on c xs x answers a old new worked answered succeeds = record {
  many = length-append answers (a ∷ []) ∙ ap (λ k. k + 1) worked.many ∙ sym (length-append xs (x ∷ []));
  ran =
      ap (run_of c opening) (kept_push xs answers x a worked.many)
      ∙ run_of-answered c opening old new (kept_alone xs answers) x (replies_alone answers) a worked.ran answered
      ∙ ap (λ rs. record { state = new; replies = rs }) (sym (replies_push answers a));
  needed = needed_push c xs answers worked.many x a worked.needed (λ none.
      ap (λ (r : Run). may_want_memory c r.state x) worked.ran ∙ may_want (may_want_memory c old x) a none succeeds);
}

-- What is told of frames

-- the gate was told where a pipe has had a byte, and where frames are held
pub record Fed (Told : Type 0) (c : Limits) (xs : List Step) (answers : List Answer) (held : ℕ) : Type 0 where
  pub each : IsToldOfBytes Told c xs answers
  pub now : (held ≡ 0) ⊎ Told

fed_none : (Told : Type 0) (c : Limits) → Fed Told c [] [] 0
fed_none Told c =
    let each : IsToldOfBytes Told c [] [] = λ place low.
    let met : met_alone c [] [] place ≡ opening = ap (λ (zs : List Step). (run_of c opening (kept_alone zs [])).state)
    (take_all {A = Step} [] (omega arith)) in
    inl (subst IsDry (sym met) (λ k p is. absurd (cc))) in
    record { each = each; now = inl refl }

-- one step more
pub fed_on : (Told : Type 0) (c : Limits) (xs : List Step) (x : Step) (answers : List Answer) (a : Answer)
    (new : State Segment ℕ) (held held' : ℕ) → length answers ≡ length xs → Fed Told c xs answers held →
    Worked c (xs ++ x ∷ []) (answers ++ a ∷ []) new → (held' ≡ 0 → IsDry new) → (held < held' → Told) →
    Fed Told c (xs ++ x ∷ []) (answers ++ a ∷ []) held'
fed_on Told c xs x answers a new held held' many fed worked dry more =
    let now : (held' ≡ 0) ⊎ Told = elim (cases_lt 0 held') [
      | inl some ↦ elim fed.now [
        | inl none ↦ inr (more (omega (arith, some, none)))
        | inr told ↦ inr told
      ]
      | inr none ↦ inl (omega (arith, none))
    ] in
    let last : IsDry new ⊎ Told = elim now [
      | inl none ↦ inl (dry none)
      | inr told ↦ inr told
    ] in
    let whole : met_alone c (xs ++ x ∷ []) (answers ++ a ∷ []) (length (xs ++ x ∷ [])) ≡ new =
    ap (λ (zs : List Step). (run_of c opening (kept_alone zs (answers ++ a ∷ []))).state) (take-length (xs ++ x ∷ []))
    ∙ ap (λ (r : Run). r.state) worked.ran in
    record {
      each = λ place low. elim (cases_lt (length xs) place) [
        | inl past ↦
            let here : length (xs ++ x ∷ []) ≡ place = omega (arith, past, low, length-append xs (x ∷ [])) in
            subst (λ i. IsDry (met_alone c (xs ++ x ∷ []) (answers ++ a ∷ []) i) ⊎ Told) here
            (subst (λ s. IsDry s ⊎ Told) (sym whole) last)
        | inr within ↦
            subst (λ s. IsDry s ⊎ Told) (sym (met_before c xs answers many (x ∷ []) (a ∷ []) place within))
            (fed.each place within)
      ];
      now = now;
    }

-- A worker at work: it is the namespace's of this number, and made the first so many of its steps, and the gate was told
-- that these take frames

pub record Works {Z : Type 0} (framed : Framed) (script : Draft) (n : ℕ) (made : ℕ) (answers : List Answer) (worker : OneWorker Z) : Type
    0 where
  pub number : worker.number ≡ n
  pub limits : slice_get (map (λ s. s.1) script.spaces) n ≡ Some worker.tenant.limits
  pub worked : Worked worker.tenant.limits (take made (mine (steps_of script) n)) answers worker.tenant.state
  pub fed : Fed (framed n) worker.tenant.limits (take made (mine (steps_of script) n)) answers worker.tenant.held

limits_from : (spaces : List (List ℕ × Limits)) (n : ℕ) (t : Tenant) →
    slice_get (map (λ s. new_tenant s.1) spaces) n ≡ Some t
    → (slice_get (map (λ s. s.1) spaces) n ≡ Some t.limits) × (t ≡ new_tenant t.limits)
limits_from [] n t is = absurd (cc)
limits_from (s ∷ ss) zero t is = let same : new_tenant s.1 ≡ t
    = cc in (ap (λ (u : Tenant). Some u.limits) same, sym same ∙ ap (λ (u : Tenant). new_tenant u.limits) same)
limits_from (s ∷ ss) (suc n) t is = limits_from ss n t is

-- it made none yet
pub works_none : {Z : Type 0} (framed : Framed) (script : Draft) (worker : OneWorker Z) (answers : List Answer) →
    IsOpened script worker → answers ≡ []
    → Works framed script worker.number 0 answers worker
works_none {Z} framed script worker answers opened none =
    let new = limits_from script.spaces worker.number worker.tenant opened.1 in
    rw none (record {
      number = refl;
      limits = new.0;
      worked = subst (λ s. Worked worker.tenant.limits [] [] s) (sym (ap (λ (t : Tenant). t.state) new.1))
          (worked_none worker.tenant.limits);
      fed = subst (λ held. Fed (framed worker.number) worker.tenant.limits [] [] held)
          (sym (ap (λ (t : Tenant). t.held) new.1)) (fed_none (framed worker.number) worker.tenant.limits);
    })

-- the step at the next place
pub works_on : {Z : Type 0} (framed : Framed) (script : Draft) (n k : ℕ) (d : ℕ × Line) (answers : List Answer) (a : Answer)
    (old new : OneWorker Z) (at : ℕ) (x : Step) → comes_and_goes script ≡ false →
    Works framed script n k answers old → k < length (places_of script.steps n) →
    at ≡ slice_index (places_of script.steps n) k → (get_or script.steps at d).1 ≡ lines.Step x →
    new.number ≡ old.number → new.tenant.limits ≡ old.tenant.limits →
    Answers old.tenant.limits a old.tenant.state x new.tenant.state →
    (may_want_memory old.tenant.limits old.tenant.state x ≡ false → IsDone a) →
    IsRising new.tenant → (old.tenant.held < new.tenant.held → framed old.number) →
    Works framed script n (k + 1) (answers ++ a ∷ []) new
works_on framed script n k d answers a old new at x only works low place is same keeps answered succeeds rising more =
    let here : get_or (mine (steps_of script) n) k x ≡ x =
    own_step script n k d x only low (ap (λ p. (get_or script.steps p d).1) (sym place) ∙ is) in
    let taken : take (k + 1) (mine (steps_of script) n) ≡ take k (mine (steps_of script) n) ++ x ∷ [] =
    take_more (mine (steps_of script) n) k x (omega (arith, many_mine script n only, low))
    ∙ ap (λ (y : Step). take k (mine (steps_of script) n) ++ y ∷ []) here in
    let worked = worked_on old.tenant.limits (take k (mine (steps_of script) n)) x answers a old.tenant.state
    new.tenant.state works.worked answered succeeds in
    let fed = fed_on (framed n) old.tenant.limits (take k (mine (steps_of script) n)) x answers a new.tenant.state
    old.tenant.held new.tenant.held works.worked.many works.fed worked rising.none
    (λ grows. subst framed works.number (more grows)) in
    record {
      number = same ∙ works.number;
      limits = works.limits ∙ ap Some (sym keeps);
      worked =
          subst (λ c. Worked c (take (k + 1) (mine (steps_of script) n)) (answers ++ a ∷ []) new.tenant.state) (sym keeps)
          (subst (λ xs. Worked old.tenant.limits xs (answers ++ a ∷ []) new.tenant.state) (sym taken) worked);
      fed =
          subst (λ c. Fed (framed n) c (take (k + 1) (mine (steps_of script) n)) (answers ++ a ∷ []) new.tenant.held) (sym keeps)
          (subst (λ xs. Fed (framed n) old.tenant.limits xs (answers ++ a ∷ []) new.tenant.held) (sym taken) fed);
    }

-- it made all
pub works_all : {Z : Type 0} (framed : Framed) (script : Draft) (n k : ℕ) (answers : List Answer) (worker : OneWorker Z) →
    comes_and_goes script ≡ false → Works framed script n k answers worker →
    length (places_of script.steps n) ≤ k → IsPlayedAlone script n answers
works_all framed script n k answers worker only works past =
    let past' : length (mine (steps_of script) n) ≤ k = omega (arith, many_mine script n only, past) in
    let worked = rw (take_all (mine (steps_of script) n) past') at works.worked in (
      worked.many,
      by (slice_get script.spaces n) (sym (slice_get-map (λ (s : List ℕ × Limits). s.1) script.spaces n)
          ∙ works.limits),
    )
  where
    by : (r : Option (List ℕ × Limits)) → option_map (λ s. s.1) r ≡ Some worker.tenant.limits
        → IfSome r (λ space. IsToldAlone space.1 (mine (steps_of script) n) answers)
    by None is = absurd (cc)
    by (Some s) is =
        let same : s.1 ≡ worker.tenant.limits = cc in
        let past' : length (mine (steps_of script) n) ≤ k = omega (arith, many_mine script n only, past) in
        let worked = rw (take_all (mine (steps_of script) n) past') at works.worked in (
          sym (ap (λ (w : Run). w.replies) worked.ran)
              ∙ ap (λ l. lone l (kept_alone (mine (steps_of script) n) answers)) (sym same),
          subst (λ l. NoWantAlone l (mine (steps_of script) n) answers) (sym same) worked.needed,
        )

-- and the gate was told of frames
pub works_framed : {Z : Type 0} (framed : Framed) (script : Draft) (n k : ℕ) (answers : List Answer) (worker : OneWorker Z) →
    comes_and_goes script ≡ false → Works framed script n k answers worker →
    length (places_of script.steps n) ≤ k →
    IfSome (slice_get script.spaces n) (λ space. IsToldOfBytes (framed n) space.1 (mine (steps_of script) n) answers)
works_framed framed script n k answers worker only works past =
    by (slice_get script.spaces n) (sym (slice_get-map (λ (s : List ℕ × Limits). s.1) script.spaces n) ∙ works.limits)
  where
    by : (r : Option (List ℕ × Limits)) → option_map (λ s. s.1) r ≡ Some worker.tenant.limits
        → IfSome r (λ space. IsToldOfBytes (framed n) space.1 (mine (steps_of script) n) answers)
    by None is = absurd (cc)
    by (Some s) is =
        let same : s.1 ≡ worker.tenant.limits = cc in
        let past' : length (mine (steps_of script) n) ≤ k = omega (arith, many_mine script n only, past) in
        let fed = rw (take_all (mine (steps_of script) n) past') at works.fed in
        subst (λ l. IsToldOfBytes (framed n) l (mine (steps_of script) n) answers) (sym same) fed.each

-- The workers of all of a script's namespaces

-- these namespaces with an allocator beside each
abbrev pub configs_of : {Z : Type 0} → Z → List (List ℕ × Limits) → List (Limits × Z)
configs_of z spaces = map (λ l. (l, z)) (map (λ s. s.1) spaces)

many_configs : {Z : Type 0} (z : Z) (spaces : List (List ℕ × Limits)) → length (configs_of z spaces) ≡ length spaces
many_configs z spaces = length-map (map (λ s. s.1) spaces) (λ l. (l, z)) ∙ length-map spaces (λ s. s.1)

many_workers : {Z : Type 0} (m : ℕ) (configs : List (Limits × Z)) → length (new_workers_from m configs) ≡ length configs
many_workers m [] = refl
many_workers m (e ∷ es) = ap suc (many_workers (suc m) es)

opened_from : {Z : Type 0} (z : Z) (all : List Tenant) (m : ℕ) (spaces : List (List ℕ × Limits)) →
    ((i : ℕ) → slice_get all (m + i) ≡ slice_get (map (λ s. new_tenant s.1) spaces) i) →
    (k : ℕ) (d : OneWorker Z) → k < length (new_workers_from m (configs_of z spaces)) →
    slice_get all (get_or (new_workers_from m (configs_of z spaces)) k d).number ≡ Some
    (get_or (new_workers_from m (configs_of z spaces)) k d).tenant
opened_from z all m [] behind k d low = absurd (omega (arith, low))
opened_from z all m (s ∷ ss) behind zero d low =
    let here : m + 0 ≡ m = omega arith in
    ap (λ n. slice_get all n) (sym here) ∙ behind 0
opened_from z all m (s ∷ ss) behind (suc k) d low =
    opened_from z all (suc m) ss (λ i. let next : suc m + i ≡ m + suc i = omega arith in ap (λ n. slice_get all n) next
    ∙ behind (suc i)) k d (omega (arith, low))

-- they are new
pub all_opened : {Z : Type 0} (script : Draft) (z : Z) (workers : List (OneWorker Z)) → comes_and_goes script ≡ false →
    workers ≡ new_workers (configs_of z script.spaces) →
    All (IsOpened script) workers
all_opened script z workers only is =
    rw is (λ k d low. (
      only,
      opened_from z (map (λ s. new_tenant s.1) script.spaces) 0 script.spaces
          (λ i. let same : 0 + i ≡ i
          = omega arith in ap (λ n. slice_get (map (λ s. new_tenant s.1) script.spaces) n) same) k d low,
    ))

tenant_at : (spaces : List (List ℕ × Limits)) (n : ℕ) (l : Limits) → slice_get (map (λ s. s.1) spaces) n ≡ Some l
    → slice_get (map (λ s. new_tenant s.1) spaces) n ≡ Some (new_tenant l)
tenant_at [] n l is = absurd (cc)
tenant_at (s ∷ ss) zero l is = let same : s.1 ≡ l = cc in ap (λ (x : Limits). Some (new_tenant x)) same
tenant_at (s ∷ ss) (suc n) l is = tenant_at ss n l is

-- so is one of them
pub one_opened : {Z : Type 0} (script : Draft) (z : Z) (n : ℕ) (limits : Limits) (workers : List (OneWorker Z)) →
    comes_and_goes script ≡ false → slice_get (map (λ s. s.1) script.spaces) n ≡ Some limits → workers ≡ new_worker n (limits, z) ∷ [] →
    All (IsOpened script) workers
one_opened {Z} script z n limits workers only at_place is = rw is by
  where
    by : (k : ℕ) (d : OneWorker Z) → k < 1 → IsOpened script (get_or (new_worker n (limits, z) ∷ []) k d)
    by zero d low = (only, tenant_at script.spaces n limits at_place)
    by (suc k) d low = absurd (omega (arith, low))

-- there is a list of answers for each
pub many_lists : {Z : Type 0} (passed : Passed) (framed : Framed) (script : Draft) (z : Z) (workers : List (OneWorker Z))
    (own : List (List EventAnswer)) →
    workers ≡ new_workers (configs_of z script.spaces) → AreWorked passed framed script workers own →
    length own ≡ length script.spaces
many_lists passed framed script z workers own is worked =
    AllZip-long (λ worker answers. IsWorked passed framed script worker.number answers) workers own worked
    ∙ ap (λ ws. length ws) is ∙ many_workers 0 (configs_of z script.spaces) ∙ many_configs z script.spaces

worked_from : {Z : Type 0} (passed : Passed) (framed : Framed) (script : Draft) (m : ℕ) (configs : List (Limits × Z))
    (own : List (List EventAnswer)) →
    AreWorked passed framed script (new_workers_from m configs) own → (i : ℕ) → i < length configs →
    IsWorked passed framed script (m + i) (get_or own i [])
worked_from passed framed script m [] own worked i low = absurd (omega (arith, low))
worked_from passed framed script m (e ∷ es) [] worked i low = absurd worked
worked_from passed framed script m (e ∷ es) (answers ∷ own) worked zero low =
    let here : m ≡ m + 0 = omega arith in
    subst (λ n. IsWorked passed framed script n answers) here worked.0
worked_from passed framed script m (e ∷ es) (answers ∷ own) worked (suc i) low =
    let next : suc m + i ≡ m + suc i = omega arith in
    subst (λ n. IsWorked passed framed script n (get_or own i [])) next
    (worked_from passed framed script (suc m) es own worked.1 i (omega (arith, low)))

-- at its place
pub each_worked : {Z : Type 0} (passed : Passed) (framed : Framed) (script : Draft) (z : Z) (workers : List (OneWorker Z))
    (own : List (List EventAnswer)) →
    workers ≡ new_workers (configs_of z script.spaces) → AreWorked passed framed script workers own →
    (n : ℕ) → n < length script.spaces → IsWorked passed framed script n (get_or own n [])
each_worked passed framed script z workers own is worked n low =
    let same : 0 + n ≡ n = omega arith in
    subst (λ m. IsWorked passed framed script m (get_or own n [])) same
    (worked_from passed framed script 0 (configs_of z script.spaces) own
    (subst (λ ws. AreWorked passed framed script ws own) is worked) n
    (omega (arith, low, many_configs z script.spaces)))

-- so the gate was told of each step
pub worked_passed : (passed : Passed) (framed : Framed) (script : Draft) (n : ℕ) (answers : List EventAnswer) →
    IsWorked passed framed script n answers → IsPassed passed script n
worked_passed passed framed script n answers worked =
    subst (λ number. ArePassed passed n number)
    (ap (λ (xs : List EventAnswer). length xs) worked.0.1 ∙ length-map worked.0.0 (λ a. told.Answer a) ∙ worked.0.2.0) worked.1

-- and that each takes frames
pub worked_framed : (passed : Passed) (framed : Framed) (script : Draft) (n : ℕ) (answers : List EventAnswer) →
    IsWorked passed framed script n answers → IsFramed framed script n answers
worked_framed passed framed script n answers worked = worked.2

-- so it is of all of them
pub all_framed : (framed : Framed) (script : Draft) (answered : Answered) (own : Vec (Vec Told Global) Global) →
    IsRun script None answered → answered ≡ forms.All own →
    ((n : ℕ) → n < length script.spaces → IsFramed framed script n (get_or (map (λ (v : Vec Told Global). v.items) own.items) n [])) →
    IsRunFramed framed script None answered
all_framed framed script answered own run is each =
    let answers = run.0 in
    let held : Holds script (forms.All own) None answers = subst (λ a. Holds script a None answers) is run.1 in
    (answers, run.1, run.2, λ n low. subst (IsFramed framed script n) (held.2 n low) (each n low))

-- The last of what one worker alone is told is all that it is told
alone_at : {Z : Type 0} (passed : Passed) (framed : Framed) (script : Draft) (worker : OneWorker Z) {V : Type 0} (f : V → List EventAnswer) (own left : List V) (last : V)
    → AreWorked passed framed script (worker ∷ []) (map f own) → own ≡ left ++ last ∷ [] → IsWorked passed framed script worker.number (f last)
alone_at passed framed script worker f [] left last worked is = absurd worked
alone_at passed framed script worker f (v ∷ w ∷ more) left last worked is = absurd worked.1
alone_at passed framed script worker f (v ∷ []) [] last worked is =
    let same : v ≡ last = cc in
    subst (λ x. IsWorked passed framed script worker.number (f x)) same worked.0
alone_at passed framed script worker f (v ∷ []) (x ∷ []) last worked is = absurd (cc)
alone_at passed framed script worker f (v ∷ []) (x ∷ y ∷ more) last worked is = absurd (cc)

pub alone_worked : {Z : Type 0} (passed : Passed) (framed : Framed) (script : Draft) (worker : OneWorker Z) (workers : List (OneWorker Z)) {V : Type 0} (f : V → List EventAnswer) (own left : List V) (last : Option V) (v : V)
    → workers ≡ worker ∷ [] → AreWorked passed framed script workers (map f own) → own ≡ left ++ option_to_list last → last ≡ Some v → IsWorked passed framed script worker.number (f v)
alone_worked passed framed script worker workers f own left last v one worked is some =
    alone_at passed framed script worker f own left v (subst (λ ws. AreWorked passed framed script ws (map f own)) one worked) (is ∙ ap (λ o. left ++ option_to_list o) some)

-- those before the last are opened where all are
pub opened_before : {Z : Type 0} (script : Draft) (workers before : List (OneWorker Z)) (worker : OneWorker Z) →
    All (IsOpened script) workers → workers ≡ before ++ worker ∷ [] → All (IsOpened script) before
opened_before script workers before worker opened is k d low =
    let long : length workers ≡ length before + 1 =
    ap (λ ws. length ws) is ∙ length-append before (worker ∷ []) in
    subst (λ w. IsOpened script w)
    (ap (λ ws. get_or ws k d) is ∙ get_or_append_left before (worker ∷ []) d k low)
    (opened k d (omega (arith, long, low)))
