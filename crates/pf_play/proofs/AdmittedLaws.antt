-- A name that is admitted among others is admitted alone, and is told the same from there on.

use Rattle.std.proofs.Common.{◌≡◌, ℕ, zero, suc, ◌+◌, ◌<◌, ◌≤◌, Bool, true, false, List, [], ◌∷◌, ◌++◌, length, map, take}
use Rattle.std.proofs.Common.{refl, ap, sym, ◌∙◌, subst, arith, inl, inr, length-append, sub-le}
use Rattle.std.specs.Prelude.{◌≢◌, ◌-◌, Option, Some, None, IsSome, nat_eq, nat_lt, slice_get, if◌then◌else◌}
use Rattle.std.proofs.lemmas.Bool.{cases_eq, cases_lt, eq-eqb, ne_eqb, lt-ltb, le-ltb}
use Rattle.std.proofs.lemmas.List.{length-map, length-take}
use Rattle.pf_base.specs.Limits.{Limits}
use Rattle.pf_base.specs.declared.TheConstants.{MAX_NAMESPACES, MAX_NUMBERS}
use Rattle.pf_base.specs.declared.admission.AdmitFault.{AdmitFault}
use Rattle.pf_base.specs.declared.admission.AdmitFault.TheVariants as admission
use Rattle.pf_base.specs.declared.admission.RetireFault.{RetireFault}
use Rattle.pf_base.specs.declared.admission.EventAnswer.{EventAnswer}
use Rattle.pf_base.specs.declared.admission.EventAnswer.TheVariants as told
use Rattle.pf_base.specs.declared.step.Step.{Step}
use Rattle.pf_machine.specs.Houses.{House, Guest, Event, Stepping, Admitting, Retiring, newcomer, step_turn, admit_turn}
use Rattle.pf_machine.specs.Houses.{retire_turn, retire_fault, turn_of, admit_fault, slack, number_living, given as numbers}
use Rattle.pf_machine.specs.Houses.{begun, begun_by, begun_in, reserved}
use Rattle.pf_machine.specs.Numbered.{at}
use Rattle.pf_machine.proofs.NumberedLaws.{at_past, at-push_new}
use Rattle.pf_script.specs.Places.{lines_of}
use Rattle.pf_script.specs.Sound.{AreGiven}
use Rattle.pf_script.specs.Text.{answers_of, event_text}
use Rattle.pf_script.specs.declared.line.Line.{Line}
use Rattle.pf_script.specs.declared.line.Line.TheVariants as lines
use Rattle.pf_script.specs.Script.{Draft}
use Rattle.pf_script.proofs.Soundness.{opened}
use Rattle.pf_play.specs.Houses.{Falls, Fall, IsHoused, alone, events_of, first_house, keep_place, said, said_of}
use Rattle.pf_play.specs.Houses.{limits_of_name, lone_limits}
use Rattle.pf_play.specs.Texts.{IsAdmitted}
use Rattle.pf_play.proofs.AloneLaws.{alone_limits, lone_start}
use Rattle.pf_play.proofs.PlayLaws.{told_limits}
use Rattle.pf_play.specs.Plays.{nomem_of}
use Rattle.pf_play.proofs.SameLaws.{whole}
use Rattle.pf_play.proofs.SectionLaws.{Same, same_after, kept_step, kept_retire, admit_more}

-- who is admitted fits into the frames
admitted_fits : (h : House) (r : ℕ) → admit_fault h r ≡ None → r ≤ h.frames
admitted_fits h r is = elim (cases_lt (slack h) r) [
  | inr low ↦ omega (arith, low, sub-le h.frames (reserved h))
  | inl high ↦ absurd (by (nat_lt (number_living h) MAX_NAMESPACES) (nat_lt (numbers h) MAX_NUMBERS)
      (subst (λ (c : Bool). (if nat_lt (number_living h) MAX_NAMESPACES
      then (if nat_lt (numbers h) MAX_NUMBERS
      then (if c then Some (admission.NoRoom (slack h)) else None)
      else Some admission.TooManyNamespaces)
      else Some admission.TooManyNamespaces) ≡ None) (lt-ltb (slack h) r high) is))
]
  where
    by : (a b : Bool) → (if a then (if b then Some (admission.NoRoom (slack h)) else Some admission.TooManyNamespaces)
        else Some admission.TooManyNamespaces) ≡ None → ⊥
    by true true is = cc
    by true false is = cc
    by false b is = cc

-- whoever fits is admitted where nobody is
first_admits : (frames r : ℕ) → r ≤ frames → admit_fault (record { frames = frames; guests = [] }) r ≡ None
first_admits frames r low =
    let free : frames - 0 ≡ frames = omega arith in
    let room : nat_lt (frames - 0) r ≡ false = ap (λ k. nat_lt k r) free ∙ le-ltb frames r low in
    ap (λ (c : Bool). if c then Some (admission.NoRoom (frames - 0)) else None) room

-- no event changes the frames
step_frames : (h : House) (k : ℕ) (s : Step) → (turn_of h (Stepping k s)).house.frames ≡ h.frames
step_frames h k s = by (at h.guests k)
  where
    by : (o : Option Guest) → (step_turn h k s o).house.frames ≡ h.frames
    by None = refl
    by (Some g) = refl

retire_frames : (h : House) (k : ℕ) → (turn_of h (Retiring k)).house.frames ≡ h.frames
retire_frames h k = by (retire_fault (at h.guests k))
  where
    by : (fault : Option RetireFault) → (retire_turn h k fault).house.frames ≡ h.frames
    by None = refl
    by (Some fault) = refl

admit_frames : (h : House) (limits : Limits) (fault : Option AdmitFault) →
    (keep_place (admit_turn h limits fault).house (admit_turn h limits fault).answer).frames ≡ h.frames
admit_frames h limits None = refl
admit_frames h limits (Some fault) = refl

-- an admission begins the next number and no other
passed_by : (h : House) (limits : Limits) (fault : Option AdmitFault) (n : ℕ) (rest : Option Guest) →
    length h.guests ≢ n → begun_by (Admitting limits) (admit_turn h limits fault).answer n rest ≡ rest
passed_by h limits None n rest ne =
    ap (λ (b : Bool). if b then Some (newcomer limits) else rest) (ne_eqb (length h.guests) n ne)
passed_by h limits (Some fault) n rest ne = refl

-- a name that has its place already isn't admitted later
never_begun : (spaces : List (List ℕ × Limits)) (n : ℕ) (all all' : House) (es : List (ℕ × Line))
    (answers : List EventAnswer) → Fall all (map (said spaces) es) answers all' → n < length all.guests →
    0 ≡ nomem_of answers → begun_in (map (said spaces) es) answers n ≡ None
never_begun spaces n all all' [] [] falls low none = refl
never_begun spaces n all all' [] (a ∷ answers) falls low none = absurd falls
never_begun spaces n all all' (e ∷ es) [] falls low none = absurd falls
never_begun spaces n all all' ((k, lines.Step s) ∷ es) (a ∷ answers) falls low none =
    let here = whole all falls.0 (Stepping k s) a falls.1 (omega (arith, none)) in
    let many : length falls.0.guests ≡ length all.guests =
    ap (λ (h : House). length h.guests) (here.1 ∙ (kept_step all k s).0) ∙ (kept_step all k s).1 in
    never_begun spaces n falls.0 all' es answers falls.2 (omega (arith, many, low)) (omega (arith, none))
never_begun spaces n all all' ((k, lines.Retire) ∷ es) (a ∷ answers) falls low none =
    let here = whole all falls.0 (Retiring k) a falls.1 (omega (arith, none)) in
    let many : length falls.0.guests ≡ length all.guests =
    ap (λ (h : House). length h.guests) (here.1 ∙ (kept_retire all k).0) ∙ (kept_retire all k).1 in
    never_begun spaces n falls.0 all' es answers falls.2 (omega (arith, many, low)) (omega (arith, none))
never_begun spaces n all all' ((k, lines.Admit) ∷ es) (a ∷ answers) falls low none =
    let limits = limits_of_name spaces k in
    let fault = admit_fault all limits.reserve in
    let here = whole all falls.0 (Admitting limits) a falls.1 (omega (arith, none)) in
    let many : length falls.0.guests ≡ length all.guests + 1 =
    ap (λ (h : House). length h.guests) here.1 ∙ admit_more all limits fault in
    ap (λ (x : EventAnswer). begun_by (Admitting limits) x n (begun_in (map (said spaces) es) answers n)) here.0
    ∙ passed_by all limits fault n (begun_in (map (said spaces) es) answers n) (λ o. omega (arith, o, low))
    ∙ never_begun spaces n falls.0 all' es answers falls.2 (omega (arith, many, low)) (omega (arith, none))

nobody : IsSome {T = Guest} None → ⊥
nobody is = cc

module _ (spaces : List (List ℕ × Limits)) (limits : Limits) (n m : ℕ) (own_limits : limits_of_name spaces n ≡ limits) where
  -- both admit it
  both_admit : (all all' mid lone lone' mid' : House) (es : List (ℕ × Line)) (a b : EventAnswer)
      (answers own : List EventAnswer) → Falls all (Admitting (limits_of_name spaces n)) a mid →
      Fall mid (map (said spaces) es) answers all' →
      Falls lone (Admitting limits) b mid' → Fall mid' (map (said_of limits 0) (lines_of es n)) own lone' →
      lone ≡ record { frames = all.frames; guests = [] } → length all.guests ≡ n → AreGiven (length all.guests + 1) es m →
      0 ≡ nomem_of (a ∷ answers) → 0 ≡ nomem_of (b ∷ own) →
      IsSome (begun_by (Admitting (limits_of_name spaces n)) a n (begun_in (map (said spaces) es) answers n)) →
      map event_text (a ∷ answers_of es answers n) ≡ map event_text (b ∷ own)
  both_admit all all' mid lone lone' mid' es a b answers own falls rest falls' rest' empty place known none none' begins =
      by (admit_fault all (limits_of_name spaces n).reserve) refl
    where
      here : (a ≡ (admit_turn all (limits_of_name spaces n) (admit_fault all (limits_of_name spaces n).reserve)).answer)
          × (mid ≡ keep_place (admit_turn all (limits_of_name spaces n) (admit_fault all (limits_of_name spaces n).reserve)).house
          (admit_turn all (limits_of_name spaces n) (admit_fault all (limits_of_name spaces n).reserve)).answer)
      here = whole all mid (Admitting (limits_of_name spaces n)) a falls (omega (arith, none))

      there : (b ≡ (admit_turn lone limits (admit_fault lone limits.reserve)).answer)
          × (mid' ≡ keep_place (admit_turn lone limits (admit_fault lone limits.reserve)).house
          (admit_turn lone limits (admit_fault lone limits.reserve)).answer)
      there = whole lone mid' (Admitting limits) b falls' (omega (arith, none'))

      by : (fault : Option AdmitFault) → admit_fault all (limits_of_name spaces n).reserve ≡ fault →
          map event_text (a ∷ answers_of es answers n) ≡ map event_text (b ∷ own)
      by (Some fault) is =
          let answer : a ≡ told.NotAdmitted fault =
          here.0 ∙ ap (λ (f : Option AdmitFault). (admit_turn all (limits_of_name spaces n) f).answer) is in
          let many : length mid.guests ≡ length all.guests + 1 =
          ap (λ (h : House). length h.guests) here.1
          ∙ admit_more all (limits_of_name spaces n) (admit_fault all (limits_of_name spaces n).reserve) in
          let later = never_begun spaces n mid all' es answers rest (omega (arith, many, place)) (omega (arith, none)) in
          absurd (nobody (subst (λ (o : Option Guest). IsSome o) later
          (subst (λ (x : EventAnswer). IsSome (begun_by (Admitting (limits_of_name spaces n)) x n
          (begun_in (map (said spaces) es) answers n))) answer begins)))
      by None is =
          let fits : limits.reserve ≤ all.frames =
          subst (λ (l : Limits). l.reserve ≤ all.frames) own_limits
          (admitted_fits all (limits_of_name spaces n).reserve is) in
          let let_in : admit_fault lone limits.reserve ≡ None =
          ap (λ (h : House). admit_fault h limits.reserve) empty ∙ first_admits all.frames limits.reserve fits in
          let answer : a ≡ told.Admitted (length all.guests) =
          here.0 ∙ ap (λ (f : Option AdmitFault). (admit_turn all (limits_of_name spaces n) f).answer) is in
          let answer' : b ≡ told.Admitted (length lone.guests) =
          there.0 ∙ ap (λ (f : Option AdmitFault). (admit_turn lone limits f).answer) let_in in
          let next : mid ≡ record all { guests = all.guests ++ Some (newcomer (limits_of_name spaces n)) ∷ [] } =
          here.1 ∙ ap (λ (f : Option AdmitFault). keep_place (admit_turn all (limits_of_name spaces n) f).house
          (admit_turn all (limits_of_name spaces n) f).answer) is in
          let next' : mid' ≡ record { frames = all.frames; guests = Some (newcomer limits) ∷ [] } =
          there.1 ∙ ap (λ (f : Option AdmitFault). keep_place (admit_turn lone limits f).house
          (admit_turn lone limits f).answer) let_in
          ∙ ap (λ (h : House). record h { guests = h.guests ++ Some (newcomer limits) ∷ [] }) empty in
          let many : length mid.guests ≡ length all.guests + 1 =
          ap (λ (h : House). length h.guests) next
          ∙ length-append all.guests (Some (newcomer (limits_of_name spaces n)) ∷ []) in
          let there_now : at mid.guests n ≡ Some (newcomer limits) =
          ap (λ (h : House). at h.guests n) next
          ∙ ap (λ j. at (all.guests ++ Some (newcomer (limits_of_name spaces n)) ∷ []) j) (sym place)
          ∙ at-push_new all.guests (Some (newcomer (limits_of_name spaces n)))
          ∙ ap (λ (l : Limits). Some (newcomer l)) own_limits in
          let same : Same n mid mid' = record {
            within = omega (arith, many, place);
            one = subst (λ (h : House). 0 < length h.guests) (sym next') (omega arith);
            guest = ap (λ (h : House). at h.guests 0) next' ∙ sym there_now;
          } in
          let later = same_after spaces limits n m mid all' mid' lone' es answers own rest rest' same
          (subst (λ c. AreGiven c es m) (sym many) known) (omega (arith, none)) (omega (arith, none')) in
          let texts : event_text a ≡ event_text b = ap event_text answer ∙ sym (ap event_text answer') in
          λ i. texts i ∷ ap (map event_text) later i

  -- the lines before are others'
  pub same_before : (all all' lone lone' : House) (es : List (ℕ × Line)) (answers own : List EventAnswer) →
      Fall all (map (said spaces) es) answers all' → Fall lone (map (said_of limits 0) (lines_of es n)) own lone' →
      lone ≡ record { frames = all.frames; guests = [] } → length all.guests ≤ n → AreGiven (length all.guests) es m →
      0 ≡ nomem_of answers → 0 ≡ nomem_of own → IsSome (begun_in (map (said spaces) es) answers n) →
      map event_text (answers_of es answers n) ≡ map event_text own
  unfolding answers_of
  same_before all all' lone lone' [] [] [] falls alone empty past known none none' begins = refl
  same_before all all' lone lone' [] [] (b ∷ own) falls alone empty past known none none' begins = absurd alone
  same_before all all' lone lone' [] (a ∷ answers) own falls alone empty past known none none' begins = absurd falls
  same_before all all' lone lone' (e ∷ es) [] own falls alone empty past known none none' begins = absurd falls
  same_before all all' lone lone' ((k, lines.Step s) ∷ es) (a ∷ answers) own falls alone empty past known none none' begins =
      let ne : k ≡ n → ⊥ = λ o. omega (arith, o, known.0, past) in
      let here = whole all falls.0 (Stepping k s) a falls.1 (omega (arith, none)) in
      let mid = here.1 ∙ (kept_step all k s).0 in
      let many : length falls.0.guests ≡ length all.guests =
      ap (λ (h : House). length h.guests) mid ∙ (kept_step all k s).1 in
      let frames : falls.0.frames ≡ all.frames = ap (λ (h : House). h.frames) mid ∙ step_frames all k s in
      let rest = rw (ne_eqb k n ne) at alone in
      rw (ne_eqb k n ne) (same_before falls.0 all' lone lone' es answers own falls.2 rest
      (empty ∙ ap (λ f. record { frames = f; guests = [] }) (sym frames)) (omega (arith, many, past))
      (subst (λ c. AreGiven c es m) (sym many) known.1) (omega (arith, none)) none' begins)
  same_before all all' lone lone' ((k, lines.Retire) ∷ es) (a ∷ answers) own falls alone empty past known none none' begins =
      let ne : k ≡ n → ⊥ = λ o. omega (arith, o, known.0, past) in
      let here = whole all falls.0 (Retiring k) a falls.1 (omega (arith, none)) in
      let mid = here.1 ∙ (kept_retire all k).0 in
      let many : length falls.0.guests ≡ length all.guests =
      ap (λ (h : House). length h.guests) mid ∙ (kept_retire all k).1 in
      let frames : falls.0.frames ≡ all.frames = ap (λ (h : House). h.frames) mid ∙ retire_frames all k in
      let rest = rw (ne_eqb k n ne) at alone in
      rw (ne_eqb k n ne) (same_before falls.0 all' lone lone' es answers own falls.2 rest
      (empty ∙ ap (λ f. record { frames = f; guests = [] }) (sym frames)) (omega (arith, many, past))
      (subst (λ c. AreGiven c es m) (sym many) known.1) (omega (arith, none)) none' begins)
  same_before all all' lone lone' ((k, lines.Admit) ∷ es) (a ∷ answers) own falls alone empty past known none none' begins =
      elim (cases_eq k n) [
        | inr ne ↦
            let its = limits_of_name spaces k in
            let fault = admit_fault all its.reserve in
            let here = whole all falls.0 (Admitting its) a falls.1 (omega (arith, none)) in
            let many : length falls.0.guests ≡ length all.guests + 1 =
            ap (λ (h : House). length h.guests) here.1 ∙ admit_more all its fault in
            let frames : falls.0.frames ≡ all.frames = ap (λ (h : House). h.frames) here.1 ∙ admit_frames all its fault in
            let later : IsSome (begun_in (map (said spaces) es) answers n) =
            subst (λ (o : Option Guest). IsSome o)
            (ap (λ (x : EventAnswer). begun_by (Admitting its) x n (begun_in (map (said spaces) es) answers n)) here.0
            ∙ passed_by all its fault n (begun_in (map (said spaces) es) answers n) (λ o. ne (known.0 ∙ o))) begins in
            let rest = rw (ne_eqb k n ne) at alone in
            rw (ne_eqb k n ne) (same_before falls.0 all' lone lone' es answers own falls.2 rest
            (empty ∙ ap (λ f. record { frames = f; guests = [] }) (sym frames)) (omega (arith, many, past, ne, known.0))
            (subst (λ c. AreGiven c es m) (sym many) known.1) (omega (arith, none)) none' later)
        | inl o ↦ named own (rw (eq-eqb k n o) at alone) none' o
      ]
    where
      named : (own : List EventAnswer) →
          Fall lone (Admitting limits ∷ map (said_of limits 0) (lines_of es n)) own lone' →
          0 ≡ nomem_of own → k ≡ n →
          map event_text (if nat_eq k n then a ∷ answers_of es answers n else answers_of es answers n) ≡ map event_text own
      named [] alone none' o = absurd alone
      named (b ∷ own) alone none' o =
          let falls_n : Falls all (Admitting (limits_of_name spaces n)) a falls.0 =
          subst (λ j. Falls all (Admitting (limits_of_name spaces j)) a falls.0) o falls.1 in
          let begins_n : IsSome (begun_by (Admitting (limits_of_name spaces n)) a n
          (begun_in (map (said spaces) es) answers n)) =
          subst (λ j. IsSome (begun_by (Admitting (limits_of_name spaces j)) a n
          (begun_in (map (said spaces) es) answers n))) o begins in
          rw (eq-eqb k n o)
          (both_admit all all' falls.0 lone lone' alone.0 es a b answers own falls_n falls.2 alone.1 alone.2 empty
          (sym known.0 ∙ o) known.1 none none' begins_n)

-- A script's houses at the start

first_at : (spaces : List (List ℕ × Limits)) (k n : ℕ) (l : Limits) → n < k →
    slice_get (map (λ s. s.1) spaces) n ≡ Some l →
    at (map (λ (x : Limits). Some (newcomer x)) (map (λ s. s.1) (take k spaces))) n ≡ Some (newcomer l)
first_at [] k n l low is = absurd (cc)
first_at (s ∷ ss) zero n l low is = absurd (omega (arith, low))
first_at (s ∷ ss) (suc k) zero l low is =
    let same : s.1 ≡ l = cc in
    ap (λ (x : Limits). Some (newcomer x)) same
first_at (s ∷ ss) (suc k) (suc n) l low is = first_at ss k n l (omega (arith, low)) is

said_first : (spaces : List (List ℕ × Limits)) (ls : List Line) →
    map (said spaces) (map (λ line. (0, line)) ls) ≡ map (said_of (limits_of_name spaces 0) 0) ls
said_first spaces [] = refl
said_first spaces (l ∷ ls) = ap (λ (es : List Event). said_of (limits_of_name spaces 0) 0 l ∷ es) (said_first spaces ls)

-- one name's answers have the same text in a run of its own and in one of all that admitted it
pub same_section : (script : Draft) (n : ℕ) (first second : List EventAnswer) → n < length script.spaces →
    AreGiven script.opening script.steps (length script.spaces) → IsHoused (alone script n) first → IsHoused script second →
    0 ≡ nomem_of first → 0 ≡ nomem_of second → IsAdmitted script second n →
    map event_text (answers_of script.steps second n) ≡ map event_text first
same_section script n first second low known own all none none' begins =
    let limits : Limits = limits_of_name (alone script n).spaces 0 in
    let there : slice_get (map (λ s. s.1) script.spaces) n ≡ Some limits = alone_limits script.spaces n low in
    let own_limits : limits_of_name script.spaces n ≡ limits = told_limits script.spaces n limits there in
    let falls : Fall (first_house (alone script n)) (map (said_of limits 0) (lines_of script.steps n)) first own.end =
    subst (λ (es : List Event). Fall (first_house (alone script n)) es first own.end)
    (said_first (alone script n).spaces (lines_of script.steps n)) own.fall in
    let within : script.opening ≤ length script.spaces = opened script.opening script.steps (length script.spaces) known in
    let long : length (first_house script).guests ≡ script.opening =
    length-map (map (λ s. s.1) (take script.opening script.spaces)) (λ limits. Some (newcomer limits))
    ∙ length-map (take script.opening script.spaces) (λ (s : List ℕ × Limits). s.1)
    ∙ omega (arith, length-take script.opening script.spaces, within) in
    let known' : AreGiven (length (first_house script).guests) script.steps (length script.spaces) =
    subst (λ k. AreGiven k script.steps (length script.spaces)) (sym long) known in
    elim (cases_lt n script.opening) [
      | inl early ↦
          let ls : lone_limits script n ≡ limits ∷ [] =
          lone_start script n limits there ∙ ap (λ (b : Bool). if b then limits ∷ [] else []) (lt-ltb n script.opening early) in
          let guest : at (first_house script).guests n ≡ Some (newcomer limits) =
          first_at script.spaces script.opening n limits early there in
          let guests : (first_house (alone script n)).guests ≡ Some (newcomer limits) ∷ [] =
          ap (λ (xs : List Limits). map (λ (l : Limits). Some (newcomer l)) xs) ls in
          let same : Same n (first_house script) (first_house (alone script n)) = record {
            within = omega (arith, long, early);
            one = subst (λ (gs : List (Option Guest)). 0 < length gs) (sym guests) (omega arith);
            guest = ap (λ (gs : List (Option Guest)). at gs 0) guests ∙ sym guest;
          } in
          ap (map event_text)
          (same_after script.spaces limits n (length script.spaces) (first_house script) all.end
          (first_house (alone script n)) own.end script.steps second first all.fall falls same known' none' none)
      | inr late ↦
          let ls : lone_limits script n ≡ [] =
          lone_start script n limits there ∙ ap (λ (b : Bool). if b then limits ∷ [] else []) (le-ltb n script.opening late) in
          let empty : first_house (alone script n) ≡ record { frames = script.frames; guests = [] } =
          ap (λ (xs : List Limits). record { frames = script.frames; guests = map (λ (l : Limits). Some (newcomer l)) xs }) ls in
          let gone : at (first_house script).guests n ≡ None =
          at_past (first_house script).guests n (omega (arith, long, late)) in
          let begins' : IsSome (begun_in (events_of script) second n) =
          subst (λ (o : Option Guest). IsSome (begun o (events_of script) second n)) gone begins in
          same_before script.spaces limits n (length script.spaces) own_limits (first_house script) all.end
          (first_house (alone script n)) own.end script.steps second first all.fall falls empty (omega (arith, long, late))
          known' none' none begins'
    ]
