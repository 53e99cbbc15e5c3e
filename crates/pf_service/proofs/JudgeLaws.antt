-- A namespace's transcript, and those that aren't there.

use Rattle.std.proofs.Common.{◌≡◌, ℕ, ◌+◌, ◌<◌, ◌≤◌, List, ◌∷◌, length, inl, inr, Bool, true, false, nat_eq, refl, ap, sym, ◌∙◌, subst, arith, if◌then◌else◌, zero-add, []}
use Rattle.std.specs.Prelude.{All, slice_index, count_by, Result, Ok, Err, IfErr, IsErrAnd}
use Rattle.std.specs.List.{flat_map}
use Rattle.std.proofs.lemmas.Bool.{cases_lt, ne_eqb, and_left, eq-eqb, and_from, le-ltb}
use Rattle.std.proofs.lemmas.List.{get_or_past}
use Rattle.std.proofs.lemmas.List.Elements.{All-nil, All-head, All-tail}
use Rattle.std.proofs.lemmas.List.Sums.{sum_by-cons}
use Rattle.pf_base.specs.Limits.{Limits}
use Rattle.pf_service.specs.declared.event.Event.{Event}
use Rattle.pf_service.specs.declared.fault.CloseFault.{CloseFault}
use Rattle.pf_service.specs.declared.fault.CloseFault.TheVariants.{Disagree, SeatsMissing, NoMemory}
use Rattle.pf_service.specs.Judged.{Agrees, IsCause, IsClosed, IsClosedFault, IsUnlockedFault}
use Rattle.pf_service.specs.Merge.{at, stands, Rises, IsMerge}
use Rattle.pf_service.specs.Seats.{OneSeat, is_seat, lists_of, AreGiven, IsGiven}
use Rattle.pf_service.specs.Transcripts.{OneTranscript, IsLone, transcript_at, no_transcript}
use Rattle.pf_service.proofs.MergeLaws.{lists_of-other}

-- one seat more
counted : (ns k : ℕ) (s : OneSeat) (ss : List OneSeat) (b : Bool) → is_seat ns k s ≡ b → count_by (is_seat ns k) (s ∷ ss) ≡ (if b then 1 else 0) + count_by (is_seat ns k) ss
counted ns k s ss b is = sum_by-cons (λ (v : OneSeat). if is_seat ns k v then 1 else 0) s ss ∙ ap (λ (t : Bool). (if t then 1 else 0) + count_by (is_seat ns k) ss) is

-- no seat is of a namespace that isn't there
pub none_of : (seats : List OneSeat) (number ns k : ℕ) → All (λ s. s.ns < number) seats → number ≤ ns → count_by (is_seat ns k) seats ≡ 0
none_of [] number ns k all past = refl
none_of (s ∷ ss) number ns k all past =
    let here : s.ns < number = All-head (λ (v : OneSeat). v.ns < number) s ss all in
    counted ns k s ss false (and_left (nat_eq s.ns ns) (nat_eq s.number k) (ne_eqb s.ns ns (λ e. omega (arith, e, here, past))))
    ∙ zero-add (count_by (is_seat ns k) ss)
    ∙ none_of ss number ns k (All-tail (λ (v : OneSeat). v.ns < number) s ss all) past

pub none_given : (seats : List OneSeat) (number ns : ℕ) → All (λ s. s.ns < number) seats → number ≤ ns → IsGiven ns 0 seats
none_given seats number ns all past k = none_of seats number ns k all past ∙ sym (ap (λ (b : Bool). if b then 1 else 0) (le-ltb k 0 (omega arith)))

-- where none was given, there are no lists
no_list : (ns : ℕ) (s : OneSeat) (ss : List OneSeat) (b : Bool) → nat_eq s.ns ns ≡ b → ((k : ℕ) → count_by (is_seat ns k) (s ∷ ss) ≡ 0)
    → (((k : ℕ) → count_by (is_seat ns k) ss ≡ 0) → lists_of ns ss ≡ []) → lists_of ns (s ∷ ss) ≡ []
no_list ns s ss true is none rest =
    let one : count_by (is_seat ns s.number) (s ∷ ss) ≡ 1 + count_by (is_seat ns s.number) ss = counted ns s.number s ss true (and_from (nat_eq s.ns ns) (nat_eq s.number s.number) is (eq-eqb s.number s.number refl)) in
    let nil : count_by (is_seat ns s.number) (s ∷ ss) ≡ 0 = none s.number in
    absurd (omega (arith, one, nil))
no_list ns s ss false is none rest =
    lists_of-other ns s ss is
    ∙ rest (λ k.
    let same : count_by (is_seat ns k) (s ∷ ss) ≡ 0 + count_by (is_seat ns k) ss = counted ns k s ss false (and_left (nat_eq s.ns ns) (nat_eq s.number k) is) in
    sym (zero-add (count_by (is_seat ns k) ss)) ∙ sym same ∙ none k)

no_lists : (ns : ℕ) (seats : List OneSeat) → ((k : ℕ) → count_by (is_seat ns k) seats ≡ 0) → lists_of ns seats ≡ []
no_lists ns [] none = refl
no_lists ns (s ∷ ss) none = no_list ns s ss (nat_eq s.ns ns) refl none (no_lists ns ss)

no_events : (i : ℕ) → at i (flat_map (λ (es : List Event). es) []) ≡ stands [] i
no_events i = refl

module _ (configs : List Limits) (ts : List OneTranscript) (seats : List OneSeat) where
  -- a namespace that isn't there
  pub past : (given : List ℕ) → AreGiven given seats → length ts ≡ length given → length configs ≤ length ts → (n : ℕ) → length ts ≤ n → Agrees configs ts seats n
  past given all each few n over =
      let none : (k : ℕ) → count_by (is_seat n k) seats ≡ 0 =
      λ k. all n k ∙ ap (λ (b : Bool). if b then 1 else 0) (le-ltb k (slice_index given n) (omega (arith, get_or_past given n 0 (omega arith)))) in
      record {
        limits = λ there. absurd (omega (arith, there, few, over));
        merge =
            subst (λ (u : OneTranscript). IsMerge u.entries (lists_of n seats)) (sym (get_or_past ts n no_transcript over))
            (subst (λ (ls : List (List Event)). IsMerge [] ls) (sym (no_lists n seats none)) (record { rising = All-nil Rises; each = no_events }));
      }

-- also the transcript of a namespace that isn't there
pub lone_at : (ts : List OneTranscript) → All IsLone ts → (n : ℕ) → IsLone (transcript_at ts n)
lone_at ts all n =
    elim (cases_lt n (length ts)) [
      | inl within ↦ all n no_transcript within
      | inr past ↦ subst IsLone (sym (get_or_past ts n no_transcript past)) refl
    ]

-- a fault of what was compared, where it is handed on
module _ (Lay : List OneTranscript → List ℕ → Type 0) (configs : List Limits) (seats : List OneSeat) where
  unlocked : (ts : List OneTranscript) (given : List ℕ) (fault : CloseFault) → Lay ts given
      → IsCause configs ts given seats fault → IsUnlockedFault Lay configs seats fault
  unlocked ts given (Disagree n) lay cause = (ts, given, lay, cause)
  unlocked ts given SeatsMissing lay cause = (ts, given, lay, cause)
  unlocked ts given NoMemory lay cause = tt

  pub unlocked_fault : {T : Type 0} (configs' : List Limits) (seats' : List OneSeat) (ts ts' : List OneTranscript)
      (given given' : List ℕ) (fault : CloseFault) (r : Result T CloseFault)
      → configs' ≡ configs → seats' ≡ seats → ts' ≡ ts → given' ≡ given → Lay ts given → IsErrAnd r (λ x. x ≡ fault)
      → IsCause configs' ts' given' seats' fault → IfErr r (IsUnlockedFault Lay configs seats)
  unlocked_fault configs' seats' ts ts' given given' fault (Ok x) c s t n lay is cause = tt
  unlocked_fault configs' seats' ts ts' given given' fault (Err x) c s t n lay is cause =
      let here = subst (λ (cs : List Limits). IsCause cs ts' given' seats' fault) c cause in
      let sat = subst (λ (ss : List OneSeat). IsCause configs ts' given' ss fault) s here in
      let told = subst (λ (us : List OneTranscript). IsCause configs us given' seats fault) t sat in
      let all = subst (λ (ns : List ℕ). IsCause configs ts ns seats fault) n told in
      unlocked ts given x lay (subst (IsCause configs ts given seats) (sym is) all)

  -- some seats and some numbers, where it isn't said which lay behind the locks
  some_fault : (fault : CloseFault) → IsUnlockedFault Lay configs seats fault → IsClosedFault configs seats fault
  some_fault (Disagree n) (ts, given, lay, cause) = (ts, given, cause)
  some_fault SeatsMissing (ts, given, lay, cause) = (ts, given, cause)
  some_fault NoMemory is = ([], [], tt)

  pub closed_fault : {T : Type 0} (r : Result T CloseFault) → IfErr r (IsUnlockedFault Lay configs seats)
      → IfErr r (IsClosedFault configs seats)
  closed_fault (Ok x) is = tt
  closed_fault (Err e) is = some_fault e is

-- what was compared is what was given and what comes back
pub closed : (configs configs' : List Limits) (seats seats' : List OneSeat) (ts ts' : List OneTranscript) (given : List ℕ) → configs' ≡ configs → seats' ≡ seats → ts' ≡ ts
    → ((n : ℕ) → Agrees configs' ts' seats' n) → ((n : ℕ) → IsLone (transcript_at ts' n)) → AreGiven given seats' → IsClosed configs seats ts
closed configs configs' seats seats' ts ts' given c s t agree lone all = record {
  agrees = λ n. subst (λ (cs : List Limits). Agrees cs ts seats n) c (subst (λ (ss : List OneSeat). Agrees configs' ts ss n) s (subst (λ (us : List OneTranscript). Agrees configs' us seats' n) t (agree n)));
  alone = λ n. subst (λ (us : List OneTranscript). IsLone (transcript_at us n)) t (lone n);
  given = (given, subst (AreGiven given) s all);
}
