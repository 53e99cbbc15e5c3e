-- A hub gives numbers only to those that it admits: what its house is by name.

use Rattle.std.proofs.Common.{◌≡◌, ℕ, zero, suc, ◌+◌, ◌-◌, ◌<◌, ◌≤◌, true, List, [], ◌∷◌, ◌++◌, length}
use Rattle.std.proofs.Common.{refl, ap, sym, ◌∙◌}
use Rattle.std.proofs.Common.{subst, set, arith, inl, inr}
use Rattle.std.specs.Prelude.{Option, Some, None, nat_lt, if◌then◌else◌}
use Rattle.std.proofs.lemmas.Bool.{lt-ltb}
use Rattle.pf_base.specs.Limits.{Limits}
use Rattle.pf_base.specs.declared.admission.AdmitFault.{AdmitFault}
use Rattle.pf_base.specs.declared.admission.AdmitFault.TheVariants as admission
use Rattle.pf_base.specs.declared.admission.RetireFault.{RetireFault}
use Rattle.pf_base.specs.declared.admission.RetireFault.TheVariants.{NoSuchNamespace}
use Rattle.pf_base.specs.declared.admission.EventAnswer.{EventAnswer}
use Rattle.pf_base.specs.declared.admission.EventAnswer.TheVariants as told
use Rattle.pf_base.specs.declared.step.Answer.TheVariants.{Done, NoMemory}
use Rattle.pf_base.specs.declared.step.Step.{Step}
use Rattle.pf_machine.specs.Houses.{House, Guest, Turn, Stepping, Admitting, Retiring, Happens, MayWant}
use Rattle.pf_machine.specs.Houses.{newcomer}
use Rattle.pf_machine.specs.Houses.{step_turn, admit_turn, retire_turn, admit_fault, retire_fault, slack, given}
use Rattle.pf_machine.specs.Houses.{number_living, reserved}
use Rattle.pf_machine.specs.Machine.{step_of}
use Rattle.pf_machine.specs.Numbered.{at, put_at, clear_at, sum_of, weight}
use Rattle.pf_play.specs.Houses.{keep_place}
use Rattle.pf_play.specs.Numbers.{IsSpread, IsNamed, Follows, numbers_from}

-- as many places by name as names, and no more numbers
pub spread_names : (i : ℕ) (ns : List (Option ℕ)) (gs hs : List (Option Guest)) → IsSpread i ns gs hs →
    (length hs ≡ length ns) × (length gs ≤ length hs)
spread_names i [] [] [] is = (refl, omega arith)
spread_names i [] [] (h ∷ hs) is = absurd is
spread_names i [] (g ∷ gs) hs is = absurd is
spread_names i (None ∷ ns) gs [] is = absurd is
spread_names i (None ∷ ns) gs (h ∷ hs) is =
    let rest = spread_names i ns gs hs is.1 in (ap suc rest.0, omega (arith, rest.1))
spread_names i (Some m ∷ ns) [] hs is = absurd is
spread_names i (Some m ∷ ns) (g ∷ gs) [] is = absurd is
spread_names i (Some m ∷ ns) (g ∷ gs) (h ∷ hs) is =
    let rest = spread_names (i + 1) ns gs hs is.2 in (ap suc rest.0, omega (arith, rest.1))

-- sums are the same
pub spread_sum : (f : Guest → ℕ) (i : ℕ) (ns : List (Option ℕ)) (gs hs : List (Option Guest)) → IsSpread i ns gs hs →
    sum_of f hs ≡ sum_of f gs
spread_sum f i [] [] [] is = refl
spread_sum f i [] [] (h ∷ hs) is = absurd is
spread_sum f i [] (g ∷ gs) hs is = absurd is
spread_sum f i (None ∷ ns) gs [] is = absurd is
spread_sum f i (None ∷ ns) gs (h ∷ hs) is =
    let first : weight f h ≡ 0 = ap (weight f) is.0 in
    let rest = spread_sum f i ns gs hs is.1 in
    omega (arith, first, rest)
spread_sum f i (Some m ∷ ns) [] hs is = absurd is
spread_sum f i (Some m ∷ ns) (g ∷ gs) [] is = absurd is
spread_sum f i (Some m ∷ ns) (g ∷ gs) (h ∷ hs) is =
    let rest = spread_sum f (i + 1) ns gs hs is.2 in λ j. weight f (is.1 j) + rest j

-- nobody stands at a name without a number
pub spread_none : (i : ℕ) (ns : List (Option ℕ)) (gs hs : List (Option Guest)) (n : ℕ) → IsSpread i ns gs hs →
    at ns n ≡ None → at hs n ≡ None
spread_none i [] [] [] n is none = refl
spread_none i [] [] (h ∷ hs) n is none = absurd is
spread_none i [] (g ∷ gs) hs n is none = absurd is
spread_none i (None ∷ ns) gs [] n is none = absurd is
spread_none i (None ∷ ns) gs (h ∷ hs) zero is none = is.0
spread_none i (None ∷ ns) gs (h ∷ hs) (suc n) is none = spread_none i ns gs hs n is.1 none
spread_none i (Some m ∷ ns) [] hs n is none = absurd is
spread_none i (Some m ∷ ns) (g ∷ gs) [] n is none = absurd is
spread_none i (Some m ∷ ns) (g ∷ gs) (h ∷ hs) zero is none = absurd (cc)
spread_none i (Some m ∷ ns) (g ∷ gs) (h ∷ hs) (suc n) is none = spread_none (i + 1) ns gs hs n is.2 none

-- and at one with a number whoever stands at the number, whatever is put there
pub record Found (i : ℕ) (ns : List (Option ℕ)) (gs hs : List (Option Guest)) (n m : ℕ) : Type 0 where
  pub place : ℕ
  pub number : m ≡ i + place
  pub same : at hs n ≡ at gs place
  pub put : (x : Option Guest) → IsSpread i ns (set gs place x) (set hs n x)

pub spread_some : (i : ℕ) (ns : List (Option ℕ)) (gs hs : List (Option Guest)) (n m : ℕ) → IsSpread i ns gs hs →
    at ns n ≡ Some m → Found i ns gs hs n m
spread_some i [] [] [] n m is some = absurd (cc)
spread_some i [] [] (h ∷ hs) n m is some = absurd is
spread_some i [] (g ∷ gs) hs n m is some = absurd is
spread_some i (None ∷ ns) gs [] n m is some = absurd is
spread_some i (None ∷ ns) gs (h ∷ hs) zero m is some = absurd (cc)
spread_some i (None ∷ ns) gs (h ∷ hs) (suc n) m is some =
    let rest = spread_some i ns gs hs n m is.1 some in
    record { place = rest.place; number = rest.number; same = rest.same; put = λ x. (is.0, rest.put x) }
spread_some i (Some k ∷ ns) [] hs n m is some = absurd is
spread_some i (Some k ∷ ns) (g ∷ gs) [] n m is some = absurd is
spread_some i (Some k ∷ ns) (g ∷ gs) (h ∷ hs) zero m is some =
    let same : k ≡ m = cc in
    record {
      place = 0;
      number = omega (arith, same, is.0);
      same = is.1;
      put = λ x. (is.0, refl, is.2);
    }
spread_some i (Some k ∷ ns) (g ∷ gs) (h ∷ hs) (suc n) m is some =
    let rest = spread_some (i + 1) ns gs hs n m is.2 some in
    record {
      place = suc rest.place;
      number = omega (arith, rest.number);
      same = rest.same;
      put = λ x. (is.0, is.1, rest.put x);
    }

-- one name more, with the next number or with none
pub spread_push : (i : ℕ) (ns : List (Option ℕ)) (gs hs : List (Option Guest)) (m : ℕ) (g : Option Guest) →
    IsSpread i ns gs hs → m ≡ i + length gs → IsSpread i (ns ++ Some m ∷ []) (gs ++ g ∷ []) (hs ++ g ∷ [])
spread_push i [] [] [] m g is next = (omega (arith, next), refl, tt)
spread_push i [] [] (h ∷ hs) m g is next = absurd is
spread_push i [] (x ∷ gs) hs m g is next = absurd is
spread_push i (None ∷ ns) gs [] m g is next = absurd is
spread_push i (None ∷ ns) gs (h ∷ hs) m g is next = (is.0, spread_push i ns gs hs m g is.1 next)
spread_push i (Some k ∷ ns) [] hs m g is next = absurd is
spread_push i (Some k ∷ ns) (x ∷ gs) [] m g is next = absurd is
spread_push i (Some k ∷ ns) (x ∷ gs) (h ∷ hs) m g is next =
    (is.0, is.1, spread_push (i + 1) ns gs hs m g is.2 (omega (arith, next)))

pub spread_skip : (i : ℕ) (ns : List (Option ℕ)) (gs hs : List (Option Guest)) →
    IsSpread i ns gs hs → IsSpread i (ns ++ None ∷ []) gs (hs ++ None ∷ [])
spread_skip i [] [] [] is = (refl, tt)
spread_skip i [] [] (h ∷ hs) is = absurd is
spread_skip i [] (x ∷ gs) hs is = absurd is
spread_skip i (None ∷ ns) gs [] is = absurd is
spread_skip i (None ∷ ns) gs (h ∷ hs) is = (is.0, spread_skip i ns gs hs is.1)
spread_skip i (Some k ∷ ns) [] hs is = absurd is
spread_skip i (Some k ∷ ns) (x ∷ gs) [] is = absurd is
spread_skip i (Some k ∷ ns) (x ∷ gs) (h ∷ hs) is = (is.0, is.1, spread_skip (i + 1) ns gs hs is.2)

-- those who are there from the start have the first numbers
pub spread_first : (i : ℕ) (gs : List (Option Guest)) → IsSpread i (numbers_from i (length gs)) gs gs
spread_first i [] = tt
spread_first i (g ∷ gs) = (refl, refl, spread_first (i + 1) gs)

-- Houses

module _ (ns : List (Option ℕ)) (hub named : House) (is : IsNamed ns hub named) where
  living : number_living named ≡ number_living hub
  living = spread_sum (λ g. 1) 0 ns hub.guests named.guests is.guests

  reserves : reserved named ≡ reserved hub
  reserves = spread_sum (λ g. g.limits.reserve) 0 ns hub.guests named.guests is.guests

  slacks : slack named ≡ slack hub
  slacks = λ i. is.frames i - reserves i

  -- few names have few numbers, so that nobody is refused for these
  pub faults : (reserve : ℕ) → length ns < 1024 → admit_fault named reserve ≡ admit_fault hub reserve
  faults reserve few =
      let names = spread_names 0 ns hub.guests named.guests is.guests in
      let one : nat_lt (given named) 1024 ≡ true = lt-ltb (given named) 1024 (omega (arith, names.0, few)) in
      let other : nat_lt (given hub) 1024 ≡ true =
      lt-ltb (given hub) 1024 (omega (arith, names.0, names.1, few)) in
      λ i. if nat_lt (living i) 64
      then (if (one ∙ sym other) i
      then (if nat_lt (slacks i) reserve then Some (admission.NoRoom (slacks i)) else None)
      else Some admission.TooManyNamespaces)
      else Some admission.TooManyNamespaces

  -- A name with a number
  module _ (n m : ℕ) (has : at ns n ≡ Some m) where
    found : Found 0 ns hub.guests named.guests n m
    found = spread_some 0 ns hub.guests named.guests n m is.guests has

    pub same : at named.guests n ≡ at hub.guests m
    same = found.same ∙ ap (at hub.guests) (sym (omega (arith, found.number)))

    put : (x : Option Guest) → IsSpread 0 ns (set hub.guests m x) (set named.guests n x)
    put x = subst (λ k. IsSpread 0 ns (set hub.guests k x) (set named.guests n x)) (sym (omega (arith, found.number))) (found.put x)

    pub put_named : (x : Option Guest) →
        IsNamed ns (record hub { guests = set hub.guests m x }) (record named { guests = set named.guests n x })
    put_named x = record { frames = is.frames; guests = put x }

-- What happens by number happens by name

-- nobody's place is kept for an answer to a step or to a retirement
kept_as : (h : House) (a b : EventAnswer) → a ≡ b → keep_place h b ≡ h → h ≡ keep_place h a
kept_as h a b same kept = sym (ap (keep_place h) same ∙ kept)

module _ (ns : List (Option ℕ)) (hub named : House) (is : IsNamed ns hub named) (n : ℕ) where
  pub step_gone : (s : Step) → at ns n ≡ None → Follows ns hub named (Stepping n s) told.Gone
  step_gone s has =
      let none : at named.guests n ≡ None = spread_none 0 ns hub.guests named.guests n is.guests has in
      (named, (named, record { turn = inl (ap (step_turn named n s) (sym none)) }, refl), is)

  pub retire_gone : at ns n ≡ None → Follows ns hub named (Retiring n) (told.NotRetired NoSuchNamespace)
  retire_gone has =
      let none : at named.guests n ≡ None = spread_none 0 ns hub.guests named.guests n is.guests has in
      (named, (named, record { turn = inl (ap (λ o. retire_turn named n (retire_fault o)) (sym none)) }, refl), is)

  module _ (m : ℕ) (has : at ns n ≡ Some m) (hub' : House) (a : EventAnswer) where
    stepped : (s : Step) (o : Option Guest) → at hub.guests m ≡ o →
        ◌≡◌ {A = Turn} (record { house = hub'; answer = a }) (step_turn hub m s o) →
        Follows ns hub' named (Stepping n s) a
    stepped s None there e =
        let answer : a ≡ told.Gone = ap (λ (t : Turn). t.answer) e in
        let house : hub' ≡ hub = ap (λ (t : Turn). t.house) e in
        let none : at named.guests n ≡ None = same ns hub named is n m has ∙ there in
        let turn : ◌≡◌ {A = Turn} (record { house = named; answer = a }) (step_turn named n s (at named.guests n)) =
        (λ i. record { house = named; answer = answer i }) ∙ ap (step_turn named n s) (sym none) in (
          named,
          (named, record { turn = inl turn }, kept_as named a told.Gone answer refl),
          subst (λ h. IsNamed ns h named) (sym house) is,
        )
    stepped s (Some g) there e =
        let made = step_of g.limits g.state s in
        let after : Guest = record { limits = g.limits; state = made.state } in
        let answer : a ≡ told.Answer (Done made.reply) = ap (λ (t : Turn). t.answer) e in
        let house : hub' ≡ record hub { guests = put_at hub.guests m after } = ap (λ (t : Turn). t.house) e in
        let some : at named.guests n ≡ Some g = same ns hub named is n m has ∙ there in
        let new : House = record named { guests = put_at named.guests n after } in
        let turn : ◌≡◌ {A = Turn} (record { house = new; answer = a }) (step_turn named n s (at named.guests n)) =
        (λ i. record { house = new; answer = answer i }) ∙ ap (step_turn named n s) (sym some) in (
          new,
          (new, record { turn = inl turn }, kept_as new a (told.Answer (Done made.reply)) answer refl),
          subst (λ h. IsNamed ns h new) (sym house) (put_named ns hub named is n m has (Some after)),
        )

    pub step_follows : (s : Step) → Happens hub (Stepping m s) a hub' → Follows ns hub' named (Stepping n s) a
    step_follows s happens = elim happens.turn [
      | inl e ↦ stepped s (at hub.guests m) refl e
      | inr wants ↦ (
        named,
        (
          named,
          record {
            turn = inr (
              (wants.0.0, subst (λ o. MayWant o s) (sym (same ns hub named is n m has)) wants.0.1),
              refl,
            );
          },
          kept_as named a (told.Answer NoMemory) wants.0.0 refl,
        ),
        subst (λ h. IsNamed ns h named) (sym wants.1) is,
      )
    ]

    retired : (fault : Option RetireFault) → retire_fault (at hub.guests m) ≡ fault →
        ◌≡◌ {A = Turn} (record { house = hub'; answer = a }) (retire_turn hub m fault) →
        Follows ns hub' named (Retiring n) a
    retired (Some fault) there e =
        let answer : a ≡ told.NotRetired fault = ap (λ (t : Turn). t.answer) e in
        let house : hub' ≡ hub = ap (λ (t : Turn). t.house) e in
        let stays : retire_fault (at named.guests n) ≡ Some fault =
        ap retire_fault (same ns hub named is n m has) ∙ there in
        let turn : ◌≡◌ {A = Turn} (record { house = named; answer = a })
        (retire_turn named n (retire_fault (at named.guests n))) =
        (λ i. record { house = named; answer = answer i }) ∙ ap (retire_turn named n) (sym stays) in (
          named,
          (named, record { turn = inl turn }, kept_as named a (told.NotRetired fault) answer refl),
          subst (λ h. IsNamed ns h named) (sym house) is,
        )
    retired None there e =
        let answer : a ≡ told.Retired = ap (λ (t : Turn). t.answer) e in
        let house : hub' ≡ record hub { guests = clear_at hub.guests m } = ap (λ (t : Turn). t.house) e in
        let goes : retire_fault (at named.guests n) ≡ None = ap retire_fault (same ns hub named is n m has) ∙ there in
        let new : House = record named { guests = clear_at named.guests n } in
        let turn : ◌≡◌ {A = Turn} (record { house = new; answer = a })
        (retire_turn named n (retire_fault (at named.guests n))) =
        (λ i. record { house = new; answer = answer i }) ∙ ap (retire_turn named n) (sym goes) in (
          new,
          (new, record { turn = inl turn }, kept_as new a told.Retired answer refl),
          subst (λ h. IsNamed ns h new) (sym house) (put_named ns hub named is n m has None),
        )

    pub retire_follows : Happens hub (Retiring m) a hub' → Follows ns hub' named (Retiring n) a
    retire_follows happens = elim happens.turn [
      | inl e ↦ retired (retire_fault (at hub.guests m)) refl e
      | inr wants ↦ absurd wants.0
    ]

module _ (ns : List (Option ℕ)) (hub named hub' : House) (is : IsNamed ns hub named) (limits : Limits)
    (few : length ns < 1024) where
  -- who is admitted has the next number, and by name the next place
  pub admit_follows : (m : ℕ) → Happens hub (Admitting limits) (told.Admitted m) hub' →
      Follows (ns ++ Some m ∷ []) hub' named (Admitting limits) (told.Admitted (length ns))
  admit_follows m happens = elim happens.turn [
    | inl e ↦ by (admit_fault hub limits.reserve) refl e
    | inr wants ↦ absurd (let no : ◌≡◌ {A = EventAnswer} (told.Admitted m) (told.NotAdmitted admission.NoMemory) = wants.0.0 in cc)
  ]
    where
      by : (fault : Option AdmitFault) → admit_fault hub limits.reserve ≡ fault →
          ◌≡◌ {A = Turn} (record { house = hub'; answer = told.Admitted m }) (admit_turn hub limits fault) →
          Follows (ns ++ Some m ∷ []) hub' named (Admitting limits) (told.Admitted (length ns))
      by (Some fault) there e =
          absurd (let no : ◌≡◌ {A = EventAnswer} (told.Admitted m) (told.NotAdmitted fault) = ap (λ (t : Turn). t.answer) e in cc)
      by None there e =
          let answer : ◌≡◌ {A = EventAnswer} (told.Admitted m) (told.Admitted (length hub.guests)) = ap (λ (t : Turn). t.answer) e in
          let number : m ≡ length hub.guests = cc in
          let house : hub' ≡ record hub { guests = hub.guests ++ Some (newcomer limits) ∷ [] } = ap (λ (t : Turn). t.house) e in
          let new : House = record named { guests = named.guests ++ Some (newcomer limits) ∷ [] } in
          let names = spread_names 0 ns hub.guests named.guests is.guests in
          let comes : admit_fault named limits.reserve ≡ None = faults ns hub named is limits.reserve few ∙ there in
          let turn : ◌≡◌ {A = Turn} (record { house = new; answer = told.Admitted (length ns) })
          (admit_turn named limits (admit_fault named limits.reserve)) =
          (λ i. record { house = new; answer = told.Admitted (sym names.0 i) }) ∙ ap (admit_turn named limits) (sym comes) in (
            new,
            (new, record { turn = inl turn }, refl),
            subst (λ h. IsNamed (ns ++ Some m ∷ []) h new) (sym house)
                (record {
                  frames = is.frames;
                  guests = spread_push 0 ns hub.guests named.guests m (Some (newcomer limits)) is.guests (omega (arith, number));
                }),
          )

  -- who isn't has no number
  pub refuse_follows : (fault : AdmitFault) → Happens hub (Admitting limits) (told.NotAdmitted fault) hub' →
      Follows (ns ++ None ∷ []) hub' named (Admitting limits) (told.NotAdmitted fault)
  refuse_follows fault happens = elim happens.turn [
    | inl e ↦ by (admit_fault hub limits.reserve) refl e
    | inr wants ↦
        let comes : admit_fault named limits.reserve ≡ None = faults ns hub named is limits.reserve few ∙ wants.0.1 in
        stays wants.1 (record { turn = inr ((wants.0.0, comes), refl) })
  ]
    where
      stays : hub' ≡ hub → Happens named (Admitting limits) (told.NotAdmitted fault) named →
          Follows (ns ++ None ∷ []) hub' named (Admitting limits) (told.NotAdmitted fault)
      stays house happens =
          let new : House = record named { guests = named.guests ++ None ∷ [] } in (
            new,
            (named, happens, refl),
            subst (λ h. IsNamed (ns ++ None ∷ []) h new) (sym house)
                (record { frames = is.frames; guests = spread_skip 0 ns hub.guests named.guests is.guests }),
          )

      by : (first : Option AdmitFault) → admit_fault hub limits.reserve ≡ first →
          ◌≡◌ {A = Turn} (record { house = hub'; answer = told.NotAdmitted fault }) (admit_turn hub limits first) →
          Follows (ns ++ None ∷ []) hub' named (Admitting limits) (told.NotAdmitted fault)
      by None there e =
          absurd (let no : ◌≡◌ {A = EventAnswer} (told.NotAdmitted fault) (told.Admitted (length hub.guests)) = ap (λ (t : Turn). t.answer) e in cc)
      by (Some first) there e =
          let answer : ◌≡◌ {A = EventAnswer} (told.NotAdmitted fault) (told.NotAdmitted first) = ap (λ (t : Turn). t.answer) e in
          let house : hub' ≡ hub = ap (λ (t : Turn). t.house) e in
          let refused : admit_fault named limits.reserve ≡ Some first = faults ns hub named is limits.reserve few ∙ there in
          let turn : ◌≡◌ {A = Turn} (record { house = named; answer = told.NotAdmitted fault })
          (admit_turn named limits (admit_fault named limits.reserve)) =
          (λ i. record { house = named; answer = answer i }) ∙ ap (admit_turn named limits) (sym refused) in
          stays house (record { turn = inl turn })

-- one number more
pub numbers_more : (i k : ℕ) → numbers_from i (k + 1) ≡ numbers_from i k ++ Some (i + k) ∷ []
numbers_more i zero = let here : i ≡ i + 0 = omega arith in ap (λ n. Some n ∷ []) here
numbers_more i (suc k) =
    let longer : suc k + 1 ≡ suc (k + 1) = omega arith in
    let next : i + 1 + k ≡ i + suc k = omega arith in
    ap (numbers_from i) longer
    ∙ ap (λ ns. Some i ∷ ns) (numbers_more (i + 1) k ∙ ap (λ n. numbers_from (i + 1) k ++ Some n ∷ []) next)
