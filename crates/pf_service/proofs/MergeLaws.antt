-- A namespace's seats together.

use Rattle.std.proofs.Common.{◌≡◌, ℕ, ◌+◌, ◌<◌, ◌++◌, inl, inr, ◌∷◌, List, length, Bool, true, false, nat_eq, map, take, drop, get_or, slice_index_or, Some, refl, ap, sym, ◌∙◌, subst, arith, if◌then◌else◌, []}
use Rattle.std.specs.Prelude.{All, filter}
use Rattle.std.specs.List.{flat_map}
use Rattle.std.specs.Bool.{MatchBool, OnTrue, OnFalse}
use Rattle.std.proofs.lemmas.Bool.{cases_lt}
use Rattle.std.proofs.lemmas.Option.{slice_get_past, slice_get_cases}
use Rattle.std.proofs.lemmas.List.{get_or_past, append-nil, append_assoc, map-append, take_more, drop_more, take-append-drop, drop_at}
use Rattle.std.proofs.lemmas.List.Elements.{filter-append, All-head, All-drop}
use Rattle.std.proofs.lemmas.List.Concat.{flat_map-append}
use Rattle.pf_base.specs.declared.step.Step.{Step}
use Rattle.pf_base.specs.declared.step.Reply.{Reply}
use Rattle.pf_service.specs.declared.event.Event.{Event}
use Rattle.pf_service.specs.Merge.{at, event_of, stands, Rises, IsMerge}
use Rattle.pf_service.specs.Marks.{IsMarked}
use Rattle.pf_service.specs.Seats.{OneSeat, lists_of}

abbrev pub joined : List (List Event) → List Event
joined ls = flat_map (λ es. es) ls

pub joined-push : (ls : List (List Event)) (es : List Event) → joined (ls ++ es ∷ []) ≡ joined ls ++ es
joined-push ls es = flat_map-append (λ (vs : List Event). vs) ls (es ∷ []) ∙ ap (λ (vs : List Event). joined ls ++ vs) (append-nil es)

pub lists_of-append : (ns : ℕ) (xs ys : List OneSeat) → lists_of ns (xs ++ ys) ≡ lists_of ns xs ++ lists_of ns ys
lists_of-append ns xs ys =
    ap (map (λ (s : OneSeat). s.events)) (filter-append (λ (s : OneSeat). nat_eq s.ns ns) xs ys)
    ∙ map-append (λ (s : OneSeat). s.events) (filter (λ s. nat_eq s.ns ns) xs) (filter (λ s. nat_eq s.ns ns) ys)

pub lists_of-mine : (ns : ℕ) (s : OneSeat) (rest : List OneSeat) → nat_eq s.ns ns ≡ true → lists_of ns (s ∷ rest) ≡ s.events ∷ lists_of ns rest
lists_of-mine ns s rest is = ap (λ (b : Bool). map (λ (v : OneSeat). v.events) (if b then (s ∷ filter (λ v. nat_eq v.ns ns) rest) else filter (λ v. nat_eq v.ns ns) rest)) is

pub lists_of-other : (ns : ℕ) (s : OneSeat) (rest : List OneSeat) → nat_eq s.ns ns ≡ false → lists_of ns (s ∷ rest) ≡ lists_of ns rest
lists_of-other ns s rest is = ap (λ (b : Bool). map (λ (v : OneSeat). v.events) (if b then (s ∷ filter (λ v. nat_eq v.ns ns) rest) else filter (λ v. nat_eq v.ns ns) rest)) is

-- one seat on
pub more_mine : (ns : ℕ) (seats : List OneSeat) (i : ℕ) (s : OneSeat) → i < length seats → s ≡ get_or seats i s → nat_eq s.ns ns ≡ true
    → lists_of ns (take (i + 1) seats) ≡ lists_of ns (take i seats) ++ s.events ∷ []
more_mine ns seats i s within is mine =
    ap (lists_of ns) (take_more seats i s within ∙ ap (λ (v : OneSeat). take i seats ++ v ∷ []) (sym is))
    ∙ lists_of-append ns (take i seats) (s ∷ [])
    ∙ ap (λ (ls : List (List Event)). lists_of ns (take i seats) ++ ls) (lists_of-mine ns s [] mine)

pub more_other : (ns : ℕ) (seats : List OneSeat) (i : ℕ) (s : OneSeat) → i < length seats → s ≡ get_or seats i s → nat_eq s.ns ns ≡ false
    → lists_of ns (take (i + 1) seats) ≡ lists_of ns (take i seats)
more_other ns seats i s within is other =
    ap (lists_of ns) (take_more seats i s within ∙ ap (λ (v : OneSeat). take i seats ++ v ∷ []) (sym is))
    ∙ lists_of-append ns (take i seats) (s ∷ [])
    ∙ ap (λ (ls : List (List Event)). lists_of ns (take i seats) ++ ls) (lists_of-other ns s [] other)
    ∙ append-nil (lists_of ns (take i seats))

-- the lists before a seat, its own, and those after it
pub around : (ns : ℕ) (seats : List OneSeat) (i : ℕ) (s : OneSeat) → i < length seats → s ≡ get_or seats i s → nat_eq s.ns ns ≡ true
    → lists_of ns seats ≡ lists_of ns (take i seats) ++ s.events ∷ lists_of ns (drop (i + 1) seats)
around ns seats i s within is mine =
    ap (lists_of ns) (sym (take-append-drop i seats))
    ∙ lists_of-append ns (take i seats) (drop i seats)
    ∙ ap (λ (xs : List OneSeat). lists_of ns (take i seats) ++ lists_of ns xs) (drop_more seats i s within ∙ ap (λ (v : OneSeat). v ∷ drop (i + 1) seats) (sym is))
    ∙ ap (λ (ls : List (List Event)). lists_of ns (take i seats) ++ ls) (lists_of-mine ns s (drop (i + 1) seats) mine)

pub joined-around : (before : List (List Event)) (es : List Event) (after : List (List Event)) → joined (before ++ es ∷ after) ≡ joined before ++ es ++ joined after
joined-around before es after = flat_map-append (λ (vs : List Event). vs) before (es ∷ after) ∙ sym (append_assoc (joined before) es (joined after))

-- a merge, seen from one of its seats
pub seen_from : (t : List (Step × Reply)) (ls before : List (List Event)) (es : List Event) (after : List (List Event)) → ls ≡ before ++ es ∷ after → IsMerge t ls
    → Rises es × ((i : ℕ) → at i (joined before ++ es ++ joined after) ≡ stands t i)
seen_from t ls before es after is m =
    let all : All Rises (before ++ es ∷ after) = subst (All Rises) is m.rising in
    let rest : All Rises (es ∷ after) = subst (All Rises) (drop_at before (es ∷ after) (length before) refl) (All-drop Rises (length before) (before ++ es ∷ after) all) in
    (All-head Rises es after rest, λ i. subst (λ (vs : List Event). at i vs ≡ stands t i) (joined-around before es after) (subst (λ (vs : List (List Event)). at i (joined vs) ≡ stands t i) is (m.each i)))

pub all_done : (t : List (Step × Reply)) (marks : List Bool) (done : List Event) → length marks ≡ length t → IsMarked t marks done
    → ((i : ℕ) → i < length marks → slice_index_or marks i false ≡ true) → (i : ℕ) → at i done ≡ stands t i
all_done t marks done len marked all i =
    elim (cases_lt i (length marks)) [
      | inl within ↦ marked i ∙ ap (λ (b : Bool). if b then stands t i else []) (all i within)
      | inr past ↦
          marked i ∙ ap (λ (b : Bool). if b then stands t i else []) (get_or_past marks i false past)
          ∙ sym (ap (event_of i) (slice_get_past t i (omega arith)))
    ]

pub not_done : (t : List (Step × Reply)) (marks : List Bool) (done : List Event) (i : ℕ) → length marks ≡ length t → IsMarked t marks done
    → i < length marks → slice_index_or marks i false ≡ false → at i done ≡ stands t i → ⊥
not_done t marks done i len marked within un each =
    let none : at i done ≡ [] = marked i ∙ ap (λ (b : Bool). if b then stands t i else []) un in
    elim (slice_get_cases t i).1 [
      | inl w ↦
          let e : [] ≡ event_of i (Some w.0) = sym none ∙ each ∙ ap (event_of i) w.2 in
          absurd (cc)
      | inr w ↦ absurd (omega arith)
    ]

-- what the marks say in the end
pub answers : (t : List (Step × Reply)) (ls : List (List Event)) (marks : List Bool) (b : Bool) → length marks ≡ length t → IsMarked t marks (joined ls) → All Rises ls
    → OnTrue b ((i : ℕ) → i < length marks → slice_index_or marks i false ≡ true)
    → OnFalse b ((i : ℕ) × (i < length marks) × (slice_index_or marks i false ≡ false))
    → MatchBool b (IsMerge t ls) (IsMerge t ls → ⊥)
answers t ls marks true len marked rising all some = record { rising = rising; each = all_done t marks (joined ls) len marked all }
answers t ls marks false len marked rising all some = λ m. not_done t marks (joined ls) some.0 len marked some.1 some.2 (m.each some.0)
