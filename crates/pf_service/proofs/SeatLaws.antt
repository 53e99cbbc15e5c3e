-- One more seat and its number.

use Rattle.std.proofs.Common.{◌≡◌, ℕ, ◌+◌, ◌<◌, ◌≤◌, inl, inr, List, length, Bool, true, false, nat_eq, take, drop, get_or, slice_index_or, refl, ap, sym, ◌∙◌, subst, arith, if◌then◌else◌, eq-eqb}
use Rattle.std.specs.Prelude.{count_by}
use Rattle.std.specs.Bool.{MatchBool, OnTrue, OnFalse}
use Rattle.std.proofs.lemmas.Bool.{cases_lt, ne_eqb, lt-ltb, le-ltb, and_from, and_right, and_left}
use Rattle.std.proofs.lemmas.List.{get_or_past, take-append-drop}
use Rattle.std.proofs.lemmas.List.Sums.{count_by_more_yes, count_by_more_no, sum_by-append}
use Rattle.pf_service.specs.Marks.{IsCounted}
use Rattle.pf_service.specs.Seats.{OneSeat, is_seat, IsGiven}

pub yes : (ns : ℕ) (seats : List OneSeat) (i : ℕ) (s : OneSeat) → i < length seats → s ≡ get_or seats i s → s.ns ≡ ns
    → count_by (is_seat ns s.number) (take (i + 1) seats) ≡ count_by (is_seat ns s.number) (take i seats) + 1
yes ns seats i s within is mine =
    count_by_more_yes (is_seat ns s.number) seats i s within
    (subst (λ (v : OneSeat). is_seat ns s.number v ≡ true) is (and_from (nat_eq s.ns ns) (nat_eq s.number s.number) (eq-eqb s.ns ns mine) (eq-eqb s.number s.number refl)))

pub no : (ns k : ℕ) (seats : List OneSeat) (i : ℕ) (s : OneSeat) → i < length seats → s ≡ get_or seats i s → (s.number ≡ k → ⊥)
    → count_by (is_seat ns k) (take (i + 1) seats) ≡ count_by (is_seat ns k) (take i seats)
no ns k seats i s within is away =
    count_by_more_no (is_seat ns k) seats i s within
    (subst (λ (v : OneSeat). is_seat ns k v ≡ false) is (and_right (nat_eq s.ns ns) (nat_eq s.number k) (ne_eqb s.number k away)))

pub others : (ns k : ℕ) (seats : List OneSeat) (i : ℕ) (s : OneSeat) → i < length seats → s ≡ get_or seats i s → (s.ns ≡ ns → ⊥)
    → count_by (is_seat ns k) (take (i + 1) seats) ≡ count_by (is_seat ns k) (take i seats)
others ns k seats i s within is away =
    count_by_more_no (is_seat ns k) seats i s within
    (subst (λ (v : OneSeat). is_seat ns k v ≡ false) is (and_left (nat_eq s.ns ns) (nat_eq s.number k) (ne_eqb s.ns ns away)))

-- how many there are at least
pub at_least : (ns k : ℕ) (seats : List OneSeat) (j : ℕ) → count_by (is_seat ns k) (take j seats) ≤ count_by (is_seat ns k) seats
at_least ns k seats j =
    let whole : count_by (is_seat ns k) seats ≡ count_by (is_seat ns k) (take j seats) + count_by (is_seat ns k) (drop j seats) =
    ap (count_by (is_seat ns k)) (sym (take-append-drop j seats)) ∙ sum_by-append (λ s. if is_seat ns k s then 1 else 0) (take j seats) (drop j seats) in
    omega arith

-- a number that was seen before
pub refused_seen : (ns given : ℕ) (marks : List Bool) (seats : List OneSeat) (i : ℕ) (s : OneSeat) → i < length seats → s ≡ get_or seats i s → s.ns ≡ ns
    → length marks ≡ given → s.number < length marks → slice_index_or marks s.number false ≡ true → IsCounted ns marks (take i seats) → IsGiven ns given seats → ⊥
refused_seen ns given marks seats i s within is mine len in' was so all =
    let one : count_by (is_seat ns s.number) seats ≡ 1 = all s.number ∙ ap (λ (b : Bool). if b then 1 else 0) (lt-ltb s.number given (omega arith)) in
    let before : count_by (is_seat ns s.number) (take i seats) ≡ 1 = so s.number ∙ ap (λ (b : Bool). if b then 1 else 0) was in
    let more : count_by (is_seat ns s.number) (take (i + 1) seats) ≡ count_by (is_seat ns s.number) (take i seats) + 1 = yes ns seats i s within is mine in
    let le : count_by (is_seat ns s.number) (take (i + 1) seats) ≤ count_by (is_seat ns s.number) seats = at_least ns s.number seats (i + 1) in
    absurd (omega arith)

-- a number that wasn't given
pub refused_number : (ns given : ℕ) (seats : List OneSeat) (i : ℕ) (s : OneSeat) → i < length seats → s ≡ get_or seats i s → s.ns ≡ ns
    → given ≤ s.number → IsGiven ns given seats → ⊥
refused_number ns given seats i s within is mine past all =
    let none : count_by (is_seat ns s.number) seats ≡ 0 = all s.number ∙ ap (λ (b : Bool). if b then 1 else 0) (le-ltb s.number given past) in
    let more : count_by (is_seat ns s.number) (take (i + 1) seats) ≡ count_by (is_seat ns s.number) (take i seats) + 1 = yes ns seats i s within is mine in
    let le : count_by (is_seat ns s.number) (take (i + 1) seats) ≤ count_by (is_seat ns s.number) seats = at_least ns s.number seats (i + 1) in
    absurd (omega arith)

pub given_answers : (ns given : ℕ) (marks : List Bool) (seats : List OneSeat) (b : Bool) → length marks ≡ given → IsCounted ns marks seats
    → OnTrue b ((i : ℕ) → i < length marks → slice_index_or marks i false ≡ true)
    → OnFalse b ((i : ℕ) × (i < length marks) × (slice_index_or marks i false ≡ false))
    → MatchBool b (IsGiven ns given seats) (IsGiven ns given seats → ⊥)
given_answers ns given marks seats true len so all some = λ k.
    elim (cases_lt k given) [
      | inl within ↦ so k ∙ ap (λ (b : Bool). if b then 1 else 0) (all k (omega arith) ∙ sym (lt-ltb k given within))
      | inr past ↦ so k ∙ ap (λ (b : Bool). if b then 1 else 0) (get_or_past marks k false (omega arith) ∙ sym (le-ltb k given past))
    ]
given_answers ns given marks seats false len so all some = λ h.
    let k : ℕ = some.0 in
    let un : count_by (is_seat ns k) seats ≡ 0 = so k ∙ ap (λ (b : Bool). if b then 1 else 0) some.2 in
    let one : count_by (is_seat ns k) seats ≡ 1 = h k ∙ ap (λ (b : Bool). if b then 1 else 0) (lt-ltb k given (subst (λ (n : ℕ). k < n) len some.1)) in
    absurd (omega arith)
