-- Laws of lists of counts, and of the stack of the vacant frames.

use Rattle.std.proofs.Common.{◌≡◌, ◌≢◌, ℕ, ◌+◌, ◌<◌, ◌≤◌, List, [], ◌∷◌, ◌++◌, length, sum, slice_index, slice_set, refl, arith, sym, subst, ap, length-set, get_or-set_same, get_or-set_other, length-append, replicate, suc, zero, inl, inr}
use Rattle.std.proofs.lemmas.List.{length-replicate, get_or-replicate}
use Rattle.std.proofs.lemmas.Bool.{cases_eq}
use Rattle.std.proofs.lemmas.Bool.Decides.{nat_tests}
use Rattle.std.proofs.lemmas.List.Sums.{sum_by-set, sum_by-cons}
use Rattle.pf_frame.specs.Counted.{positives, occurs, IsTable}
use Rattle.pf_frame.specs.Sound.{positives_zero, counted_within}

pub occurs_pushed : (q y : ℕ) (xs : List ℕ) → q ≡ y → occurs q (xs ++ y ∷ []) ≡ occurs q xs + 1
occurs_pushed q y [] e = grind (arith, nat_tests)
occurs_pushed q y (x ∷ xs) e = grind (arith, nat_tests, occurs_pushed q y xs e)

pub occurs_other : (q y : ℕ) (xs : List ℕ) → q ≢ y → occurs q (xs ++ y ∷ []) ≡ occurs q xs
occurs_other q y [] e = grind (arith, nat_tests)
occurs_other q y (x ∷ xs) e = grind (arith, nat_tests, occurs_other q y xs e)

pub positives_more : (cs : List ℕ) (i v : ℕ) → i < length cs → slice_index cs i ≡ 0 → 0 < v → positives (slice_set cs i v) ≡ positives cs + 1
positives_more [] i v h z s = omega arith
positives_more (c ∷ cs) zero v h z s = grind (arith, nat_tests)
positives_more (c ∷ cs) (suc i) v h z s = let short : i < length cs = omega arith in grind (arith, nat_tests, positives_more cs i v short z s)

pub positives_less : (cs : List ℕ) (i : ℕ) → 0 < slice_index cs i → positives (slice_set cs i 0) + 1 ≡ positives cs
positives_less [] i s = omega arith
positives_less (c ∷ cs) zero s = grind (arith, nat_tests)
positives_less (c ∷ cs) (suc i) s = grind (arith, nat_tests, positives_less cs i s)

pub positives_same : (cs : List ℕ) (i v : ℕ) → 0 < slice_index cs i → 0 < v → positives (slice_set cs i v) ≡ positives cs
positives_same [] i v s t = omega arith
positives_same (c ∷ cs) zero v s t = grind (arith, nat_tests)
positives_same (c ∷ cs) (suc i) v s t = grind (arith, nat_tests, positives_same cs i v s t)

pub sum_set : (cs : List ℕ) (i v : ℕ) → i < length cs → sum (slice_set cs i v) + slice_index cs i ≡ sum cs + v
sum_set cs i v h = sum_by-set (λ (x : ℕ). x) cs i v 0 h

-- the last number of the stack is a vacant frame's
pub top_within : (counts vacant rest : List ℕ) (nr frames capacity : ℕ) → vacant ≡ rest ++ nr ∷ [] → IsTable counts vacant frames capacity → nr < length counts
top_within counts vacant rest nr frames capacity e t = t.within nr (rw e (omega (arith, occurs_pushed nr nr rest refl)))

pub top_idle : (counts vacant rest : List ℕ) (nr frames capacity : ℕ) → vacant ≡ rest ++ nr ∷ [] → IsTable counts vacant frames capacity → slice_index counts nr ≡ 0
top_idle counts vacant rest nr frames capacity e t = t.idle nr (rw e (omega (arith, occurs_pushed nr nr rest refl)))

-- a number below the top is another
rest_other : (rest : List ℕ) (q nr : ℕ) → occurs nr (rest ++ nr ∷ []) ≤ 1 → 0 < occurs q rest → q ≢ nr
rest_other rest q nr once h e = let more : occurs nr (rest ++ nr ∷ []) ≡ occurs nr rest + 1 = occurs_pushed nr nr rest refl in let same : occurs q rest ≡ occurs nr rest = ap (λ (k : ℕ). occurs k rest) e in omega arith

table_takes_top : (counts rest : List ℕ) (nr frames capacity : ℕ) → IsTable counts (rest ++ nr ∷ []) frames capacity → IsTable (slice_set counts nr 1) rest frames capacity
table_takes_top counts rest nr frames capacity t =
    let less : nr < length counts = top_within counts (rest ++ nr ∷ []) rest nr frames capacity refl t in
    let none : slice_index counts nr ≡ 0 = top_idle counts (rest ++ nr ∷ []) rest nr frames capacity refl t in
    let size : length (slice_set counts nr 1) ≡ length counts = length-set counts nr 1 in
    let more : positives (slice_set counts nr 1) ≡ positives counts + 1 = positives_more counts nr 1 less none (omega arith) in
    let below : (q : ℕ) → 0 < occurs q rest → occurs q (rest ++ nr ∷ []) ≡ occurs q rest = λ q h. occurs_other q nr rest (rest_other rest q nr (t.once nr) h) in
    record {
      paged = omega (arith, t.paged);
      once = λ q. elim (cases_eq q nr) [ inl e ↦ omega (arith, occurs_pushed q nr rest e, t.once q) | inr ne ↦ omega (arith, occurs_other q nr rest ne, t.once q) ];
      within = λ q h. rw size (t.within q (omega (arith, below q h)));
      idle = λ q h. rw (get_or-set_other counts nr q 1 0 (rest_other rest q nr (t.once nr) h)) (t.idle q (omega (arith, below q h)));
      number = omega (arith, t.number, length-append rest (nr ∷ []));
      room = omega (arith, t.room);
      few = omega (arith, t.few);
    }

-- the top of the stack is taken
pub table_takes : (counts vacant rest : List ℕ) (nr frames capacity later : ℕ) → vacant ≡ rest ++ nr ∷ [] → later ≡ capacity → IsTable counts vacant frames capacity → IsTable (slice_set counts nr 1) rest frames later
table_takes counts vacant rest nr frames capacity later e same t = rw same (table_takes_top counts rest nr frames capacity (subst (λ (xs : List ℕ). IsTable counts xs frames capacity) e t))

table_releases_one : (counts vacant : List ℕ) (nr frames capacity : ℕ) → IsTable counts vacant frames capacity → nr < length counts → 0 < slice_index counts nr → IsTable (slice_set counts nr 0) (vacant ++ nr ∷ []) frames capacity
table_releases_one counts vacant nr frames capacity t less some =
    let size : length (slice_set counts nr 0) ≡ length counts = length-set counts nr 0 in
    let fewer : positives (slice_set counts nr 0) + 1 ≡ positives counts = positives_less counts nr some in
    let here : slice_index (slice_set counts nr 0) nr ≡ 0 = get_or-set_same counts nr 0 0 less in
    let absent : occurs nr vacant ≡ 0 = elim (cases_eq (occurs nr vacant) 0) [ inl e ↦ e | inr ne ↦ absurd (omega (arith, t.idle nr (omega arith))) ] in
    record {
      paged = omega (arith, t.paged);
      once = λ q. elim (cases_eq q nr) [ inl e ↦ let same : occurs q vacant ≡ occurs nr vacant = ap (λ (k : ℕ). occurs k vacant) e in omega (arith, occurs_pushed q nr vacant e) | inr ne ↦ omega (arith, occurs_other q nr vacant ne, t.once q) ];
      within = λ q h. elim (cases_eq q nr) [ inl e ↦ omega arith | inr ne ↦ rw size (t.within q (omega (arith, occurs_other q nr vacant ne))) ];
      idle = λ q h. elim (cases_eq q nr) [ inl e ↦ rw e here | inr ne ↦ rw (get_or-set_other counts nr q 0 0 ne) (t.idle q (omega (arith, occurs_other q nr vacant ne))) ];
      number = omega (arith, t.number, length-append vacant (nr ∷ []));
      room = omega (arith, t.room);
      few = omega (arith, t.few);
    }

-- a vacant frame's number goes onto the stack
pub table_releases_last : (counts vacant more : List ℕ) (nr v frames capacity later : ℕ) → v ≡ 0 → more ≡ vacant ++ nr ∷ [] → later ≡ capacity → IsTable counts vacant frames capacity → 0 < slice_index counts nr → IsTable (slice_set counts nr v) more frames later
table_releases_last counts vacant more nr v frames capacity later none pushed same t some = rw (none, pushed, same) (table_releases_one counts vacant nr frames capacity t (counted_within counts nr some) some)

-- the stack has room for the number of a live frame
pub table_room : (counts vacant : List ℕ) (nr frames capacity : ℕ) → IsTable counts vacant frames capacity → 0 < slice_index counts nr → length vacant < capacity
table_room counts vacant nr frames capacity t some = omega (arith, t.number, t.room, positives_less counts nr some)

-- another count above 0 leaves the stack as it is
pub table_counts : (counts vacant : List ℕ) (nr v frames capacity : ℕ) → IsTable counts vacant frames capacity → 0 < slice_index counts nr → 0 < v → IsTable (slice_set counts nr v) vacant frames capacity
table_counts counts vacant nr v frames capacity t some left =
    let size : length (slice_set counts nr v) ≡ length counts = length-set counts nr v in
    let same : positives (slice_set counts nr v) ≡ positives counts = positives_same counts nr v some left in
    let absent : (q : ℕ) → 0 < occurs q vacant → q ≢ nr = λ q h e. let idle : slice_index counts q ≡ 0 = t.idle q h in let at : slice_index counts q ≡ slice_index counts nr = ap (λ (k : ℕ). slice_index counts k) e in omega arith in
    record {
      paged = omega (arith, t.paged);
      once = t.once;
      within = λ q h. rw size (t.within q h);
      idle = λ q h. rw (get_or-set_other counts nr q v 0 (absent q h)) (t.idle q h);
      number = omega (arith, t.number);
      room = omega (arith, t.room);
      few = omega (arith, t.few);
    }

pub positives_none : (n : ℕ) → positives (replicate n 0) ≡ 0
positives_none zero = refl
positives_none (suc n) = positives_none n

pub sum_none : (n : ℕ) → sum (replicate n 0) ≡ 0
sum_none n = positives_zero (replicate n 0) (positives_none n)

idle_table_at : (vacant : List ℕ) (n capacity : ℕ) → length vacant ≡ n → ((q : ℕ) → occurs q vacant ≤ 1) → ((q : ℕ) → 0 < occurs q vacant → q < n) → n ≤ capacity → n ≤ 65536 → IsTable (replicate n 0) vacant n capacity
idle_table_at vacant n capacity number once within room few =
    let size : length (replicate {A = ℕ} n 0) ≡ n = length-replicate {A = ℕ} n 0 in
    record {
      paged = sym size;
      once = once;
      within = λ q h. rw size (within q h);
      idle = λ q h. get_or-replicate n q 0 0 (within q h);
      number = rw (size, positives_none n) (omega arith);
      room = omega arith;
      few = omega arith;
    }

-- frames with no slot, all on the stack
pub idle_table : (counts vacant : List ℕ) (n capacity : ℕ) → counts ≡ replicate n 0 → length vacant ≡ n → ((q : ℕ) → occurs q vacant ≤ 1) → ((q : ℕ) → 0 < occurs q vacant → q < n) → n ≤ capacity → n ≤ 65536 → IsTable counts vacant n capacity
idle_table counts vacant n capacity zeros number once within room few = rw zeros (idle_table_at vacant n capacity number once within room few)

-- the next number goes onto the stack
pub pushed_once : (vacant more : List ℕ) (n : ℕ) → more ≡ vacant ++ n ∷ [] → ((q : ℕ) → occurs q vacant ≤ 1) → ((q : ℕ) → 0 < occurs q vacant → q < n) → (q : ℕ) → occurs q more ≤ 1
pushed_once vacant more n e once within q = rw e (elim (cases_eq q n) [ inl same ↦ elim (cases_eq (occurs q vacant) 0) [ inl none ↦ omega (arith, occurs_pushed q n vacant same) | inr some ↦ absurd (omega (arith, within q (omega arith))) ] | inr other ↦ omega (arith, once q, occurs_other q n vacant other) ])

pub pushed_within : (vacant more : List ℕ) (n : ℕ) → more ≡ vacant ++ n ∷ [] → ((q : ℕ) → 0 < occurs q vacant → q < n) → (q : ℕ) → 0 < occurs q more → q < n + 1
pushed_within vacant more n e within q h = elim (cases_eq q n) [ inl same ↦ omega arith | inr other ↦ let still : 0 < occurs q (vacant ++ n ∷ []) = rw e at h in omega (arith, within q (omega (arith, occurs_other q n vacant other))) ]
