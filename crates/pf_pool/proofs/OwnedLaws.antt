-- Laws of the lists of owners and counts.

use Rattle.std.proofs.Common.{◌≡◌, ◌≢◌, ℕ, zero, suc, ◌+◌, ◌-◌, ◌<◌, ◌≤◌, Bool, true, false, List, [], ◌∷◌, length, sum, slice_index, slice_index_or, slice_set, ◌==◌, if◌then◌else◌, refl, arith, sym, subst, ap, ◌∙◌, inl, inr, replicate, length-set, get_or-set_same, get_or-set_other}
use Rattle.std.proofs.lemmas.Bool.{cases_eq}
use Rattle.std.proofs.lemmas.Bool.Decides.{nat_tests}
use Rattle.std.proofs.lemmas.List.{set-get_or, length-replicate}
use Rattle.std.proofs.lemmas.List.Sums.{sum_by-cons}
use Rattle.pf_frame.specs.Bytes.{filled}
use Rattle.pf_frame.specs.Counted.{positives, live_by}
use Rattle.pf_frame.proofs.CountedLaws.{positives_more, positives_less, positives_same, positives_none, sum_none, sum_set}
use Rattle.pf_frame.specs.Sound.{positives_zero, counted_within}
use Rattle.pf_frame.specs.Live.{Live, Takes, Shares, Releases, Fills, IsIdle, nobody}
use Rattle.pf_frame.proofs.LiveLaws.{is_filled, takes_as, shares_as, releases_as, none_at}
use Rattle.pf_pool.specs.Owned.{mine, IsPool, live_of, others_of, rest_of}
use Rattle.pf_pool.specs.PoolSound.{length-mine}

pub mine_at : (ns : ℕ) (owners counts : List ℕ) (q : ℕ) → length owners ≡ length counts → slice_index (mine ns owners counts) q ≡ (if slice_index owners q == ns then slice_index counts q else 0)
mine_at ns [] [] q e = grind (arith, nat_tests)
mine_at ns [] (c ∷ counts) q e = absurd (omega arith)
mine_at ns (o ∷ owners) [] q e = absurd (omega arith)
mine_at ns (o ∷ owners) (c ∷ counts) zero e = refl
mine_at ns (o ∷ owners) (c ∷ counts) (suc q) e = mine_at ns owners counts q (omega arith)

own_head : (ns c : ℕ) → (if ns == ns then c else 0) ≡ c
own_head ns c = grind (arith, nat_tests)

other_head : (m ns c : ℕ) → m ≢ ns → (if ns == m then c else 0) ≡ 0
other_head m ns c ne = grind (arith, nat_tests)

pub mine-set_own : (ns : ℕ) (owners counts : List ℕ) (q c : ℕ) → mine ns (slice_set owners q ns) (slice_set counts q c) ≡ slice_set (mine ns owners counts) q c
mine-set_own ns [] counts q c = refl
mine-set_own ns (o ∷ owners) [] zero c = refl
mine-set_own ns (o ∷ owners) [] (suc q) c = refl
mine-set_own ns (o ∷ owners) (d ∷ counts) zero c = ap (λ (n : ℕ). n ∷ mine ns owners counts) (own_head ns c)
mine-set_own ns (o ∷ owners) (d ∷ counts) (suc q) c = ap (λ (xs : List ℕ). (if o == ns then d else 0) ∷ xs) (mine-set_own ns owners counts q c)

pub mine-set_other : (m ns : ℕ) (owners counts : List ℕ) (q c : ℕ) → m ≢ ns → slice_index (mine m owners counts) q ≡ 0 → mine m (slice_set owners q ns) (slice_set counts q c) ≡ mine m owners counts
mine-set_other m ns [] counts q c ne none = refl
mine-set_other m ns (o ∷ owners) [] zero c ne none = refl
mine-set_other m ns (o ∷ owners) [] (suc q) c ne none = refl
mine-set_other m ns (o ∷ owners) (d ∷ counts) zero c ne none = ap (λ (n : ℕ). n ∷ mine m owners counts) (other_head m ns c ne ∙ sym none)
mine-set_other m ns (o ∷ owners) (d ∷ counts) (suc q) c ne none = ap (λ (xs : List ℕ). (if o == m then d else 0) ∷ xs) (mine-set_other m ns owners counts q c ne none)

-- a frame that ns counts is its own
pub owner_is : (ns : ℕ) (owners counts : List ℕ) (q : ℕ) → length owners ≡ length counts → 0 < slice_index (mine ns owners counts) q → slice_index owners q ≡ ns
owner_is ns owners counts q e some =
    let at : slice_index (mine ns owners counts) q ≡ (if slice_index owners q == ns then slice_index counts q else 0) = mine_at ns owners counts q e in
    elim (cases_eq (slice_index owners q) ns) [ inl same ↦ same | inr ne ↦ absurd (let none : (if slice_index owners q == ns then slice_index counts q else 0) ≡ 0 = other_head ns (slice_index owners q) (slice_index counts q) (λ f. ne (sym f)) in omega arith) ]

pub count_is : (ns : ℕ) (owners counts : List ℕ) (q : ℕ) → length owners ≡ length counts → slice_index owners q ≡ ns → slice_index (mine ns owners counts) q ≡ slice_index counts q
count_is ns owners counts q e own = mine_at ns owners counts q e ∙ subst (λ (m : ℕ). (if slice_index owners q == m then slice_index counts q else 0) ≡ slice_index counts q) own (own_head (slice_index owners q) (slice_index counts q))

-- a frame that is not live is nobody's
pub idle_is : (m : ℕ) (owners counts : List ℕ) (q : ℕ) → slice_index counts q ≡ 0 → slice_index (mine m owners counts) q ≡ 0
idle_is m [] counts q none = refl
idle_is m (o ∷ owners) [] q none = refl
idle_is m (o ∷ owners) (c ∷ counts) zero none = grind (arith, nat_tests)
idle_is m (o ∷ owners) (c ∷ counts) (suc q) none = idle_is m owners counts q none

-- a frame of ns is no other's
pub other_is : (m ns : ℕ) (owners counts : List ℕ) (q : ℕ) → length owners ≡ length counts → m ≢ ns → slice_index owners q ≡ ns → slice_index (mine m owners counts) q ≡ 0
other_is m ns owners counts q e ne own = mine_at m owners counts q e ∙ other_head m (slice_index owners q) (slice_index counts q) (λ f. ne (f ∙ own))

-- the same where the owner stays
pub mine-count_own : (ns : ℕ) (owners counts : List ℕ) (q c : ℕ) → slice_index owners q ≡ ns → mine ns owners (slice_set counts q c) ≡ slice_set (mine ns owners counts) q c
mine-count_own ns owners counts q c own =
    let stays : slice_set owners q ns ≡ owners = subst (λ (m : ℕ). slice_set owners q m ≡ owners) own (set-get_or owners q 0) in
    subst (λ (os : List ℕ). mine ns os (slice_set counts q c) ≡ slice_set (mine ns owners counts) q c) stays (mine-set_own ns owners counts q c)

pub mine-count_other : (m ns : ℕ) (owners counts : List ℕ) (q c : ℕ) → m ≢ ns → slice_index owners q ≡ ns → slice_index (mine m owners counts) q ≡ 0 → mine m owners (slice_set counts q c) ≡ mine m owners counts
mine-count_other m ns owners counts q c ne own none =
    let stays : slice_set owners q ns ≡ owners = subst (λ (k : ℕ). slice_set owners q k ≡ owners) own (set-get_or owners q 0) in
    subst (λ (os : List ℕ). mine m os (slice_set counts q c) ≡ mine m owners counts) stays (mine-set_other m ns owners counts q c ne none)

sum-cons : (c : ℕ) (cs : List ℕ) → sum (c ∷ cs) ≡ c + sum cs
sum-cons c cs = sum_by-cons (λ (x : ℕ). x) c cs

sum_le : (xs ys : List ℕ) → ((q : ℕ) → slice_index xs q ≤ slice_index ys q) → sum xs ≤ sum ys
sum_le [] ys le = omega arith
sum_le (x ∷ xs) [] le = let rest : sum xs ≤ 0 = sum_le xs [] (λ q. le (suc q)) in let first : x ≤ 0 = le 0 in omega (arith, sum-cons x xs)
sum_le (x ∷ xs) (y ∷ ys) le = let rest : sum xs ≤ sum ys = sum_le xs ys (λ q. le (suc q)) in let first : x ≤ y = le 0 in omega (arith, sum-cons x xs, sum-cons y ys)

sum_less : (xs ys : List ℕ) (k : ℕ) → ((q : ℕ) → slice_index xs q ≤ slice_index ys q) → slice_index xs k < slice_index ys k → sum xs < sum ys
sum_less xs [] k le less = absurd (omega arith)
sum_less [] (y ∷ ys) zero le less = let first : 0 < y = less in omega (arith, sum-cons y ys)
sum_less [] (y ∷ ys) (suc k) le less = let rest : 0 < sum ys = sum_less [] ys k (λ q. omega arith) less in omega (arith, sum-cons y ys)
sum_less (x ∷ xs) (y ∷ ys) zero le less = let rest : sum xs ≤ sum ys = sum_le xs ys (λ q. le (suc q)) in let first : x < y = less in omega (arith, sum-cons x xs, sum-cons y ys)
sum_less (x ∷ xs) (y ∷ ys) (suc k) le less = let rest : sum xs < sum ys = sum_less xs ys k (λ q. le (suc q)) less in let first : x ≤ y = le 0 in omega (arith, sum-cons x xs, sum-cons y ys)

-- where a namespace has a credit, some frame is vacant
pub has_free : (owners counts reserves held : List ℕ) (ns : ℕ) → IsPool owners counts reserves held → slice_index held ns < slice_index reserves ns → positives counts < length counts
has_free owners counts reserves held ns p credit = omega (arith, sum_less held reserves ns p.within credit, p.all, p.reserved)

pub pool_takes : (owners counts reserves held : List ℕ) (ns q : ℕ) → IsPool owners counts reserves held → ns < length held → q < length counts → slice_index counts q ≡ 0 → slice_index held ns < slice_index reserves ns
    → IsPool (slice_set owners q ns) (slice_set counts q 1) reserves (slice_set held ns (slice_index held ns + 1))
pool_takes owners counts reserves held ns q p exists less none credit =
    let size : length (slice_set counts q 1) ≡ length counts = length-set counts q 1 in
    let here : slice_index (slice_set held ns (slice_index held ns + 1)) ns ≡ slice_index held ns + 1 = get_or-set_same held ns (slice_index held ns + 1) 0 exists in
    let there : (m : ℕ) → m ≢ ns → slice_index (slice_set held ns (slice_index held ns + 1)) m ≡ slice_index held m = λ m ne. get_or-set_other held ns m (slice_index held ns + 1) 0 ne in
    let own_less : q < length (mine ns owners counts) = omega (arith, length-mine ns owners counts p.owned) in
    let own_more : positives (slice_set (mine ns owners counts) q 1) ≡ positives (mine ns owners counts) + 1 = positives_more (mine ns owners counts) q 1 own_less (idle_is ns owners counts q none) (omega arith) in
    let own : positives (mine ns (slice_set owners q ns) (slice_set counts q 1)) ≡ positives (mine ns owners counts) + 1 = ap (λ (xs : List ℕ). positives xs) (mine-set_own ns owners counts q 1) ∙ own_more in
    record {
      owned = omega (arith, length-set owners q ns, p.owned);
      each = λ m. elim (cases_eq m ns) [
        | inl e ↦ subst (λ (k : ℕ). positives (mine k (slice_set owners q ns) (slice_set counts q 1)) ≡ slice_index (slice_set held ns (slice_index held ns + 1)) k) (sym e) (omega (arith, p.each ns))
        | inr ne ↦ ap (λ (xs : List ℕ). positives xs) (mine-set_other m ns owners counts q 1 ne (idle_is m owners counts q none)) ∙ p.each m ∙ sym (there m ne)
      ];
      within = λ m. elim (cases_eq m ns) [
        | inl e ↦ subst (λ (k : ℕ). slice_index (slice_set held ns (slice_index held ns + 1)) k ≤ slice_index reserves k) (sym e) (omega arith)
        | inr ne ↦ omega (arith, there m ne, p.within m)
      ];
      all = omega (arith, p.all, sum_set held ns (slice_index held ns + 1) exists, positives_more counts q 1 less none (omega arith));
      reserved = omega (arith, p.reserved);
      same = length-set held ns _ ∙ p.same;
    }

pub pool_releases_last : (owners counts reserves held : List ℕ) (ns q : ℕ) → IsPool owners counts reserves held → ns < length held → slice_index owners q ≡ ns → 0 < slice_index counts q
    → IsPool owners (slice_set counts q 0) reserves (slice_set held ns (slice_index held ns - 1))
pool_releases_last owners counts reserves held ns q p exists own some =
    let size : length (slice_set counts q 0) ≡ length counts = length-set counts q 0 in
    let here : slice_index (slice_set held ns (slice_index held ns - 1)) ns ≡ slice_index held ns - 1 = get_or-set_same held ns (slice_index held ns - 1) 0 exists in
    let there : (m : ℕ) → m ≢ ns → slice_index (slice_set held ns (slice_index held ns - 1)) m ≡ slice_index held m = λ m ne. get_or-set_other held ns m (slice_index held ns - 1) 0 ne in
    let counted : slice_index (mine ns owners counts) q ≡ slice_index counts q = count_is ns owners counts q p.owned own in
    let own_less : positives (slice_set (mine ns owners counts) q 0) + 1 ≡ positives (mine ns owners counts) = positives_less (mine ns owners counts) q (omega arith) in
    let own_after : positives (mine ns owners (slice_set counts q 0)) ≡ positives (slice_set (mine ns owners counts) q 0) = ap (λ (xs : List ℕ). positives xs) (mine-count_own ns owners counts q 0 own) in
    record {
      owned = omega (arith, p.owned);
      each = λ m. elim (cases_eq m ns) [
        | inl e ↦ subst (λ (k : ℕ). positives (mine k owners (slice_set counts q 0)) ≡ slice_index (slice_set held ns (slice_index held ns - 1)) k) (sym e) (omega (arith, p.each ns))
        | inr ne ↦ ap (λ (xs : List ℕ). positives xs) (mine-count_other m ns owners counts q 0 ne own (other_is m ns owners counts q p.owned ne own)) ∙ p.each m ∙ sym (there m ne)
      ];
      within = λ m. elim (cases_eq m ns) [
        | inl e ↦ subst (λ (k : ℕ). slice_index (slice_set held ns (slice_index held ns - 1)) k ≤ slice_index reserves k) (sym e) (omega (arith, p.within ns))
        | inr ne ↦ omega (arith, there m ne, p.within m)
      ];
      all = omega (arith, p.all, p.each ns, sum_set held ns (slice_index held ns - 1) exists, positives_less counts q some);
      reserved = omega (arith, p.reserved);
      same = length-set held ns _ ∙ p.same;
    }

-- another count above 0 charges nobody
pub pool_counts : (owners counts reserves held : List ℕ) (ns q v : ℕ) → IsPool owners counts reserves held → slice_index owners q ≡ ns → 0 < slice_index counts q → 0 < v
    → IsPool owners (slice_set counts q v) reserves held
pool_counts owners counts reserves held ns q v p own some left =
    let size : length (slice_set counts q v) ≡ length counts = length-set counts q v in
    let counted : slice_index (mine ns owners counts) q ≡ slice_index counts q = count_is ns owners counts q p.owned own in
    let own_same : positives (mine ns owners (slice_set counts q v)) ≡ positives (mine ns owners counts) = ap (λ (xs : List ℕ). positives xs) (mine-count_own ns owners counts q v own) ∙ positives_same (mine ns owners counts) q v (omega arith) left in
    record {
      owned = omega (arith, p.owned);
      each = λ m. elim (cases_eq m ns) [
        | inl e ↦ subst (λ (k : ℕ). positives (mine k owners (slice_set counts q v)) ≡ slice_index held k) (sym e) (own_same ∙ p.each ns)
        | inr ne ↦ ap (λ (xs : List ℕ). positives xs) (mine-count_other m ns owners counts q v ne own (other_is m ns owners counts q p.owned ne own)) ∙ p.each m
      ];
      within = p.within;
      all = p.all ∙ sym (positives_same counts q v some left);
      reserved = omega (arith, p.reserved);
      same = p.same;
    }

masked : (b : Bool) (z x y : Live) → (b ≡ false → x ≡ y) → (if b then z else x) ≡ (if b then z else y)
masked true z x y h = refl
masked false z x y h = h refl

not_same : (m ns : ℕ) → (m == ns) ≡ false → m ≢ ns
not_same m ns e same = grind (arith, nat_tests)

-- another namespace sees what it saw, so the rest of a door stays
pub same_rest : (ns : ℕ) (owners owners' counts counts' reserves : List ℕ) (pages pages' : List (List ℕ)) → length counts' ≡ length counts
    → ((m : ℕ) → m ≢ ns → live_of m owners' counts' reserves pages' ≡ live_of m owners counts reserves pages)
    → rest_of ns owners' counts' reserves pages' ≡ rest_of ns owners counts reserves pages
same_rest ns owners owners' counts counts' reserves pages pages' size same =
    let each : (m : ℕ) → others_of ns owners' counts' reserves pages' m ≡ others_of ns owners counts reserves pages m = λ m. masked (m == ns) nobody _ _ (λ e. same m (not_same m ns e)) in
    λ i. record { reserves = reserves; frames = size i; others = λ m. each m i }

unmasked : (m ns : ℕ) (x : Live) → m ≢ ns → (if m == ns then nobody else x) ≡ x
unmasked m ns x ne = let other : (m == ns) ≡ false = grind (arith, nat_tests) in subst (λ (b : Bool). (if b then nobody else x) ≡ x) (sym other) refl

pub sees_same : (m ns : ℕ) (owners owners' counts counts' reserves reserves' : List ℕ) (pages pages' : List (List ℕ)) → m ≢ ns
    → others_of ns owners' counts' reserves' pages' m ≡ others_of ns owners counts reserves pages m
    → live_of m owners' counts' reserves' pages' ≡ live_of m owners counts reserves pages
sees_same m ns owners owners' counts counts' reserves reserves' pages pages' ne e = sym (unmasked m ns _ ne) ∙ e ∙ unmasked m ns _ ne

-- what a namespace counts is a count
pub counted : (ns : ℕ) (owners counts : List ℕ) (q : ℕ) → length owners ≡ length counts → 0 < slice_index (mine ns owners counts) q → 0 < slice_index counts q
counted ns owners counts q e some = omega (arith, count_is ns owners counts q e (owner_is ns owners counts q e some))

-- a call of the door of ns, as its own live frames and the rest see it
pub mine_takes : (ns q : ℕ) (owners owners' counts counts' reserves : List ℕ) (pages pages' : List (List ℕ)) → owners' ≡ slice_set owners q ns → counts' ≡ slice_set counts q 1 → pages' ≡ pages → length owners ≡ length counts → q < length counts → slice_index counts q ≡ 0
    → Takes (live_of ns owners counts reserves pages) (live_of ns owners' counts' reserves pages') q
mine_takes ns q owners owners' counts counts' reserves pages pages' o c p e less none =
    takes_as _ _ (mine ns owners counts) (mine ns owners' counts') pages pages' q refl (rw (o, c) (mine-set_own ns owners counts q 1)) p (omega (arith, length-mine ns owners counts e)) (idle_is ns owners counts q none)

pub rest_takes : (ns q : ℕ) (owners owners' counts counts' reserves : List ℕ) (pages pages' : List (List ℕ)) → owners' ≡ slice_set owners q ns → counts' ≡ slice_set counts q 1 → pages' ≡ pages → slice_index counts q ≡ 0
    → rest_of ns owners' counts' reserves pages' ≡ rest_of ns owners counts reserves pages
rest_takes ns q owners owners' counts counts' reserves pages pages' o c p none =
    same_rest ns owners owners' counts counts' reserves pages pages' (rw c (length-set counts q 1)) (λ m ne. rw (o, c, p) (ap (λ (xs : List ℕ). live_by (slice_index reserves m) xs pages) (mine-set_other m ns owners counts q 1 ne (idle_is m owners counts q none))))

pub mine_shares : (ns q : ℕ) (owners counts counts' reserves : List ℕ) (pages pages' : List (List ℕ)) → counts' ≡ slice_set counts q (slice_index counts q + 1) → pages' ≡ pages → length owners ≡ length counts → 0 < slice_index (mine ns owners counts) q
    → Shares (live_of ns owners counts reserves pages) (live_of ns owners counts' reserves pages') q
mine_shares ns q owners counts counts' reserves pages pages' c p e some =
    let own : slice_index owners q ≡ ns = owner_is ns owners counts q e some in
    let higher : mine ns owners (slice_set counts q (slice_index counts q + 1)) ≡ slice_set (mine ns owners counts) q (slice_index (mine ns owners counts) q + 1)
    = mine-count_own ns owners counts q (slice_index counts q + 1) own ∙ ap (λ (n : ℕ). slice_set (mine ns owners counts) q (n + 1)) (sym (count_is ns owners counts q e own)) in
    shares_as _ _ (mine ns owners counts) (mine ns owners counts') pages pages' q refl (rw c higher) p some

pub mine_releases : (ns q : ℕ) (owners counts counts' reserves : List ℕ) (pages pages' : List (List ℕ)) → counts' ≡ slice_set counts q (slice_index counts q - 1) → pages' ≡ pages → length owners ≡ length counts → 0 < slice_index (mine ns owners counts) q
    → Releases (live_of ns owners counts reserves pages) (live_of ns owners counts' reserves pages') q
mine_releases ns q owners counts counts' reserves pages pages' c p e some =
    let own : slice_index owners q ≡ ns = owner_is ns owners counts q e some in
    let lower : mine ns owners (slice_set counts q (slice_index counts q - 1)) ≡ slice_set (mine ns owners counts) q (slice_index (mine ns owners counts) q - 1)
    = mine-count_own ns owners counts q (slice_index counts q - 1) own ∙ ap (λ (n : ℕ). slice_set (mine ns owners counts) q (n - 1)) (sym (count_is ns owners counts q e own)) in
    releases_as _ _ (mine ns owners counts) (mine ns owners counts') pages pages' q refl (rw c lower) p some

pub rest_counts : (ns q v : ℕ) (owners counts counts' reserves : List ℕ) (pages pages' : List (List ℕ)) → counts' ≡ slice_set counts q v → pages' ≡ pages → length owners ≡ length counts → 0 < slice_index (mine ns owners counts) q
    → rest_of ns owners counts' reserves pages' ≡ rest_of ns owners counts reserves pages
rest_counts ns q v owners counts counts' reserves pages pages' c p e some =
    let own : slice_index owners q ≡ ns = owner_is ns owners counts q e some in
    same_rest ns owners owners counts counts' reserves pages pages' (rw c (length-set counts q v)) (λ m ne. rw (c, p) (ap (λ (xs : List ℕ). live_by (slice_index reserves m) xs pages) (mine-count_other m ns owners counts q v ne own (other_is m ns owners counts q e ne own))))

pub mine_fills : (ns q at : ℕ) (xs owners counts counts' reserves : List ℕ) (pages pages' : List (List ℕ)) → counts' ≡ counts → pages' ≡ slice_set pages q (filled at xs (slice_index_or pages q [])) → q < length pages → 0 < slice_index (mine ns owners counts) q
    → Fills (live_of ns owners counts reserves pages) (live_of ns owners counts' reserves pages') q at xs
mine_fills ns q at xs owners counts counts' reserves pages pages' c p less some = rw (c, p) (is_filled (slice_index reserves ns) (mine ns owners counts) pages q at xs some less)

blank : (n : ℕ) (a b : List ℕ) → n ≡ 0 → (if n == 0 then [] else a) ≡ (if n == 0 then [] else b)
blank n a b e = grind (arith, nat_tests)

-- who does not count a frame does not see its bytes
unseen : (reserved : ℕ) (counts : List ℕ) (pages : List (List ℕ)) (q : ℕ) (page : List ℕ) → slice_index counts q ≡ 0 → live_by reserved counts (slice_set pages q page) ≡ live_by reserved counts pages
unseen reserved counts pages q page none =
    let at : (k : ℕ) → (if slice_index counts k == 0 then [] else slice_index_or (slice_set pages q page) k []) ≡ (if slice_index counts k == 0 then [] else slice_index_or pages k []) = λ k. elim (cases_eq k q) [
      | inl e ↦ blank (slice_index counts k) _ _ (ap (λ (j : ℕ). slice_index counts j) e ∙ none)
      | inr ne ↦ ap (λ (p : List ℕ). if slice_index counts k == 0 then [] else p) (get_or-set_other pages q k page [] ne)
    ] in
    λ i. record { reserved = reserved; held = positives counts; shares = sum counts; count = λ k. slice_index counts k; bytes = λ k. at k i }

pub rest_fills : (ns q : ℕ) (page owners counts counts' reserves : List ℕ) (pages pages' : List (List ℕ)) → counts' ≡ counts → pages' ≡ slice_set pages q page → length owners ≡ length counts → 0 < slice_index (mine ns owners counts) q
    → rest_of ns owners counts' reserves pages' ≡ rest_of ns owners counts reserves pages
rest_fills ns q page owners counts counts' reserves pages pages' c p e some =
    let own : slice_index owners q ≡ ns = owner_is ns owners counts q e some in
    same_rest ns owners owners counts counts' reserves pages pages' (rw c refl) (λ m ne. rw (c, p) (unseen (slice_index reserves m) (mine m owners counts) pages q page (other_is m ns owners counts q e ne own)))

-- the same for the pool's invariant, where h is what ns held
pub taken_pool : (owners counts counts' reserves held : List ℕ) (ns q h : ℕ) → IsPool owners counts reserves held → ns < length reserves → q < length counts → slice_index counts q ≡ 0 → positives (mine ns owners counts) < slice_index reserves ns → counts' ≡ slice_set counts q 1 → h ≡ slice_index held ns
    → IsPool (slice_set owners q ns) counts' reserves (slice_set held ns (h + 1))
taken_pool owners counts counts' reserves held ns q h p exists less none credit c e = rw (c, e) (pool_takes owners counts reserves held ns q p (omega (arith, p.same)) less none (omega (arith, p.each ns)))

pub shared_pool : (owners counts counts' reserves held : List ℕ) (ns q : ℕ) → IsPool owners counts reserves held → 0 < slice_index (mine ns owners counts) q → counts' ≡ slice_set counts q (slice_index counts q + 1)
    → IsPool owners counts' reserves held
shared_pool owners counts counts' reserves held ns q p some c =
    rw c (pool_counts owners counts reserves held ns q _ p (owner_is ns owners counts q p.owned some) (counted ns owners counts q p.owned some) (omega arith))

pub held_some : (owners counts reserves held : List ℕ) (ns q : ℕ) → IsPool owners counts reserves held → 0 < slice_index (mine ns owners counts) q → 0 < slice_index held ns
held_some owners counts reserves held ns q p some = omega (arith, p.each ns, positives_less (mine ns owners counts) q some)

pub released_last : (owners counts counts' reserves held : List ℕ) (ns q h : ℕ) → IsPool owners counts reserves held → ns < length reserves → 0 < slice_index (mine ns owners counts) q → counts' ≡ slice_set counts q (slice_index counts q - 1) → slice_index counts' q ≡ 0 → h ≡ slice_index held ns
    → IsPool owners counts' reserves (slice_set held ns (h - 1))
released_last owners counts counts' reserves held ns q h p exists some c last e =
    let counts_some : 0 < slice_index counts q = counted ns owners counts q p.owned some in
    let here : slice_index (slice_set counts q (slice_index counts q - 1)) q ≡ slice_index counts q - 1 = get_or-set_same counts q _ 0 (counted_within counts q counts_some) in
    let zero_left : slice_index counts q - 1 ≡ 0 = sym here ∙ ap (λ (xs : List ℕ). slice_index xs q) (sym c) ∙ last in
    rw (c, e, zero_left) (pool_releases_last owners counts reserves held ns q p (omega (arith, p.same)) (owner_is ns owners counts q p.owned some) counts_some)

pub released_more : (owners counts counts' reserves held : List ℕ) (ns q : ℕ) → IsPool owners counts reserves held → 0 < slice_index (mine ns owners counts) q → counts' ≡ slice_set counts q (slice_index counts q - 1) → slice_index counts' q ≢ 0
    → IsPool owners counts' reserves held
released_more owners counts counts' reserves held ns q p some c left =
    let counts_some : 0 < slice_index counts q = counted ns owners counts q p.owned some in
    let here : slice_index (slice_set counts q (slice_index counts q - 1)) q ≡ slice_index counts q - 1 = get_or-set_same counts q _ 0 (counted_within counts q counts_some) in
    let same : slice_index counts' q ≡ slice_index counts q - 1 = ap (λ (xs : List ℕ). slice_index xs q) c ∙ here in
    rw c (pool_counts owners counts reserves held ns q _ p (owner_is ns owners counts q p.owned some) counts_some (omega arith))

-- where no frame is live, nobody holds any
mine_none : (ns n : ℕ) (owners : List ℕ) → positives (mine ns owners (replicate n 0)) ≡ 0
mine_none ns n [] = refl
mine_none ns zero (o ∷ owners) = refl
mine_none ns (suc n) (o ∷ owners) = let head : (if o == ns then 0 else 0) ≡ 0 = grind (arith, nat_tests) in ap (λ (c : ℕ). positives (c ∷ mine ns owners (replicate n 0))) head ∙ mine_none ns n owners

pub fresh_pool : (n : ℕ) (owners counts reserves held : List ℕ) → owners ≡ replicate n 0 → counts ≡ replicate n 0 → held ≡ replicate (length reserves) 0 → sum reserves ≤ n → IsPool owners counts reserves held
fresh_pool n owners counts reserves held o c h fits =
    let sized : length counts ≡ n = rw c (length-replicate {A = ℕ} n 0) in
    record {
      owned = rw o (length-replicate {A = ℕ} n 0) ∙ sym sized;
      each = λ ns. rw (c, h) (mine_none ns n owners ∙ sym (none_at (length reserves) ns));
      within = λ ns. rw (h, none_at (length reserves) ns) (omega arith);
      all = rw (c, h) (sum_none (length reserves) ∙ sym (positives_none n));
      reserved = omega arith;
      same = rw h (length-replicate {A = ℕ} (length reserves) 0);
    }

pub fresh_idle : (n ns : ℕ) (owners counts reserves : List ℕ) (pages : List (List ℕ)) → counts ≡ replicate n 0 → IsIdle (slice_index reserves ns) (live_of ns owners counts reserves pages)
fresh_idle n ns owners counts reserves pages c =
    let none : positives (mine ns owners counts) ≡ 0 = rw c (mine_none ns n owners) in
    record {
      reserved = refl;
      held = none;
      shares = positives_zero (mine ns owners counts) none;
      counts = λ q. idle_is ns owners counts q (rw c (none_at n q));
    }
