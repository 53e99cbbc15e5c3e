-- What a change of counts and pages is to the live frames.

use Rattle.std.proofs.Common.{◌≡◌, ◌≢◌, ℕ, zero, suc, ◌+◌, ◌-◌, ◌<◌, ◌≤◌, List, [], ◌∷◌, length, slice_index, slice_index_or, slice_set, ◌==◌, if◌then◌else◌, Contains, nat_eq, false, refl, arith, sym, subst, ap, ◌∙◌, inl, inr, replicate, get_or-set_same, get_or-set_other}
use Rattle.std.specs.List.{IsDistinct, AllByRecursion}
use Rattle.std.proofs.lemmas.Bool.{cases_eq}
use Rattle.std.proofs.lemmas.Bool.Decides.{nat_tests}
use Rattle.pf_base.specs.declared.TheConstants.{PAGE_SIZE}
use Rattle.pf_frame.specs.Bytes.{filled}
use Rattle.pf_frame.specs.Counted.{positives, live_by}
use Rattle.pf_frame.specs.Sound.{counted_within, page_shown}
use Rattle.pf_frame.proofs.CountedLaws.{positives_more, positives_less, positives_same, positives_none, sum_none, sum_set}
use Rattle.pf_frame.specs.Live.{Census, IsSound, Takes, Shares, Releases, Fills, IsIdle}

pub none_at : (n q : ℕ) → slice_index (replicate n 0) q ≡ 0
none_at zero q = refl
none_at (suc n) zero = refl
none_at (suc n) (suc q) = none_at n q

pub is_idle : (n : ℕ) (counts : List ℕ) (pages : List (List ℕ)) → counts ≡ replicate n 0 → IsIdle (length counts) (live_by (length counts) counts pages)
is_idle n counts pages e = record {
  reserved = refl;
  held = rw e (positives_none n);
  shares = rw e (sum_none n);
  counts = λ q. rw e (none_at n q);
}

-- the pages of the frames that were live stay
pub is_taken : (reserved : ℕ) (counts : List ℕ) (pages after : List (List ℕ)) (nr : ℕ) → ((q : ℕ) → 0 < slice_index counts q → slice_index_or after q [] ≡ slice_index_or pages q []) → nr < length counts → slice_index counts nr ≡ 0
    → Takes (live_by reserved counts pages) (live_by reserved (slice_set counts nr 1) after) nr
is_taken reserved counts pages after nr kept less none =
    let other : (q : ℕ) → q ≢ nr → slice_index (slice_set counts nr 1) q ≡ slice_index counts q = λ q ne. get_or-set_other counts nr q 1 0 ne in
    record {
      reserved = refl;
      held = positives_more counts nr 1 less none (omega arith);
      shares = omega (arith, sum_set counts nr 1 less);
      fresh = none;
      taken = get_or-set_same counts nr 1 0 less;
      counts = other;
      bytes = λ q some.
          let ne : q ≢ nr = λ e. let same : slice_index counts q ≡ slice_index counts nr = ap (λ (k : ℕ). slice_index counts k) e in omega arith in
          page_shown _ (slice_index_or after q []) (omega (arith, other q ne)) ∙ kept q some ∙ sym (page_shown _ (slice_index_or pages q []) some);
    }

pub is_shared : (reserved : ℕ) (counts : List ℕ) (pages : List (List ℕ)) (nr : ℕ) → 0 < slice_index counts nr → Shares (live_by reserved counts pages) (live_by reserved (slice_set counts nr (slice_index counts nr + 1)) pages) nr
is_shared reserved counts pages nr some =
    let less : nr < length counts = counted_within counts nr some in
    let here : slice_index (slice_set counts nr (slice_index counts nr + 1)) nr ≡ slice_index counts nr + 1 = get_or-set_same counts nr (slice_index counts nr + 1) 0 less in
    let other : (q : ℕ) → q ≢ nr → slice_index (slice_set counts nr (slice_index counts nr + 1)) q ≡ slice_index counts q = λ q ne. get_or-set_other counts nr q (slice_index counts nr + 1) 0 ne in
    record {
      reserved = refl;
      held = positives_same counts nr (slice_index counts nr + 1) some (omega arith);
      shares = omega (arith, sum_set counts nr (slice_index counts nr + 1) less);
      shared = here;
      counts = other;
      bytes = λ q live. elim (cases_eq q nr) [
        | inl e ↦ let same : slice_index counts q ≡ slice_index counts nr = ap (λ (k : ℕ). slice_index counts k) e in
            let later : slice_index (slice_set counts nr (slice_index counts nr + 1)) q ≡ slice_index counts nr + 1 = ap (λ (k : ℕ). slice_index (slice_set counts nr (slice_index counts nr + 1)) k) e ∙ here in
            page_shown _ (slice_index_or pages q []) (omega arith) ∙ sym (page_shown _ (slice_index_or pages q []) live)
        | inr ne ↦ ap (λ (n : ℕ). if n == 0 then [] else slice_index_or pages q []) (other q ne)
      ];
    }

-- the pages of the frames that are live afterwards stay
pub is_released : (reserved : ℕ) (counts : List ℕ) (pages after : List (List ℕ)) (nr : ℕ) → ((q : ℕ) → 0 < slice_index (slice_set counts nr (slice_index counts nr - 1)) q → slice_index_or after q [] ≡ slice_index_or pages q []) → 0 < slice_index counts nr
    → Releases (live_by reserved counts pages) (live_by reserved (slice_set counts nr (slice_index counts nr - 1)) after) nr
is_released reserved counts pages after nr kept some =
    let less : nr < length counts = counted_within counts nr some in
    let here : slice_index (slice_set counts nr (slice_index counts nr - 1)) nr ≡ slice_index counts nr - 1 = get_or-set_same counts nr (slice_index counts nr - 1) 0 less in
    let other : (q : ℕ) → q ≢ nr → slice_index (slice_set counts nr (slice_index counts nr - 1)) q ≡ slice_index counts q = λ q ne. get_or-set_other counts nr q (slice_index counts nr - 1) 0 ne in
    record {
      reserved = refl;
      shares = omega (arith, sum_set counts nr (slice_index counts nr - 1) less);
      last = λ one. let gone : slice_index counts nr - 1 ≡ 0 = omega arith in rw gone (positives_less counts nr some);
      more = λ two. positives_same counts nr (slice_index counts nr - 1) some (omega arith);
      released = omega arith;
      counts = other;
      bytes = λ q left.
          let before : 0 < slice_index counts q = elim (cases_eq q nr) [
            | inl e ↦ let same : slice_index counts q ≡ slice_index counts nr = ap (λ (k : ℕ). slice_index counts k) e in omega arith
            | inr ne ↦ omega (arith, other q ne)
          ] in
          page_shown _ (slice_index_or after q []) left ∙ kept q left ∙ sym (page_shown _ (slice_index_or pages q []) before);
    }

pub is_filled : (reserved : ℕ) (counts : List ℕ) (pages : List (List ℕ)) (nr at : ℕ) (xs : List ℕ) → 0 < slice_index counts nr → nr < length pages → Fills (live_by reserved counts pages) (live_by reserved counts (slice_set pages nr (filled at xs (slice_index_or pages nr [])))) nr at xs
is_filled reserved counts pages nr at xs some less = record {
  reserved = refl;
  held = refl;
  shares = refl;
  counts = λ q. refl;
  filled = page_shown _ _ some ∙ get_or-set_same pages nr _ [] less ∙ ap (λ (p : List ℕ). filled at xs p) (sym (page_shown _ (slice_index_or pages nr []) some));
  bytes = λ q ne _. ap (λ (p : List ℕ). if slice_index counts q == 0 then [] else p) (get_or-set_other pages nr q _ [] ne);
}

-- the same, where the code names the counts after the call
pub takes_as : (reserved later : ℕ) (counts after : List ℕ) (pages shown : List (List ℕ)) (nr : ℕ) → later ≡ reserved → after ≡ slice_set counts nr 1 → shown ≡ pages → nr < length counts → slice_index counts nr ≡ 0 → Takes (live_by reserved counts pages) (live_by later after shown) nr
takes_as reserved later counts after pages shown nr r e p less none = rw (r, e, p) (is_taken reserved counts pages pages nr (λ q some. refl) less none)

pub shares_as : (reserved later : ℕ) (counts after : List ℕ) (pages shown : List (List ℕ)) (nr : ℕ) → later ≡ reserved → after ≡ slice_set counts nr (slice_index counts nr + 1) → shown ≡ pages → 0 < slice_index counts nr → Shares (live_by reserved counts pages) (live_by later after shown) nr
shares_as reserved later counts after pages shown nr r e p some = rw (r, e, p) (is_shared reserved counts pages nr some)

pub releases_as : (reserved later : ℕ) (counts after : List ℕ) (pages shown : List (List ℕ)) (nr : ℕ) → later ≡ reserved → after ≡ slice_set counts nr (slice_index counts nr - 1) → shown ≡ pages → 0 < slice_index counts nr → Releases (live_by reserved counts pages) (live_by later after shown) nr
releases_as reserved later counts after pages shown nr r e p some = rw (r, e, p) (is_released reserved counts pages pages nr (λ q some. refl) some)
