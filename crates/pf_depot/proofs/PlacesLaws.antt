-- What a change of counts and places is to the live frames.

use Rattle.std.proofs.Common.{◌≡◌, ◌≢◌, ℕ, zero, suc, ◌+◌, ◌-◌, ◌<◌, List, length, map, slice_index, slice_index_or, slice_set, ◌==◌, if◌then◌else◌, refl, arith, sym, subst, ap, ◌∙◌, inl, inr, get_or-set_same, get_or-set_other, length-set, replicate, []}
use Rattle.std.specs.Prelude.{Option, Some, None, IsSome}
use Rattle.std.proofs.lemmas.List.{get_or-map, map-set, length-map, length-replicate}
use Rattle.std.proofs.lemmas.Bool.{cases_eq}
use Rattle.pf_frame.specs.declared.frame.Frame.{Frame}
use Rattle.pf_frame.specs.Bytes.{filled}
use Rattle.pf_frame.specs.Counted.{positives, live_by}
use Rattle.pf_frame.specs.Sound.{counted_within, page_shown}
use Rattle.pf_frame.proofs.CountedLaws.{positives_less}
use Rattle.pf_frame.specs.Live.{Takes, Shares, Releases, Fills, IsIdle}
use Rattle.pf_frame.proofs.LiveLaws.{is_taken, is_released, is_filled, shares_as, releases_as, none_at, is_idle}
use Rattle.pf_frame.specs.Pages.{page_of}
use Rattle.pf_depot.specs.Places.{page_at, AreLent}

-- equal numbers have equal counts
same_count : (counts : List ℕ) (q nr : ℕ) → q ≡ nr → slice_index counts q ≡ slice_index counts nr
same_count counts q nr e = ap (λ (k : ℕ). slice_index counts k) e

-- another place keeps its page
page_kept : (places : List (Option Frame)) (nr q : ℕ) (p : Option Frame) → q ≢ nr → slice_index_or (map page_at (slice_set places nr p)) q [] ≡ slice_index_or (map page_at places) q []
page_kept places nr q p ne = ap (λ (ps : List (List ℕ)). slice_index_or ps q []) (map-set page_at places nr p) ∙ get_or-set_other (map page_at places) nr q (page_at p) [] ne

-- a frame comes to a place
pub lent_takes : (counts : List ℕ) (places : List (Option Frame)) (nr : ℕ) (f : Frame) → length places ≡ length counts → nr < length counts → AreLent counts places → AreLent (slice_set counts nr 1) (slice_set places nr (Some f))
lent_takes counts places nr f size less lent =
    let here : slice_index_or (slice_set places nr (Some f)) nr None ≡ Some f = get_or-set_same places nr (Some f) None (omega arith) in
    let one : slice_index (slice_set counts nr 1) nr ≡ 1 = get_or-set_same counts nr 1 0 less in
    record {
      some = λ q some. elim (cases_eq q nr) [
        | inl e ↦ subst (λ (k : ℕ). IsSome (slice_index_or (slice_set places nr (Some f)) k None)) (sym e) (subst (λ (p : Option Frame). IsSome p) (sym here) refl)
        | inr ne ↦ subst (λ (p : Option Frame). IsSome p) (sym (get_or-set_other places nr q (Some f) None ne)) (lent.some q (omega (arith, get_or-set_other counts nr q 1 0 ne)))
      ];
      none = λ q none. elim (cases_eq q nr) [
        | inl e ↦ absurd (omega (arith, same_count (slice_set counts nr 1) q nr e))
        | inr ne ↦ get_or-set_other places nr q (Some f) None ne ∙ lent.none q (omega (arith, get_or-set_other counts nr q 1 0 ne))
      ];
    }

-- a frame leaves its place
pub lent_gives : (counts : List ℕ) (places : List (Option Frame)) (nr : ℕ) → length places ≡ length counts → nr < length counts → AreLent counts places → AreLent (slice_set counts nr 0) (slice_set places nr None)
lent_gives counts places nr size less lent =
    let here : slice_index_or (slice_set places nr None) nr None ≡ None = get_or-set_same places nr None None (omega arith) in
    let left : slice_index (slice_set counts nr 0) nr ≡ 0 = get_or-set_same counts nr 0 0 less in
    record {
      some = λ q some. elim (cases_eq q nr) [
        | inl e ↦ absurd (omega (arith, same_count (slice_set counts nr 0) q nr e))
        | inr ne ↦ subst (λ (p : Option Frame). IsSome p) (sym (get_or-set_other places nr q None None ne)) (lent.some q (omega (arith, get_or-set_other counts nr q 0 0 ne)))
      ];
      none = λ q none. elim (cases_eq q nr) [
        | inl e ↦ ap (λ (k : ℕ). slice_index_or (slice_set places nr None) k None) e ∙ here
        | inr ne ↦ get_or-set_other places nr q None None ne ∙ lent.none q (omega (arith, get_or-set_other counts nr q 0 0 ne))
      ];
    }

-- a count above 0 becomes another
pub lent_counts : (counts : List ℕ) (places : List (Option Frame)) (nr v : ℕ) → 0 < slice_index counts nr → 0 < v → AreLent counts places → AreLent (slice_set counts nr v) places
lent_counts counts places nr v some more lent =
    let here : slice_index (slice_set counts nr v) nr ≡ v = get_or-set_same counts nr v 0 (counted_within counts nr some) in
    record {
      some = λ q h. elim (cases_eq q nr) [
        | inl e ↦ lent.some q (omega (arith, same_count counts q nr e))
        | inr ne ↦ lent.some q (omega (arith, get_or-set_other counts nr q v 0 ne))
      ];
      none = λ q h. elim (cases_eq q nr) [
        | inl e ↦ absurd (omega (arith, same_count (slice_set counts nr v) q nr e))
        | inr ne ↦ lent.none q (omega (arith, get_or-set_other counts nr q v 0 ne))
      ];
    }

-- no place has a frame
none_there : (n q : ℕ) → slice_index_or (replicate {A = Option Frame} n None) q None ≡ None
none_there zero q = refl
none_there (suc n) zero = refl
none_there (suc n) (suc q) = none_there n q

pub lent_none : (n : ℕ) (counts : List ℕ) (places : List (Option Frame)) → counts ≡ replicate n 0 → places ≡ replicate {A = Option Frame} n None → AreLent counts places
lent_none n counts places c p = record {
  some = λ q h. let none : slice_index counts q ≡ 0 = rw c (none_at n q) in absurd (omega arith);
  none = λ q h. rw p (none_there n q);
}

pub lent_idle : (n : ℕ) (counts : List ℕ) (pages : List (List ℕ)) → counts ≡ replicate n 0 → IsIdle n (live_by (length counts) counts pages)
lent_idle n counts pages e = subst (λ (k : ℕ). IsIdle k (live_by (length counts) counts pages)) (ap (λ (xs : List ℕ). length xs) e ∙ length-replicate {A = ℕ} n 0) (is_idle n counts pages e)

-- some frame is live where a count is above 0
pub some_held : (counts : List ℕ) (nr : ℕ) → 0 < slice_index counts nr → 0 < positives counts
some_held counts nr some = omega (arith, positives_less counts nr some)

-- the same, as the live frames show it
pub is_received : (counts : List ℕ) (places : List (Option Frame)) (nr : ℕ) (p : Option Frame) → nr < length counts → slice_index counts nr ≡ 0
    → Takes (live_by (length counts) counts (map page_at places)) (live_by (length (slice_set counts nr 1)) (slice_set counts nr 1) (map page_at (slice_set places nr p))) nr
is_received counts places nr p less none =
    let kept : (q : ℕ) → 0 < slice_index counts q → slice_index_or (map page_at (slice_set places nr p)) q [] ≡ slice_index_or (map page_at places) q [] = λ q some. page_kept places nr q p (λ e. omega (arith, same_count counts q nr e)) in
    rw (length-set counts nr 1) (is_taken (length counts) counts (map page_at places) (map page_at (slice_set places nr p)) nr kept less none)

-- its bytes are those of the frame that came
pub bytes_received : (counts : List ℕ) (places : List (Option Frame)) (nr : ℕ) (f : Frame) → length places ≡ length counts → nr < length counts
    → (if slice_index (slice_set counts nr 1) nr == 0 then [] else slice_index_or (map page_at (slice_set places nr (Some f))) nr []) ≡ page_of f
bytes_received counts places nr f size less =
    let one : slice_index (slice_set counts nr 1) nr ≡ 1 = get_or-set_same counts nr 1 0 less in
    let here : slice_index_or (map page_at (slice_set places nr (Some f))) nr [] ≡ page_of f = ap (λ (ps : List (List ℕ)). slice_index_or ps nr []) (map-set page_at places nr (Some f)) ∙ get_or-set_same (map page_at places) nr (page_of f) [] (omega (arith, length-map places page_at)) in
    page_shown _ _ (omega arith) ∙ here

pub is_given : (counts : List ℕ) (places : List (Option Frame)) (nr : ℕ) (p : Option Frame) → slice_index counts nr ≡ 1
    → Releases (live_by (length counts) counts (map page_at places)) (live_by (length (slice_set counts nr 0)) (slice_set counts nr 0) (map page_at (slice_set places nr p))) nr
is_given counts places nr p one =
    let less : slice_index counts nr - 1 ≡ 0 = omega arith in
    let gone : slice_index (slice_set counts nr (slice_index counts nr - 1)) nr ≡ slice_index counts nr - 1 = get_or-set_same counts nr _ 0 (counted_within counts nr (omega arith)) in
    let kept : (q : ℕ) → 0 < slice_index (slice_set counts nr (slice_index counts nr - 1)) q → slice_index_or (map page_at (slice_set places nr p)) q [] ≡ slice_index_or (map page_at places) q [] = λ q some. page_kept places nr q p (λ e. omega (arith, same_count (slice_set counts nr (slice_index counts nr - 1)) q nr e)) in
    rw (length-set counts nr 0) (subst (λ (k : ℕ). Releases (live_by (length counts) counts (map page_at places)) (live_by (length counts) (slice_set counts nr k) (map page_at (slice_set places nr p))) nr) less (is_released (length counts) counts (map page_at places) (map page_at (slice_set places nr p)) nr kept (omega arith)))

pub is_raised : (counts : List ℕ) (pages : List (List ℕ)) (nr v : ℕ) → 0 < slice_index counts nr → v ≡ slice_index counts nr
    → Shares (live_by (length counts) counts pages) (live_by (length (slice_set counts nr (v + 1))) (slice_set counts nr (v + 1)) pages) nr
is_raised counts pages nr v some e = shares_as _ _ counts _ pages pages nr (length-set counts nr (v + 1)) (ap (λ (k : ℕ). slice_set counts nr (k + 1)) e) refl some

pub is_lowered : (counts : List ℕ) (pages : List (List ℕ)) (nr v : ℕ) → 0 < slice_index counts nr → v ≡ slice_index counts nr
    → Releases (live_by (length counts) counts pages) (live_by (length (slice_set counts nr (v - 1))) (slice_set counts nr (v - 1)) pages) nr
is_lowered counts pages nr v some e = releases_as _ _ counts _ pages pages nr (length-set counts nr (v - 1)) (ap (λ (k : ℕ). slice_set counts nr (k - 1)) e) refl some

pub is_written : (counts : List ℕ) (places : List (Option Frame)) (nr at : ℕ) (xs : List ℕ) (f g : Frame) → length places ≡ length counts → 0 < slice_index counts nr → Some f ≡ slice_index_or places nr None → page_of g ≡ filled at xs (page_of f)
    → Fills (live_by (length counts) counts (map page_at places)) (live_by (length counts) counts (map page_at (slice_set places nr (Some g)))) nr at xs
is_written counts places nr at xs f g size some is written =
    let less : nr < length places = omega (arith, counted_within counts nr some) in
    let page : slice_index_or (map page_at places) nr [] ≡ page_of f = get_or-map page_at places nr None [] less ∙ ap page_at (sym is) in
    let pages : map page_at (slice_set places nr (Some g)) ≡ slice_set (map page_at places) nr (filled at xs (slice_index_or (map page_at places) nr [])) = map-set page_at places nr (Some g) ∙ ap (λ (ys : List ℕ). slice_set (map page_at places) nr ys) (written ∙ ap (filled at xs) (sym page)) in
    rw pages (is_filled (length counts) counts (map page_at places) nr at xs some (omega (arith, length-map places page_at)))
