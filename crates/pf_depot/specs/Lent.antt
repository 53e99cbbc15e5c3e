-- Proofs of what the trait `Frames` asks of a door: that what the loans of a namespace show is sound, since each live
-- place has its frame, and that their census is one. A law's proof may cite no file of its own crate's proofs/.

use Rattle.std.proofs.Common.{◌≡◌, ℕ, ◌<◌, List, [], length, map, arith}
use Rattle.std.specs.Prelude.{Option, Some, None, IsSome}
use Rattle.std.proofs.lemmas.List.{get_or-map}
use Rattle.pf_base.specs.declared.TheConstants.{PAGE_SIZE}
use Rattle.pf_frame.specs.declared.frame.Frame.{Frame}
use Rattle.pf_frame.specs.Counted.{live_by}
use Rattle.pf_frame.specs.Sound.{positives-le-length, counted_within, is_sound, is_census}
use Rattle.pf_frame.specs.Live.{IsSound, Census}
use Rattle.pf_depot.specs.declared.loans.Loans.{Loans}
use Rattle.pf_depot.specs.Loans.{loans_live}
use Rattle.pf_depot.specs.Places.{page_at, AreLent}

page_whole : (p : Option Frame) → IsSome p → length (page_at p) ≡ PAGE_SIZE
page_whole None h = cc
page_whole (Some f) h = f.whole

pub lent_sound : (counts : List ℕ) (places : List (Option Frame)) → length places ≡ length counts → AreLent counts places → IsSound (live_by (length counts) counts (map page_at places))
lent_sound counts places size lent = is_sound _ counts _ (positives-le-length counts) (λ q some.
    let less : q < length places = omega (arith, counted_within counts q some) in
    rw (get_or-map page_at places q None [] less) (page_whole _ (lent.some q some)))

pub loans_sound : (l : Loans) → IsSound (loans_live l)
loans_sound l = lent_sound l.counts.items l.places.items (omega (arith, l.kept.paged)) l.lent

pub loans_census : (l : Loans) → Census (loans_live l)
loans_census l = is_census _ l.counts.items _
