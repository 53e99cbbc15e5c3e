-- Why the frames of a hub have one owner each, and why its windows hold their segments.

use Rattle.std.proofs.Common.{◌≡◌, ℕ, zero, suc, ◌+◌, ◌<◌, ◌≤◌, true, false, List, [], ◌∷◌, length, map}
use Rattle.std.proofs.Common.{take, drop, refl, ap, sym, ◌∙◌, subst, arith, length-append}
use Rattle.std.specs.Prelude.{Option, Some, None, IsSome, slice_index, slice_index_or}
use Rattle.std.specs.List.{sum_by}
use Rattle.std.specs.Option.{option_map}
use Rattle.std.proofs.lemmas.Bool.Decides.{nat_tests}
use Rattle.std.proofs.lemmas.List.{get_or-map}
use Rattle.std.proofs.lemmas.List.Sums.{sum_by-cons}
use Rattle.pf_base.specs.declared.TheConstants.{PAGE_SIZE}
use Rattle.pf_machine.specs.Numbered.{at, sum_of}
use Rattle.pf_machine.proofs.NumberedLaws.{at_within, at-map}
use Rattle.pf_machine.specs.State.{Pipe}
use Rattle.pf_frame.specs.declared.frame.Frame.{Frame}
use Rattle.pf_frame.specs.Counted.{positives}
use Rattle.pf_frame.specs.Pages.{page_of}
use Rattle.pf_frame.specs.Sound.{page_shown}
use Rattle.pf_ring.specs.declared.ring.Window.{Window}
use Rattle.pf_ring.specs.Ring.{no_ring, segment_of}
use Rattle.pf_ring.specs.Table.{named_by}
use Rattle.pf_ring.specs.Windows.{named, reach}
use Rattle.pf_depot.specs.declared.depot.Depot.{Depot}
use Rattle.pf_depot.specs.declared.loans.Loans.{Loans}
use Rattle.pf_depot.specs.AllLoans.{held_of}
use Rattle.pf_depot.specs.Loans.{loans_live}
use Rattle.pf_depot.specs.Places.{page_at, AreLent}
use Rattle.pf_tables.specs.Meaning.{Namespace, meaning, pipe_meaning, ring_or}
use Rattle.pf_tables.specs.Owns.{Owns}
use Rattle.pf_tables.proofs.OwnsLaws.{stands_at}
use Rattle.pf_hub.specs.Owners.{lying, owned, windows_on, Shows, ShowEach, ShowQueue, IsOwner, AreOwned}
use Rattle.pf_hub.specs.declared.tenant.Tenant.{Tenant as Lodger}
use Rattle.pf_hub.specs.Shared.{IsShared, hub_of, held_in}
use Rattle.pf_hub.specs.Tenants.{Tenants, tenant_of}
use Rattle.pf_hub.proofs.TenantLaws.{tenant_is, lives_is, number_is, frames_are, slack_is}

-- Frames at places

lent_later : {c : ℕ} {p : Option Frame} {cs : List ℕ} {ps : List (Option Frame)} → AreLent (c ∷ cs) (p ∷ ps) →
    AreLent cs ps
lent_later lent = record { some = λ q. lent.some (suc q); none = λ q. lent.none (suc q) }

lying_held : (counts : List ℕ) (places : List (Option Frame)) → length places ≡ length counts →
    AreLent counts places → length (lying places) ≡ positives counts
lying_held [] [] same lent = refl
lying_held [] (p ∷ ps) same lent = absurd (omega (arith, same))
lying_held (c ∷ cs) [] same lent = absurd (omega (arith, same))
lying_held (zero ∷ cs) (None ∷ ps) same lent = lying_held cs ps (omega (arith, same)) (lent_later lent)
lying_held (zero ∷ cs) (Some f ∷ ps) same lent = let none : Some f ≡ None = lent.none 0 refl in absurd (cc)
lying_held (suc c ∷ cs) (None ∷ ps) same lent = let none : false ≡ true = lent.some 0 (omega arith) in absurd (cc)
lying_held (suc c ∷ cs) (Some f ∷ ps) same lent =
    grind (arith, nat_tests, lying_held cs ps (omega (arith, same)) (lent_later lent))

own_held : (l : Loans) → length (lying l.places.items) ≡ held_of l
own_held l = lying_held l.counts.items l.places.items (omega (arith, l.kept.paged)) l.lent

all_held : {Z : Type 0} (ts : List (Option (Lodger Z))) → length (owned ts) ≡ sum_of held_in ts
all_held [] = refl
all_held (None ∷ ts) = let rest = all_held ts in omega (arith, rest)
all_held (Some t ∷ ts) =
    let both = length-append (lying t.loans.places.items) (owned ts) in omega (arith, both, own_held t.loans, all_held ts)

-- Windows

-- the windows of all pipes on a frame are those of all rings
windows_named : (place : ℕ) (pipes : List (Option (Pipe Window))) →
    sum_by (named_by place) (map ring_or pipes) ≡ sum_of (λ p. named place p.queue.segments) pipes
windows_named place [] = refl
windows_named place (None ∷ ps) =
    omega (arith, sum_by-cons (named_by place) no_ring (map ring_or ps), windows_named place ps)
windows_named place (Some p ∷ ps) =
    omega (arith, sum_by-cons (named_by place) p.queue (map ring_or ps), windows_named place ps)

module _ (l : Loans) where
  -- a window on a frame whose count is above 0
  shows : (w : Window) → 0 < slice_index l.counts.items w.frame → w.from + w.len ≤ PAGE_SIZE →
      Shows l.places.items w (segment_of (loans_live l) w)
  shows w some within = found (at l.places.items w.frame) refl (l.lent.some w.frame some)
    where
      found : (o : Option Frame) → at l.places.items w.frame ≡ o → IsSome o →
          Shows l.places.items w (segment_of (loans_live l) w)
      found None is there = let none : false ≡ true = there in absurd (cc)
      found (Some frame) is there =
          let less : w.frame < length l.places.items = at_within l.places.items w.frame frame is in
          let page : slice_index_or (map page_at l.places.items) w.frame [] ≡ page_of frame
          = get_or-map page_at l.places.items w.frame None [] less ∙ ap page_at is in record {
            frame = frame;
            lies = is;
            within = within;
            bytes =
                ap (λ (xs : List ℕ). take w.len (drop w.from xs))
                (page_shown (slice_index l.counts.items w.frame) _ some ∙ page);
          }

  show_each : (ws : List Window) → ((q : ℕ) → 0 < named q ws → 0 < slice_index l.counts.items q) →
      ((q : ℕ) → reach q ws ≤ PAGE_SIZE) → ShowEach l.places.items ws (map (segment_of (loans_live l)) ws)
  show_each [] live within = tt
  show_each (w ∷ ws) live within = (
    shows w (live w.frame (grind (arith, nat_tests))) (grind (arith, nat_tests, within w.frame)),
    show_each ws (λ q some. live q (grind (arith, nat_tests))) (λ q. grind (arith, nat_tests, within q)),
  )

  module _ (s : Namespace) (owns : Owns (loans_live l) s) where
    show_queue : (number : ℕ) →
        ShowQueue l.places.items (at s.state.pipes number) (at (meaning (loans_live l) s.state).pipes number)
    show_queue number =
        subst (λ o. ShowQueue l.places.items (at s.state.pipes number) o)
        (sym (at-map (pipe_meaning (loans_live l)) s.state.pipes number)) (by (at s.state.pipes number) refl)
      where
        by : (o : Option (Pipe Window)) → at s.state.pipes number ≡ o →
            ShowQueue l.places.items o (option_map (pipe_meaning (loans_live l)) o)
        by None is = tt
        by (Some p) is =
            let stands = stands_at (loans_live l) s.state number p owns.joined is in
            show_each p.queue.segments (λ q some. omega (arith, stands.counted q, some)) stands.within

    counted : (place : ℕ) → slice_index l.counts.items place ≡ windows_on place s
    counted place = sym (owns.joined.counts place) ∙ windows_named place s.state.pipes

    is_owner : IsOwner l s (tenant_of (loans_live l) s)
    is_owner = record {
      held = own_held l;
      counts = counted;
      live = λ place some. l.lent.some place (omega (arith, counted place, some));
      vacant = λ place none. l.lent.none place (counted place ∙ none);
      shown = show_queue;
    }

-- The hub

pub are_owned : {Z : Type 0} {d : Depot} {ts : List (Option (Lodger Z))} {alive : ℕ} {h : Tenants} → IsShared d ts alive →
    hub_of d ts ≡ h → AreOwned h d ts
are_owned {Z} {d} {ts} shared is = subst (λ (x : Tenants). AreOwned x d ts) is (record {
  paired = sym (number_is d ts);
  living = λ n. sym (lives_is d ts n);
  free = refl;
  once = omega (arith, length-append d.free.items (owned ts), all_held ts, shared.all);
  all = sym (frames_are d ts shared);
  slack = sym (slack_is d ts shared);
  owners = λ n t there.
      subst (IsOwner t.loans t.placed.space) (sym (tenant_is d ts n t there))
      (is_owner t.loans t.placed.space (shared.owned n t there));
})
