-- What the loops over a ring's windows keep.

use Rattle.std.proofs.Common.{◌≡◌, ℕ, zero, suc, ◌+◌, ◌-◌, ◌*◌, ◌<◌, ◌≤◌, min, List, [], ◌∷◌, ◌++◌, length, take, drop, get_or, refl, sym, ◌∙◌, ap, subst, inl, inr, append_assoc, arith}
use Rattle.std.proofs.lemmas.Bool.{cases_lt}
use Rattle.std.proofs.lemmas.List.{append-nil, take-append-le, take_min, drop_min, length-take, length-drop}
use Rattle.pf_base.specs.declared.TheConstants.{PAGE_SIZE}
use Rattle.pf_machine.specs.Queue.{Segment, joined, pieces, without_front}
use Rattle.pf_machine.proofs.QueueLaws.{joined-without_front}
use Rattle.pf_frame.specs.Live.{Live, IsSound}
use Rattle.pf_ring.specs.declared.ring.Window.{Window}
use Rattle.pf_ring.specs.Ring.{Ring, segment_of, shown}
use Rattle.pf_ring.specs.Calls.{Gives}
use Rattle.pf_ring.specs.Steps.{Puts, Cut}
use Rattle.pf_ring.specs.Windows.{bytes_in, Stands, Drops}
use Rattle.pf_ring.proofs.WindowLaws.{segments_length, window_whole, keeps_stands, keeps_then, behind_then, drops_keep, drops_then, drops_nothing}
use Rattle.pf_ring.proofs.Changes.{First, is_first}
use Rattle.pf_ring.proofs.Queues.{without_more, without_rest, pieces_step, pieces_none}
use Rattle.pf_ring.proofs.Segments.{without_none}

nil_take : (n : ℕ) → take n (let e : List ℕ = [] in e) ≡ []
nil_take zero = refl
nil_take (suc n) = refl

-- the first a + b of a list
pub take_both : (a b : ℕ) (xs : List ℕ) → take a xs ++ take b (drop a xs) ≡ take (a + b) xs
take_both zero b xs = let e : b ≡ 0 + b = omega arith in ap (λ (n : ℕ). take n xs) e
take_both (suc a) b [] = nil_take b ∙ sym (nil_take (suc a + b))
take_both (suc a) b (x ∷ xs) = let e : suc (a + b) ≡ suc a + b = omega arith in ap (λ (l : List ℕ). x ∷ l) (take_both a b xs) ∙ ap (λ (n : ℕ). take n (x ∷ xs)) e

-- bytes have gone from the front, and then more
pub cut_nothing : (f : Live) (ws : List Window) → IsSound f → Stands f ws → Cut 0 ws ws f f
cut_nothing f ws sound s = record { drops = drops_nothing f ws s.some; segments = sym (without_none f ws sound s); bytes = omega arith }

pub cut_then : (f g h : Live) (old mid new : List Window) (m n : ℕ) → Cut m old mid f g → Cut n mid new g h → Cut (m + n) old new f h
cut_then f g h old mid new m n c d = record {
  drops = drops_then f g h old mid new c.drops d.drops;
  segments = d.segments ∙ (ap (without_front n) c.segments ∙ without_more m n (shown f old));
  bytes = omega (arith, c.bytes, d.bytes);
}

pub drops_stands : (f g : Live) (old new : List Window) → Stands f old → Drops old new f g → Stands g new
drops_stands f g old new s d = keeps_stands f g [] old new s (drops_keep f g old new s d)

-- bytes of the first window are the first of all
pub part_of : (f : Live) (ws : List Window) (w : Window) (most : ℕ) (part : List ℕ) → IsSound f → Stands f ws → 0 < length ws
    → w ≡ get_or ws 0 w → 0 < most → part ≡ take most (segment_of f w).bytes
    → (0 < length part) × (length part ≤ most) × (part ≡ take (length part) (joined (shown f ws)))
part_of f ws w most part sound stands some here any p =
    let first : First f ws w = is_first f ws w sound stands some here in
    let own : List ℕ = (segment_of f w).bytes in
    let rest : List ℕ = joined (shown f (drop 1 ws)) in
    let size : length own ≡ w.len = window_whole f w (drop 1 ws) sound first.stands in
    let number : length part ≡ min most (length own) = ap length p ∙ length-take most own in
    let least : take most own ≡ take (length part) own = sym (take_min most own) ∙ ap (λ (k : ℕ). take k own) (sym number) in
    let all : take (length part) own ≡ take (length part) (own ++ rest) = sym (take-append-le (length part) own rest (omega (arith, number))) in (
      omega (arith, number, size, first.stands.some.0),
      omega (arith, number),
      p ∙ least ∙ all ∙ ap (λ (v : List Window). take (length part) (joined (shown f v))) (sym first.split),
    )

-- bytes that were taken, and then more of what was left
pub taken_then : (f g : Live) (old mid : List Window) (m n : ℕ) (before out after : List ℕ) → Cut m old mid f g → out ≡ before ++ take m (joined (shown f old))
    → after ≡ out ++ take n (joined (shown g mid)) → after ≡ before ++ take (m + n) (joined (shown f old))
taken_then f g old mid m n before out after c first then =
    let all : List ℕ = joined (shown f old) in
    let left : joined (shown g mid) ≡ drop m all = ap joined c.segments ∙ joined-without_front m (shown f old) in
    then ∙ ((λ i. first i ++ take n (left i)) ∙ (append_assoc before (take m all) (take n (drop m all)) ∙ ap (λ (b : List ℕ). before ++ b) (take_both m n all)))

-- the least of what there is and what may go is what goes
pub taken_all : (f : Live) (ws : List Window) (most n : ℕ) → IsSound f → Stands f ws → n ≡ min (bytes_in ws) most
    → take n (joined (shown f ws)) ≡ take most (joined (shown f ws))
taken_all f ws most n sound s e =
    let least : n ≡ min most (length (joined (shown f ws))) = omega (arith, e, segments_length f ws sound s) in
    ap (λ (k : ℕ). take k (joined (shown f ws))) least ∙ take_min most (joined (shown f ws))

-- and the ring of these slots and windows gives them
pub gives : (f g : Live) (slots : ℕ) (ws new : List Window) (old : Ring) (most n : ℕ)
    → record { capacity = slots; segments = ws } ≡ old → IsSound f → Stands f old.segments → length ws ≤ slots
    → n ≡ min (bytes_in old.segments) most → Cut n ws new f g
    → Gives f g old (record { capacity = slots; segments = new }) most n
gives f g slots ws new old most n is sound s few e cut =
    let c : Cut n old.segments new f g = subst (λ (r : Ring). Cut n r.segments new f g) is cut in
    let before : List Segment = shown f old.segments in
    let all : length (joined before) ≡ bytes_in old.segments = segments_length f old.segments sound s in
    let left : shown g new ≡ without_front most before = elim (cases_lt n most) [
      | inl l ↦ c.segments ∙ (without_rest n before (omega (arith, e, l, all))
          ∙ sym (without_rest most before (omega (arith, e, l, all))))
      | inr g ↦ c.segments ∙ ap (λ (k : ℕ). without_front k before) (omega (arith, e, g))
    ] in
    let same : slots ≡ old.capacity = ap (λ (r : Ring). r.capacity) is in
    record {
      number_is = omega (arith, e, all, length-take most (joined before));
      left = record {
        capacity = same;
        fits = omega (arith, cut.drops.used, few);
        queue = λ i. record { capacity = same i; segments = left i };
      };
    }

-- bytes put at the end of windows, and then more in windows of their own
pub puts_then : (f g h : Live) (behind old mid new : List Window) (m n : ℕ) → Puts m behind old mid f g → Puts n [] mid new g h → Puts (m + n) behind old new f h
puts_then f g h behind old mid new m n p r = record {
  keeps = keeps_then f g h [] old mid new p.more p.keeps r.keeps;
  puts_behind = behind_then f g h behind m n p.puts_behind p.more r.puts_behind;
  more = λ q. omega (arith, p.more q, r.more q);
  takes = omega (arith, p.takes, r.takes);
  bytes = omega (arith, p.bytes, r.bytes);
}

-- an append that has come so far, with these bytes left; target: the segments after it
pub record Appending (f0 f : Live) (ws0 ws : List Window) (slots used : ℕ) (target : List Segment) (x rest : List ℕ) : Type 0 where
  pub number : length ws ≡ used
  pub done : ℕ
  pub split : done + length rest ≡ length x
  pub puts : Puts done ws0 ws0 ws f0 f
  pub segments : shown f ws ++ pieces (slots - used) rest ≡ target
  pub room : length rest ≤ PAGE_SIZE * (slots - used)

pub appending_more : (f0 f g : Live) (ws0 ws new : List Window) (slots used m : ℕ) (target : List Segment) (x rest piece left : List ℕ) → Appending f0 f ws0 ws slots used target x rest
    → used < slots → 0 < length rest → m ≡ min (length rest) PAGE_SIZE → piece ≡ take m rest → left ≡ drop m rest → length new ≡ used + 1
    → shown g new ≡ shown f ws ++ record { bytes = piece; room = PAGE_SIZE - length piece } ∷ [] → Puts (length piece) [] ws new f g
    → Appending f0 g ws0 new slots (used + 1) target x left
appending_more f0 f g ws0 ws new slots used m target x rest piece left a free some least front back one segs p =
    let size : length piece ≡ m = ap (λ (b : List ℕ). length b) front ∙ omega (arith, length-take m rest, least) in
    let gone : length left ≡ length rest - m = ap (λ (b : List ℕ). length b) back ∙ length-drop m rest in
    let swap : m ≡ min PAGE_SIZE (length rest) = omega arith in
    let bytes : piece ≡ take PAGE_SIZE rest = front ∙ (ap (λ (n : ℕ). take n rest) swap ∙ take_min PAGE_SIZE rest) in
    let after : left ≡ drop PAGE_SIZE rest = back ∙ (ap (λ (n : ℕ). drop n rest) swap ∙ drop_min PAGE_SIZE rest) in
    let room : PAGE_SIZE - length piece ≡ PAGE_SIZE - length rest = omega (arith, size, least) in
    let next : slots - (used + 1) ≡ slots - used - 1 = omega arith in
    let step : pieces (slots - used) rest ≡ record { bytes = take PAGE_SIZE rest; room = PAGE_SIZE - length rest } ∷ pieces (slots - used - 1) (drop PAGE_SIZE rest) = pieces_step (slots - used) rest (omega arith) some in
    let now : record { bytes = piece; room = PAGE_SIZE - length piece } ∷ pieces (slots - (used + 1)) left ≡ pieces (slots - used) rest =
    (λ i. record { bytes = bytes i; room = room i } ∷ pieces (next i) (after i)) ∙ sym step in
    record {
      number = one;
      done = a.done + length piece;
      split = omega (arith, a.split, size, gone, least);
      puts = puts_then f0 f g ws0 ws0 ws new a.done (length piece) a.puts p;
      segments = ap (λ (s : List Segment). s ++ pieces (slots - (used + 1)) left) segs
          ∙ (append_assoc (shown f ws) (record { bytes = piece; room = PAGE_SIZE - length piece } ∷ []) (pieces (slots - (used + 1)) left)
          ∙ (ap (λ (s : List Segment). shown f ws ++ s) now ∙ a.segments));
      room = omega (arith, a.room, gone, least);
    }

-- and one that has come to its end
pub appending_end : (f0 f : Live) (ws0 ws : List Window) (slots used : ℕ) (target : List Segment) (x rest : List ℕ) → Appending f0 f ws0 ws slots used target x rest
    → length rest ≡ 0 → (shown f ws ≡ target) × Puts (length x) ws0 ws0 ws f0 f
appending_end f0 f ws0 ws slots used target x rest a none = (
  sym (append-nil (shown f ws)) ∙ (ap (λ (s : List Segment). shown f ws ++ s) (sym (pieces_none (slots - used) rest none)) ∙ a.segments),
  subst (λ (n : ℕ). Puts n ws0 ws0 ws f0 f) (omega (arith, a.split, none)) a.puts,
)
