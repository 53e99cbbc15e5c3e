-- A tee or a splice whose tests let it go on moves a byte at least.

use Rattle.std.proofs.Common.{◌≡◌, ℕ, ◌-◌, ◌<◌, Bool, false, List, [], ◌∷◌, ◌++◌, length, take, if◌then◌else◌, nat_eq, refl, sym, ◌∙◌, ap, arith}
use Rattle.std.proofs.lemmas.Bool.Decides.{nat_tests}
use Rattle.std.proofs.lemmas.List.{length-map, length-take, length-append}
use Rattle.std.specs.Prelude.{◌&&◌, ◌||◌}
use Rattle.pf_machine.specs.Queue.{Segment, Queue, bytes_of, free_of, joined, copied, tee_number, after_tee}
use Rattle.pf_machine.specs.Progress.{Crossed, source_after, cross_now}
use Rattle.pf_base.specs.declared.progress.Crossing.{Crossing}
use Rattle.pf_base.specs.declared.progress.Progress.{Progress}
use Rattle.pf_base.specs.declared.progress.Progress.TheVariants.{Moved, WouldBlock, EndOfFile, NoReader}
use Rattle.pf_frame.specs.Live.{Live, IsSound}
use Rattle.pf_ring.specs.declared.ring.Window.{Window}
use Rattle.pf_ring.specs.Ring.{segment_of, shown, queue_of}
use Rattle.pf_ring.specs.Windows.{bytes_in, Stands, Keeps, Moves}
use Rattle.pf_ring.proofs.WindowLaws.{window_whole, segments_length, stands_first, stands_second, both_stand, keeps_same}
use Rattle.pf_ring.proofs.Queues.{copied_step}
use Rattle.pf_pipe.specs.Pipe.{CountedPipe, SameButWindows, Crosses, Stops, Goes, GoesIn}

some_test : (n : ℕ) → 0 < n → nat_eq n 0 ≡ false
some_test n e = grind (arith, nat_tests)

-- the tests of the machine's definition, given as values
abbrev tests : Bool → Bool → Bool → Bool → Bool → Crossing → Queue → Queue → ℕ → Crossed
tests none unread ended empty full c source sink n =
    if none then record { progress = Moved 0; source = source; sink = sink }
    else if unread then record { progress = NoReader; source = source; sink = sink }
    else if empty && ended then record { progress = EndOfFile; source = source; sink = sink }
    else if empty || full then record { progress = WouldBlock; source = source; sink = sink }
    else record { progress = Moved (tee_number source sink n); source = source_after c source sink n; sink = after_tee source sink n }

-- a byte goes where there is one, and a slot for it
tee_some : (f : Live) (ws : List Window) (k n : ℕ) → IsSound f → Stands f ws → 0 < bytes_in ws → 0 < k → 0 < n → 0 < length (joined (copied k n (shown f ws)))
tee_some f [] k n sound s some free any = absurd (omega (arith, some))
tee_some f (w ∷ ws) k n sound s some free any =
    let own : Segment = segment_of f w in
    let size : length own.bytes ≡ w.len = window_whole f w ws sound s in
    let rest : List Segment = copied (k - 1) (n - length own.bytes) (shown f ws) in
    let step : joined (copied k n (shown f (w ∷ ws))) ≡ take n own.bytes ++ joined rest = ap joined (copied_step k n own (shown f ws) free any) in
    omega (arith, ap (λ (b : List ℕ). length b) step, length-append (take n own.bytes) (joined rest), length-take n own.bytes, size, s.some.0, any)

module _ (source sink : CountedPipe) (n : ℕ) where
  bytes_are : (f : Live) → IsSound f → Stands f source.ring.segments → length (bytes_of (queue_of f source.ring)) ≡ bytes_in source.ring.segments
  bytes_are f sound s = segments_length f source.ring.segments sound s

  free_is : (f : Live) → free_of (queue_of f sink.ring) ≡ sink.ring.capacity - length sink.ring.segments
  free_is f = omega (arith, length-map sink.ring.segments (segment_of f))

  pub goes : 0 < n → 0 < sink.readers → 0 < bytes_in source.ring.segments → length sink.ring.segments < sink.ring.capacity → Goes source sink n
  goes any read some free f c sound s = record {
    some = tee_some f source.ring.segments (free_of (queue_of f sink.ring)) n sound s some (omega (arith, free_is f, free)) any;
    machine = λ i. tests (some_test n any i) (some_test sink.readers read i) (nat_eq source.writers 0) (some_test (length (bytes_of (queue_of f source.ring))) (omega (arith, bytes_are f sound s, some)) i)
        (some_test (free_of (queue_of f sink.ring)) (omega (arith, free_is f, free)) i) c (queue_of f source.ring) (queue_of f sink.ring) n;
  }

-- nothing goes, and nothing has changed
pub stopped_crosses : (f : Live) (c : Crossing) (source sink : CountedPipe) (n : ℕ) (progress : Progress) → IsSound f → Stands f (source.ring.segments ++ sink.ring.segments) → Stops source sink n progress
    → Crosses source source sink sink f f progress (cross_now c (queue_of f source.ring) (queue_of f sink.ring) source.writers sink.readers n)
stopped_crosses f c source sink n progress sound s stops =
    let here : Stands f source.ring.segments = stands_first f source.ring.segments sink.ring.segments s in
    record {
      told = stops f c sound here;
      source_is = record { owner = refl; readers = refl; writers = refl; opens = refl; capacity = refl; fits = λ h. h };
      sink_is = record { owner = refl; readers = refl; writers = refl; opens = refl; capacity = refl; fits = λ h. h };
      moves = record { between = f; copied = keeps_same f source.ring.segments sink.ring.segments (stands_second f source.ring.segments sink.ring.segments s); dropped = keeps_same f [] source.ring.segments here };
    }

-- some bytes go
pub moved_crosses : (f g : Live) (c : Crossing) (source source' sink sink' : CountedPipe) (n m : ℕ) → GoesIn f c source sink n → SameButWindows source source' → SameButWindows sink sink'
    → m ≡ tee_number (queue_of f source.ring) (queue_of f sink.ring) n → queue_of g sink'.ring ≡ after_tee (queue_of f source.ring) (queue_of f sink.ring) n
    → queue_of g source'.ring ≡ source_after c (queue_of f source.ring) (queue_of f sink.ring) n → Moves source.ring.segments source'.ring.segments sink.ring.segments sink'.ring.segments f g
    → Crosses source source' sink sink' f g (Moved m) (cross_now c (queue_of f source.ring) (queue_of f sink.ring) source.writers sink.readers n)
moved_crosses f g c source source' sink sink' n m will source_is sink_is number put left moves = record {
  told = will.machine ∙ sym (λ i. record { progress = Moved (number i); source = left i; sink = put i });
  source_is = source_is;
  sink_is = sink_is;
  moves = moves;
}

-- a tee leaves its source
pub tee_moves : (f g : Live) (source old new : List Window) → Stands f (source ++ old) → Keeps source old new f g → Moves source source old new f g
tee_moves f g source old new s k = record { between = g; copied = k; dropped = keeps_same g [] source (stands_first g source new (both_stand f g source old new s k)) }
