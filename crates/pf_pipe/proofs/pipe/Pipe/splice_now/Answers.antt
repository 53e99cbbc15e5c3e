use Rattle.std.proofs.Common.{◌≡◌, ◌++◌, refl, sym, ◌∙◌, subst, arith}
use Rattle.pf_machine.specs.Queue.{tee_number}
use Rattle.pf_machine.specs.Progress.{cross_now}
use Rattle.pf_base.specs.declared.progress.Crossing.TheVariants.{Splice}
use Rattle.pf_base.specs.declared.progress.Progress.TheVariants.{Moved}
use Rattle.pf_frame.specs.Live.{Live}
use Rattle.pf_ring.specs.Ring.{queue_of}
use Rattle.pf_ring.specs.Windows.{Stands}
use Rattle.pf_ring.proofs.WindowLaws.{stands_first}
use Rattle.pf_pipe.specs.Pipe.{CountedPipe, Crosses, Goes, GoesIn}
use Rattle.pf_pipe.proofs.PipeCross.{stopped_crosses, moved_crosses}
use Rattle.pf_pipe.proofs.pipe.Pipe.splice_now.Goals as goal

pub returns-in-Some-clause-crosses : goal.returns-in-Some-clause-crosses
returns-in-Some-clause-crosses g c =
    stopped_crosses (g.F.Frames.live c.args.door.now) Splice c.args.self.now c.args.sink.now c.args.n c.in-Some.progress (g.met.F.Frames.sound _ c.requires.door.fact) c.requires.door.stands c.in-Some.ensures.stops

pub returns-clause-crosses : goal.returns-clause-crosses
returns-clause-crosses g c =
    let f : Live = g.F.Frames.live c.args.door.now in
    let after : Live = g.F.Frames.live c.splice_into-number.new.door in
    let source : CountedPipe = record { ring = c.self.inside.ring; owner = c.self.inside.owner; readers = c.self.inside.readers; writers = c.self.inside.writers; opens = record { file = c.self.inside.file; read = c.self.inside.read_opens; write = c.self.inside.write_opens } } in
    let sink : CountedPipe = record { ring = c.sink.inside.ring; owner = c.sink.inside.owner; readers = c.sink.inside.readers; writers = c.sink.inside.writers; opens = record { file = c.sink.inside.file; read = c.sink.inside.read_opens; write = c.sink.inside.write_opens } } in
    let source' : CountedPipe = record { ring = c.splice_into-number.new.self; owner = c.self.inside.owner; readers = c.self.inside.readers; writers = c.self.inside.writers; opens = record { file = c.self.inside.file; read = c.self.inside.read_opens; write = c.self.inside.write_opens } } in
    let sink' : CountedPipe = record { ring = c.splice_into-number.new.sink; owner = c.sink.inside.owner; readers = c.sink.inside.readers; writers = c.sink.inside.writers; opens = record { file = c.sink.inside.file; read = c.sink.inside.read_opens; write = c.sink.inside.write_opens } } in
    let stands : Stands f (source.ring.segments ++ sink.ring.segments) =
    subst (λ (p : CountedPipe). Stands f (p.ring.segments ++ sink.ring.segments)) (sym c.self.view_is) (subst (λ (p : CountedPipe). Stands f (c.args.self.now.ring.segments ++ p.ring.segments)) (sym c.sink.view_is) c.requires.door.stands) in
    let will : Goes source sink c.args.n = subst (λ (p : CountedPipe). Goes p sink c.args.n) (sym c.self.view_is) (subst (λ (p : CountedPipe). Goes c.args.self.now p c.args.n) (sym c.sink.view_is) c.in_default.ensures.goes) in
    let goes : GoesIn f Splice source sink c.args.n = will f Splice (g.met.F.Frames.sound _ c.requires.door.fact) (stands_first f source.ring.segments sink.ring.segments stands) in
    let inner : Crosses source source' sink sink' f after (Moved c.splice_into-number.result) (cross_now Splice (queue_of f source.ring) (queue_of f sink.ring) source.writers sink.readers c.args.n) =
    moved_crosses f after Splice source source' sink sink' c.args.n c.splice_into-number.result goes (record { owner = refl; readers = refl; writers = refl; opens = refl; capacity = c.splice_into-number.ensures.source.capacity; fits = λ _. c.splice_into-number.ensures.source.fits })
    (record { owner = refl; readers = refl; writers = refl; opens = refl; capacity = c.splice_into-number.ensures.sink.put.capacity; fits = λ _. c.splice_into-number.ensures.sink.put.fits })
    c.splice_into-number.ensures.sink.number_is c.splice_into-number.ensures.sink.put.queue c.splice_into-number.ensures.source.queue (c.splice_into-number.ensures.door.frames.moves) in
    subst (λ (q : CountedPipe). Crosses c.args.self.now source' q sink' f after (Moved c.splice_into-number.result) (cross_now Splice (queue_of f c.args.self.now.ring) (queue_of f q.ring) c.args.self.now.writers q.readers c.args.n)) c.sink.view_is (subst (λ (p : CountedPipe). Crosses p source' sink sink' f after (Moved c.splice_into-number.result) (cross_now Splice (queue_of f p.ring) (queue_of f sink.ring) p.writers sink.readers c.args.n)) c.self.view_is inner)

pub returns-clause-untouched : goal.returns-clause-untouched
returns-clause-untouched g c none =
    let f : Live = g.F.Frames.live c.args.door.now in
    let goes : GoesIn f Splice c.args.self.now c.args.sink.now c.args.n = c.in_default.ensures.goes f Splice (g.met.F.Frames.sound _ c.requires.door.fact) (stands_first f c.args.self.now.ring.segments c.args.sink.now.ring.segments c.requires.door.stands) in
    let number : c.splice_into-number.result ≡ tee_number (queue_of f c.args.self.now.ring) (queue_of f c.args.sink.now.ring) c.args.n =
    c.splice_into-number.ensures.sink.number_is ∙ (λ i. tee_number (queue_of f (c.self.view_is i).ring) (queue_of f (c.sink.view_is i).ring) c.args.n) in
    absurd (omega (arith, none, number, goes.some))
