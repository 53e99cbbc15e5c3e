-- One namespace more, whose replies are the lone machine's.
use Rattle.std.proofs.Common.{rules, ◌≡◌, ◌∷◌, [], List, length, length-append, sym, ◌∙◌, ap, subst, ℕ, arith}
use Rattle.std.specs.Prelude.{All}
use Rattle.std.specs.Vec.{vec_len}
use Rattle.std.proofs.lemmas.List.Elements.{All-nil, All-push}
use Rattle.pf_service.specs.Transcripts.{OneTranscript, IsLone}
use Rattle.pf_service.proofs.place.parts_of.Goals as goal

pub loop-place-init : goal.loop-place-init
loop-place-init g c =
    let all = ap length c.into_iter-place-iterator.ensures.into_iter_gives.0 in
    let counted : vec_len c.args.places ≡ length c.args.places.items = search rules in
    record {
      each = omega (arith, all, ap (λ (ts : List OneTranscript). length ts) c.in_ok-transcripts.ensures.items);
      all = omega (arith, all, ap (λ (ns : List ℕ). length ns) c.in_ok-given.ensures.items);
      alone = subst (All IsLone) (sym c.in_ok-transcripts.ensures.items) (All-nil IsLone);
      room = c.in_ok-transcripts.ensures.exact ∙ c.len.ensures ∙ counted;
      space = c.in_ok-given.ensures.exact ∙ c.len-2.ensures ∙ counted;
    }

pub loop-place-preserved : goal.loop-place-preserved
loop-place-preserved g c =
    let left = ap length c.in-Some.ensures.steps.0 in
    record {
      each = omega (
        arith,
        left,
        c.loop-place.invariant.each,
        ap (λ (ts : List OneTranscript). length ts) c.push_reserved.ensures.items,
        length-append c.loop-place.transcripts.items (c.into_parts-transcript.result.0 ∷ []),
      );
      all = omega (
        arith,
        left,
        c.loop-place.invariant.all,
        ap (λ (ns : List ℕ). length ns) c.push_reserved-in-loop-place.ensures.items,
        length-append c.loop-place.given.items (c.into_parts-transcript.result.1 ∷ []),
      );
      alone = subst (All IsLone) (sym c.push_reserved.ensures.items)
          (All-push IsLone c.loop-place.transcripts.items c.into_parts-transcript.result.0 c.loop-place.invariant.alone c.into_parts-transcript.ensures.alone);
      room = c.push_reserved.ensures.capacity ∙ c.loop-place.invariant.room;
      space = c.push_reserved-in-loop-place.ensures.capacity ∙ c.loop-place.invariant.space;
    }
