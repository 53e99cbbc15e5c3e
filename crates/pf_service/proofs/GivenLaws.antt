-- One more event and its place.

use Rattle.std.proofs.Common.{◌≡◌, ℕ, ◌<◌, ◌++◌, inl, inr, [], ◌∷◌, List, length, Bool, true, false, nat_eq, slice_index_or, slice_set, Some, None, refl, ap, sym, ◌∙◌, subst, arith, eq-eqb, if◌then◌else◌}
use Rattle.std.specs.List.{slice_get}
use Rattle.std.proofs.lemmas.Bool.{ne_eqb, cases_eq}
use Rattle.std.proofs.lemmas.List.{get_or-set_same, get_or-set_other, append-nil, length-append}
use Rattle.std.proofs.lemmas.List.Elements.{filter-append}
use Rattle.pf_base.specs.declared.step.Step.{Step}
use Rattle.pf_base.specs.declared.step.Reply.{Reply}
use Rattle.pf_service.specs.declared.event.Event.{Event}
use Rattle.pf_service.specs.Merge.{at, event_of, stands}
use Rattle.pf_service.specs.Marks.{IsMarked}

pub at-append : (i : ℕ) (xs ys : List Event) → at i (xs ++ ys) ≡ at i xs ++ at i ys
at-append i xs ys = filter-append (λ (e : Event). nat_eq e.place i) xs ys

-- at its own place an event counts
pub at-own : (e : Event) (rest : List Event) → at e.place (e ∷ rest) ≡ e ∷ at e.place rest
at-own e rest = ap (λ (b : Bool). if b then (e ∷ at e.place rest) else at e.place rest) (eq-eqb e.place e.place refl)

-- at another it doesn't
pub at-other : (i : ℕ) (e : Event) (rest : List Event) → (e.place ≡ i → ⊥) → at i (e ∷ rest) ≡ at i rest
at-other i e rest ne = ap (λ (b : Bool). if b then (e ∷ at i rest) else at i rest) (ne_eqb e.place i ne)

pub at-here : (e : Event) (done rest : List Event) → at e.place (done ++ e ∷ rest) ≡ at e.place done ++ e ∷ at e.place rest
at-here e done rest = at-append e.place done (e ∷ rest) ∙ ap (λ (es : List Event). at e.place done ++ es) (at-own e rest)

-- an event past the transcript's end
pub refused_past : (t : List (Step × Reply)) (e : Event) (done rest : List Event)
    → slice_get t e.place ≡ None → at e.place (done ++ e ∷ rest) ≡ stands t e.place → ⊥
refused_past t e done rest none each =
    let is : at e.place done ++ e ∷ at e.place rest ≡ [] = sym (at-here e done rest) ∙ each ∙ ap (event_of e.place) none in
    let n : length (at e.place done ++ e ∷ at e.place rest) ≡ 0 = ap length is in
    absurd (omega (arith, n, length-append (at e.place done) (e ∷ at e.place rest)))

-- an event whose place has had one
pub refused_twice : (t : List (Step × Reply)) (marks : List Bool) (e : Event) (done rest : List Event) (x : Step × Reply)
    → slice_get t e.place ≡ Some x → slice_index_or marks e.place false ≡ true → IsMarked t marks done
    → at e.place (done ++ e ∷ rest) ≡ stands t e.place → ⊥
refused_twice t marks e done rest x some was marked each =
    let before : at e.place done ≡ event_of e.place (Some x) = marked e.place ∙ ap (λ (b : Bool). if b then stands t e.place else []) was ∙ ap (event_of e.place) some in
    let is : at e.place done ++ e ∷ at e.place rest ≡ event_of e.place (Some x) = sym (at-here e done rest) ∙ each ∙ ap (event_of e.place) some in
    let m : length (at e.place done) ≡ 1 = ap length before in
    let n : length (at e.place done ++ e ∷ at e.place rest) ≡ 1 = ap length is in
    absurd (omega (arith, m, n, length-append (at e.place done) (e ∷ at e.place rest)))

-- an event that isn't what stands there
pub refused_other : (t : List (Step × Reply)) (marks : List Bool) (e : Event) (done rest : List Event) (x : Step × Reply)
    → slice_get t e.place ≡ Some x → slice_index_or marks e.place false ≡ false → (x ≡ (e.step, e.reply) → ⊥) → IsMarked t marks done
    → at e.place (done ++ e ∷ rest) ≡ stands t e.place → ⊥
refused_other t marks e done rest x some was other marked each =
    let before : at e.place done ≡ [] = marked e.place ∙ ap (λ (b : Bool). if b then stands t e.place else []) was in
    let is : e ∷ at e.place rest ≡ event_of e.place (Some x) = sym (ap (λ (es : List Event). es ++ e ∷ at e.place rest) before) ∙ sym (at-here e done rest) ∙ each ∙ ap (event_of e.place) some in
    let y : Event = record { place = e.place; step = x.0; reply = x.1 } in
    let same : y ≡ e = cc in
    other (ap (λ (v : Event). (v.step, v.reply)) same)

pub marked_more : (t : List (Step × Reply)) (marks : List Bool) (e : Event) (done : List Event) (x : Step × Reply)
    → length marks ≡ length t → e.place < length t
    → slice_get t e.place ≡ Some x → slice_index_or marks e.place false ≡ false → x ≡ (e.step, e.reply) → IsMarked t marks done
    → IsMarked t (slice_set marks e.place true) (done ++ e ∷ [])
marked_more t marks e done x len within some was same marked i =
    elim (cases_eq i e.place) [
      | inl here ↦
          let P : ℕ → Type 0 = λ k. at k (done ++ e ∷ []) ≡ (if slice_index_or (slice_set marks e.place true) k false then stands t k else []) in
          subst P (sym here) (
          at-here e done []
          ∙ ap (λ (es : List Event). es ++ e ∷ []) (marked e.place ∙ ap (λ (b : Bool). if b then stands t e.place else []) was)
          ∙ ap (λ (y : Step × Reply). event_of e.place (Some y)) (sym same)
          ∙ ap (event_of e.place) (sym some)
          ∙ ap (λ (b : Bool). if b then stands t e.place else []) (sym (get_or-set_same marks e.place true false (omega arith)))
          )
      | inr away ↦
          at-append i done (e ∷ [])
          ∙ ap (λ (es : List Event). at i done ++ es) (at-other i e [] (λ h. away (sym h)))
          ∙ append-nil (at i done)
          ∙ marked i
          ∙ ap (λ (b : Bool). if b then stands t i else []) (sym (get_or-set_other marks e.place i true false away))
    ]
