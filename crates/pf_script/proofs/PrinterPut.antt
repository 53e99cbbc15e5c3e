-- One text after another.

use Rattle.std.proofs.Common.{◌≡◌, ℕ, List, [], ◌++◌, Bool, true, false, refl, ap, append_assoc, length-append, sym, ◌∙◌, arith, rules, subst}
use Rattle.std.specs.Prelude.{Result, Ok, Err, OnOk, OnErr}
use Rattle.std.proofs.lemmas.List.{append-nil}
use Rattle.std.specs.Io.KnownBytes.{Appends}
use Rattle.pf_script.specs.Ports.{Output, IsWritten, IsCut, one_more}
use Rattle.pf_script.specs.Puts.{Queued, Puts, PutsBy, Passes, EndsBy, FailsBy}
use Rattle.pf_script.proofs.Streams.{appends_more}

-- a text that broke off, with more behind it
pub cut_more : (old new : Output) (x y : List ℕ) → IsCut old new x → IsCut old new (x ++ y)
cut_more old new x y cut = (
  cut.0,
  cut.1 ++ y,
  cut.2,
  sym (append_assoc cut.0 cut.1 y) ∙ ap (λ t. t ++ y) cut.3,
  omega (arith, length-append cut.1 y, cut.4),
  cut.5,
)

-- what was passed on, and then a text that broke off
passes_cut : (a b c : Output) (w v x y : List ℕ) → Passes a w b v x → IsCut b c (v ++ y) → IsCut a c (w ++ (x ++ y))
passes_cut a b c w v x y p cut = (
  p.0 ++ cut.0,
  cut.1,
  appends_more a.contents b.contents c.contents p.0 cut.0 p.1 cut.2,
  append_assoc p.0 cut.0 cut.1 ∙ (ap (λ t. p.0 ++ t) cut.3 ∙ (sym (append_assoc p.0 v y) ∙ (ap (λ t. t ++ y) p.2 ∙ append_assoc w x y))),
  cut.4,
  cut.5 ∙ ap one_more p.3,
)

passes_on : (a b c : Output) (w v u x y : List ℕ) → Passes a w b v x → Passes b v c u y → Passes a w c u (x ++ y)
passes_on a b c w v u x y p q = (
  p.0 ++ q.0,
  appends_more a.contents b.contents c.contents p.0 q.0 p.1 q.1,
  append_assoc p.0 q.0 u ∙ (ap (λ t. p.0 ++ t) q.2 ∙ (sym (append_assoc p.0 v y) ∙ (ap (λ t. t ++ y) p.2 ∙ append_assoc w x y))),
  q.3 ∙ p.3,
)

both : (f g h : Bool) (a b c : Output) (w v u x y : List ℕ) → PutsBy f g a w b v x → PutsBy g h b v c u y → PutsBy f h a w c u (x ++ y)
both true true true a b c w v u x y p q = q ∙ p
both true true false a b c w v u x y p q = absurd q
both true false h a b c w v u x y p q = absurd p
both false true true a b c w v u x y p q = rw q (subst (λ t. IsCut a b t) (append_assoc w x y) (cut_more a b (w ++ x) y p))
both false true false a b c w v u x y p q = absurd q
both false false true a b c w v u x y p q = passes_cut a b c w v x y p q
both false false false a b c w v u x y p q = passes_on a b c w v u x y p q

pub put_more : {a b c : Output} {p q r : Queued} {x y : List ℕ} → Puts a p b q x → Puts b q c r y → Puts a p c r (x ++ y)
put_more {a} {b} {c} {p} {q} {r} {x} {y} h k = record { by = both p.failed q.failed r.failed a b c p.waiting q.waiting r.waiting x y h.by k.by }

failed_by : (f g : Bool) (a b : Output) (w v x y : List ℕ) → g ≡ true → PutsBy f g a w b v x → PutsBy f g a w b v (x ++ y)
failed_by true true a b w v x y is p = p
failed_by true false a b w v x y is p = absurd p
failed_by false true a b w v x y is p = subst (λ t. IsCut a b t) (append_assoc w x y) (cut_more a b (w ++ x) y p)
failed_by false false a b w v x y is p = absurd (cc)

-- after a write that was refused any text may follow
pub failed_on : {a b : Output} {p q : Queued} {x : List ℕ} (y : List ℕ) → q.failed ≡ true → Puts a p b q x → Puts a p b q (x ++ y)
failed_on {a} {b} {p} {q} {x} y is h = record { by = failed_by p.failed q.failed a b p.waiting q.waiting x y is h.by }

-- nothing was put
pub nothing : (a : Output) (p : Queued) → Puts a p a p []
nothing a p = record { by = by p.failed }
  where
    by : (f : Bool) → PutsBy f f a p.waiting a p.waiting []
    by true = refl
    by false = ([], search rules, sym (append-nil p.waiting), refl)

ended_by : (g : Bool) (a b c : Output) (v x : List ℕ) → PutsBy false g a [] b v x → EndsBy g b v c → IsWritten a c x
ended_by true a b c v x p e = absurd e
ended_by false a b c v x p e = (subst (λ t. Appends a.contents c.contents t) p.2 (appends_more a.contents b.contents c.contents p.0 v p.1 e.0), e.1 ∙ p.3)

-- a text was put, and then all that waited was written
pub ended : {a b : Output} {q : Queued} {x : List ℕ} (c : Output) → Puts a (record { waiting = []; failed = false }) b q x → EndsBy q.failed b q.waiting c → IsWritten a c x
ended {a} {b} {q} {x} c h e = ended_by q.failed a b c q.waiting x h.by e

cut_by : (g : Bool) (a b c : Output) (v x : List ℕ) → PutsBy false g a [] b v x → FailsBy g b v c → IsCut a c x
cut_by true a b c v x p e = rw e p
cut_by false a b c v x p e =
    subst (λ t. IsCut a c t) (append-nil x) (passes_cut a b c [] v x [] p (subst (λ t. IsCut b c t) (sym (append-nil v)) e))

-- or a write of it was refused
pub cut_off : {a b : Output} {q : Queued} {x : List ℕ} (c : Output) → Puts a (record { waiting = []; failed = false }) b q x → FailsBy q.failed b q.waiting c → IsCut a c x
cut_off {a} {b} {q} {x} c h e = cut_by q.failed a b c q.waiting x h.by e

-- the same by what a printer's end answers
pub ended_well : {T E : Type 0} {a b : Output} {q : Queued} {x : List ℕ} (r : Result T E) (c : Output) →
    Puts a (record { waiting = []; failed = false }) b q x → OnOk r (EndsBy q.failed b q.waiting c) →
    OnOk r (IsWritten a c x)
ended_well (Ok u) c h ends = ended c h ends
ended_well (Err e) c h ends = tt

pub cut_off_by : {T E : Type 0} {a b : Output} {q : Queued} {x : List ℕ} (r : Result T E) (c : Output) →
    Puts a (record { waiting = []; failed = false }) b q x → OnErr r (FailsBy q.failed b q.waiting c) →
    OnErr r (IsCut a c x)
cut_off_by (Ok u) c h fails = tt
cut_off_by (Err e) c h fails = cut_off c h fails
