-- The first faulty line of a script decides.

use Rattle.std.proofs.Common.{◌≡◌, ℕ, ◌+◌, List, [], ◌∷◌, ◌++◌, length, Ok, Err, refl, arith, ◌∙◌}
use Rattle.pf_words.specs.declared.cause.Cause.{Cause}
use Rattle.pf_script.specs.Script.{Draft, piece_of, line_of, lines_from, FirstFaultDecides}

-- a piece with a fault ends the fold
here : (after : List (List ℕ)) (text : List ℕ) (d : Draft) (k : ℕ) (cause : Cause) → piece_of d text after ≡ Err cause → lines_from d k (text ∷ after) ≡ Err (record { line = k; cause = cause })
unfolding lines_from
here [] text d k cause is = rw is refl
here (next ∷ texts) text d k cause is = rw is refl

-- a line with none hands on to the next
on : (text : List ℕ) (next : List ℕ) (texts : List (List ℕ)) (d e : Draft) (k : ℕ) → line_of d text ≡ Ok e → lines_from d k (text ∷ next ∷ texts) ≡ lines_from e (k + 1) (next ∷ texts)
unfolding lines_from
on text next texts d e k is = rw is refl

on_to : (before after : List (List ℕ)) (line text : List ℕ) (d e : Draft) (k : ℕ) → line_of d line ≡ Ok e → lines_from d k (line ∷ (before ++ text ∷ after)) ≡ lines_from e (k + 1) (before ++ text ∷ after)
on_to [] after line text d e k is = on line text after d e k is
on_to (next ∷ before) after line text d e k is = on line next (before ++ text ∷ after) d e k is

pub first_fault : FirstFaultDecides
first_fault [] after text d e k cause leads is =
    let same : k + 0 ≡ k = omega arith in
    rw (leads, same) (here after text e k cause is)
first_fault (line ∷ before) after text d e k cause leads is =
    let same : k + 1 + length before ≡ k + length (line ∷ before) = omega arith in
    on_to before after line text d leads.0 k leads.1 ∙ (first_fault before after text leads.0 e (k + 1) cause leads.2 is ∙ rw same refl)
