-- The fold over lines, by the place of the first line feed.

use Rattle.std.proofs.Common.{◌≡◌, ℕ, ◌+◌, List, [], ◌∷◌, ◌++◌, take, drop, Some, None, refl, sym, ap, append_assoc, ◌∙◌}
use Rattle.std.proofs.lemmas.List.{append-nil}
use Rattle.std.specs.Prelude.{Ok, Err}
use Rattle.memchr.specs.Find.{IsFirstByte, is_byte}
use Rattle.pf_words.specs.declared.cause.Cause.{Cause}
use Rattle.pf_script.specs.Script.{Draft, line_of, rest_of, lines_from, numbered}
use Rattle.pf_words.specs.Words.{pieces_of}
use Rattle.pf_script.specs.declared.judge.Judge.{Judge}
use Rattle.pf_script.specs.Judged.{told, Judges, IsOneLine}
use Rattle.pf_words.specs.declared.fault.LineFault.{LineFault}
use Rattle.pf_words.specs.declared.fault.LineFault.TheVariants as faults
use Rattle.pf_words.specs.Faults.{Fails}
use Rattle.pf_script.specs.Faults.{Reads, at_line}
use Rattle.pf_words.proofs.CutLaws.{front_before, some_piece}

first_line : (d : Draft) (k : ℕ) (text cs : List ℕ) → lines_from d k (text ∷ pieces_of 10 cs) ≡ numbered k (line_of d text) (λ e. lines_from e (k + 1) (pieces_of 10 cs))
unfolding lines_from
first_line d k text cs = let more = some_piece 10 cs in rw more.2 refl

-- the lines from the front of what is left
at_front : (d : Draft) (k : ℕ) (rest text more : List ℕ) (j : ℕ) → IsFirstByte (is_byte 10) rest (Some j) → text ≡ take j rest →
    lines_from d k (pieces_of 10 (rest ++ more)) ≡ numbered k (line_of d text) (λ e. lines_from e (k + 1) (pieces_of 10 (drop (j + 1) rest ++ more)))
at_front d k rest text more j first is = rw (front_before 10 rest more j first, ← is) (first_line d k text (drop (j + 1) rest ++ more))

-- a line that is taken
pub goes_on : (d e : Draft) (k : ℕ) (rest text more : List ℕ) (j : ℕ) → IsFirstByte (is_byte 10) rest (Some j) → text ≡ take j rest → line_of d text ≡ Ok e →
    lines_from e (k + 1) (pieces_of 10 (drop (j + 1) rest ++ more)) ≡ lines_from d k (pieces_of 10 (rest ++ more))
goes_on d e k rest text more j first is taken = sym (at_front d k rest text more j first is ∙ rw taken refl)

-- a line that is refused
pub fails : (d : Draft) (k : ℕ) (rest text more : List ℕ) (j : ℕ) (cause : Cause) → IsFirstByte (is_byte 10) rest (Some j) → text ≡ take j rest → line_of d text ≡ Err cause →
    Err (record { line = k; cause = cause }) ≡ lines_from d k (pieces_of 10 (rest ++ more))
fails d k rest text more j cause first is refused = sym (at_front d k rest text more j first is ∙ rw refused refl)

last_line : (d : Draft) (k : ℕ) (rest : List ℕ) → IsOneLine rest → lines_from d k (pieces_of 10 rest) ≡ numbered k (rest_of d rest) (λ e. Ok e)
unfolding lines_from
last_line d k rest one = rw one refl

-- what stands behind the last line feed is refused
pub fails_at_end : (d : Draft) (k : ℕ) (rest : List ℕ) (fault : LineFault) → IsOneLine rest → Fails fault (rest_of d rest) →
    Reads (Err (at_line k fault)) (lines_from d k (pieces_of 10 rest))
fails_at_end d k rest faults.NoMemory one refused = tt
fails_at_end d k rest (faults.Refused cause) one refused = last_line d k rest one ∙ rw refused refl

-- nothing stands there
pub ends : (d : Draft) (k : ℕ) (rest : List ℕ) → IsOneLine rest → rest_of d rest ≡ Ok d → lines_from d k (pieces_of 10 rest) ≡ Ok d
ends d k rest one taken = last_line d k rest one ∙ rw taken refl

-- a line more was judged
pub judges_on : (first j : Judge) (d : Draft) (text rest line : List ℕ) (k : ℕ) → IsFirstByte (is_byte 10) rest (Some k) → line ≡ take k rest → line_of j.script line ≡ Ok d →
    j.refusal ≡ None → Judges first text j rest → Judges first text (record { script = d; number = j.number + 1; refusal = j.refusal }) (drop (k + 1) rest)
judges_on first j d text rest line k at_line is taken none so_far = record {
  same = λ more. rw none (goes_on j.script d j.number rest line more k at_line is taken ∙ rw none at so_far.same more);
}

-- a line more was judged, and is faulty
pub judges_fault : (first j : Judge) (d : Draft) (text rest line left : List ℕ) (k : ℕ) (cause : Cause) → IsFirstByte (is_byte 10) rest (Some k) → line ≡ take k rest → line_of j.script line ≡ Err cause →
    j.refusal ≡ None → Judges first text j rest → Judges first text (record { script = d; number = j.number; refusal = Some (record { line = j.number; cause = cause }) }) left
judges_fault first j d text rest line left k cause at_line is refused none so_far = record {
  same = λ more. fails j.script j.number rest line more k cause at_line is refused ∙ rw none at so_far.same more;
}

-- what is judged behind what was
pub judges_more : (first j new : Judge) (bytes rest piece left : List ℕ) → Judges first bytes j rest → Judges j (rest ++ piece) new left → Judges first (bytes ++ piece) new left
judges_more first j new bytes rest piece left h k = record {
  same = λ more. k.same more ∙ (ap (told j) (append_assoc rest piece more) ∙ (h.same (piece ++ more) ∙ ap (told first) (sym (append_assoc bytes piece more))));
}

-- where nothing follows
pub judges_all : (first j : Judge) (bytes rest : List ℕ) → Judges first bytes j rest → told j rest ≡ told first bytes
judges_all first j bytes rest h = ap (told j) (sym (append-nil rest)) ∙ (h.same [] ∙ ap (told first) (append-nil bytes))

-- no byte is one line
pub no_byte : IsOneLine []
unfolding pieces_of
no_byte = refl
