-- Texts that are joined, and cut again.

use Rattle.std.proofs.Common.{◌≡◌, ℕ, ◌<◌, List, [], ◌∷◌, ◌++◌, length, refl, ap, arith, ◌∙◌}
use Rattle.std.specs.Prelude.{Bool, true, false, not, ◌==◌, ◌&&◌}
use Rattle.std.specs.List.{list_all, AllByRecursion}
use Rattle.std.proofs.lemmas.List.Folds.{list_all-append}
use Rattle.pf_words.specs.Words.{pieces_of}
use Rattle.pf_words.specs.Spelling.{joined}

-- no byte of a text cuts it
abbrev pub lacks : ℕ → List ℕ → Bool
lacks cut text = list_all (λ c. not (c == cut)) text

abbrev pub Lacks : ℕ → List ℕ → Type 0
Lacks cut text = lacks cut text ≡ true

-- both parts of a test
pub both : (a b : Bool) → (a && b) ≡ true → (a ≡ true) × (b ≡ true)
both true b is = (refl, is)
both false b is = absurd (cc)

pub is_not : (b : Bool) → not b ≡ true → b ≡ false
is_not true is = absurd (cc)
is_not false is = refl

same_cuts : (cut : ℕ) → (cut == cut) ≡ true
same_cuts cut = grind arith

-- the piece before a cut
pub piece_before : (cut : ℕ) (text rest : List ℕ) → Lacks cut text →
    pieces_of cut (text ++ cut ∷ rest) ≡ text ∷ pieces_of cut rest
unfolding pieces_of
piece_before cut [] rest lacks = rw (same_cuts cut) refl
piece_before cut (c ∷ cs) rest lacks =
    let parts = both (not (c == cut)) (list_all (λ c. not (c == cut)) cs) lacks in
    rw (is_not (c == cut) parts.0, piece_before cut cs rest parts.1) refl

-- a text with no cut is one piece
pub one_piece : (cut : ℕ) (text : List ℕ) → Lacks cut text → pieces_of cut text ≡ text ∷ []
unfolding pieces_of
one_piece cut [] lacks = refl
one_piece cut (c ∷ cs) lacks =
    let parts = both (not (c == cut)) (list_all (λ c. not (c == cut)) cs) lacks in
    rw (is_not (c == cut) parts.0, one_piece cut cs parts.1) refl

-- texts that are joined are cut again into these texts
pub cut_again : (cut : ℕ) (text : List ℕ) (texts : List (List ℕ)) → AllByRecursion (Lacks cut) (text ∷ texts) →
    pieces_of cut (joined cut (text ∷ texts)) ≡ text ∷ texts
unfolding joined
cut_again cut text [] all = one_piece cut text all.0
cut_again cut text (next ∷ texts) all =
    piece_before cut text (joined cut (next ∷ texts)) all.0
    ∙ ap (λ pieces. text ∷ pieces) (cut_again cut next texts all.1)

-- a test that each text's bytes pass, and what stands between them
pub joined_passes : (p : ℕ → Bool) (between : ℕ) (texts : List (List ℕ)) → p between ≡ true →
    AllByRecursion (λ text. list_all p text ≡ true) texts → list_all p (joined between texts) ≡ true
unfolding joined
joined_passes p between [] passes all = refl
joined_passes p between (text ∷ []) passes all = all.0
joined_passes p between (text ∷ next ∷ texts) passes all =
    list_all-append p text (between ∷ joined between (next ∷ texts))
    ∙ rw (all.0, passes, joined_passes p between (next ∷ texts) passes all.1) refl

-- what is joined has bytes where the first text has
pub joined_some : (between : ℕ) (text : List ℕ) (texts : List (List ℕ)) → 0 < length text →
    0 < length (joined between (text ∷ texts))
unfolding joined
joined_some between text [] some = some
joined_some between [] (next ∷ texts) some = absurd (omega arith)
joined_some between (c ∷ cs) (next ∷ texts) some = omega arith

-- a test that follows from another
pub passes_too : (p q : ℕ → Bool) → ((c : ℕ) → p c ≡ true → q c ≡ true) → (text : List ℕ) → list_all p text ≡ true →
    list_all q text ≡ true
passes_too p q follows [] all = refl
passes_too p q follows (c ∷ cs) all =
    let parts = both (p c) (list_all p cs) all in
    rw (follows c parts.0, passes_too p q follows cs parts.1) refl
