-- What a script says: the fold of its lines, of which the first faulty one decides.

use Rattle.std.specs.Prelude.{ℕ, ◌+◌, ◌≡◌, Bool, true, not, ◌==◌, nat_le, nat_lt, List, [], ◌∷◌, ◌++◌, length, codes, bytes_eq, sum_by, Option, Some, None, is_some, Result, Ok, Err, if◌then◌else◌}
use Rattle.std.specs.List.{list_any, position_from}
use Rattle.pf_base.specs.declared.TheConstants.{MAX_NAMESPACES, MAX_FRAMES, MAX_RESERVE}
use Rattle.pf_base.specs.declared.config.TheConstants.Config.{DEFAULT_SOFT, DEFAULT_HARD, DEFAULT_MAX}
use Rattle.pf_base.specs.declared.config.ConfigFault.{ConfigFault}
use Rattle.pf_words.specs.declared.cause.Cause.{Cause}
use Rattle.pf_words.specs.declared.cause.Cause.TheVariants as causes
use Rattle.pf_script.specs.declared.refusal.Refusal.{Refusal}
use Rattle.pf_script.specs.declared.line.Line.{Line}
use Rattle.pf_script.specs.declared.line.Line.TheVariants as lines
use Rattle.pf_base.specs.Limits.{Limits, config_of}
use Rattle.pf_words.specs.Words.{pieces_of, words_of, is_name}
use Rattle.pf_words.specs.Arguments.{◌>>=◌, or_cause, number_at, u32_at}
use Rattle.pf_words.specs.Verbs.{step_words}

-- what lines say. frames: those of the pool line, 0 where there is none;  spaces: each namespace's name and limits,
-- first those that there are from the start;  opening: how many these are;  steps: what each line behind the space
-- lines says, with its namespace's number, from 0
pub record Draft : Type 0 where
  pub frames : ℕ
  pub opening : ℕ
  pub spaces : List (List ℕ × Limits)
  pub steps : List (ℕ × Line)

-- nothing said
abbrev pub blank : Draft
blank = record { frames = 0; opening = 0; spaces = []; steps = [] }

unfoldable pub pool_with : Draft → List ℕ → Result Draft Cause
pool_with d frames = do
  n ← number_at MAX_FRAMES frames
  if n == 0 then Err causes.BadNumber else Ok (record d { frames = n })

-- pool FRAMES
unfoldable pub pool_line : Draft → List (List ℕ) → Result Draft Cause
pool_line d (frames ∷ []) = pool_with d frames
pool_line d _ = Err causes.WrongWords

-- the number of the namespace with this name
abbrev pub place_of : List ℕ → List (List ℕ × Limits) → Option ℕ
place_of name spaces = position_from (λ s. bytes_eq s.0 name) 0 spaces

-- the sum of the reservations
abbrev pub reserved : List (List ℕ × Limits) → ℕ
reserved spaces = sum_by (λ s. s.1.reserve) spaces

-- a number of 32 bits, or this one where the word is left out
abbrev pub number_or : ℕ → Option (List ℕ) → Result ℕ Cause
number_or n None = Ok n
number_or n (Some word) = u32_at word

abbrev pub limits_or_cause : Result Limits ConfigFault → Result Limits Cause
limits_or_cause (Ok limits) = Ok limits
limits_or_cause (Err e) = Err causes.BadNumber

unfoldable pub limits_with : List ℕ → Option (List ℕ) → Option (List ℕ) → Option (List ℕ) → Result Limits Cause
limits_with reserve soft hard max = do
  n ← number_at MAX_RESERVE reserve
  s ← number_or DEFAULT_SOFT soft
  h ← number_or DEFAULT_HARD hard
  m ← number_or DEFAULT_MAX max
  limits_or_cause (config_of n s h m)

-- a namespace of this name and these limits from the start, unless the reservations are too many
unfoldable pub with_limits : Draft → List ℕ → Limits → Result Draft Cause
with_limits d name limits =
    if nat_lt d.frames (reserved d.spaces + limits.reserve) then Err (causes.ReservationsExceed (reserved d.spaces + limits.reserve) d.frames)
    else Ok (record d { opening = length d.spaces + 1; spaces = d.spaces ++ (name, limits) ∷ [] })

-- the limits of a namespace more: its name is no other's, and there are few enough
unfoldable pub fresh_limits : Draft → List ℕ → List ℕ → Option (List ℕ) → Option (List ℕ) → Option (List ℕ) →
    Result Limits Cause
fresh_limits d name reserve soft hard max =
    if not (is_name name) then Err causes.BadName
    else if is_some (place_of name d.spaces) then Err causes.NameTwice
    else if nat_le MAX_NAMESPACES (length d.spaces) then Err causes.TooManyNamespaces
    else limits_with reserve soft hard max

unfoldable pub space_with : Draft → List ℕ → List ℕ → Option (List ℕ) → Option (List ℕ) → Option (List ℕ) →
    Result Draft Cause
space_with d name reserve soft hard max = do
  limits ← fresh_limits d name reserve soft hard max
  with_limits d name limits

-- space NAME RESERVE [SOFT [HARD [MAX]]]
unfoldable pub space_words : Draft → List (List ℕ) → Result Draft Cause
space_words d (name ∷ reserve ∷ []) = space_with d name reserve None None None
space_words d (name ∷ reserve ∷ soft ∷ []) = space_with d name reserve (Some soft) None None
space_words d (name ∷ reserve ∷ soft ∷ hard ∷ []) = space_with d name reserve (Some soft) (Some hard) None
space_words d (name ∷ reserve ∷ soft ∷ hard ∷ max ∷ []) = space_with d name reserve (Some soft) (Some hard) (Some max)
space_words d _ = Err causes.WrongWords

unfoldable pub space_line : Draft → List (List ℕ) → Result Draft Cause
space_line d words = if length d.steps == 0 then space_words d words else Err causes.LateSpace

-- a namespace of this name and these limits that is admitted here. Its reservation isn't summed: whether there is room
-- is seen when the line is run
abbrev pub admitted : Draft → List ℕ → Limits → Draft
admitted d name limits = record d {
  spaces = d.spaces ++ (name, limits) ∷ [];
  steps = d.steps ++ (length d.spaces, lines.Admit) ∷ [];
}

unfoldable pub admit_with : Draft → List ℕ → List ℕ → Option (List ℕ) → Option (List ℕ) → Option (List ℕ) →
    Result Draft Cause
admit_with d name reserve soft hard max = do
  limits ← fresh_limits d name reserve soft hard max
  Ok (admitted d name limits)

-- admit NAME RESERVE [SOFT [HARD [MAX]]]
unfoldable pub admit_line : Draft → List (List ℕ) → Result Draft Cause
admit_line d (name ∷ reserve ∷ []) = admit_with d name reserve None None None
admit_line d (name ∷ reserve ∷ soft ∷ []) = admit_with d name reserve (Some soft) None None
admit_line d (name ∷ reserve ∷ soft ∷ hard ∷ []) = admit_with d name reserve (Some soft) (Some hard) None
admit_line d (name ∷ reserve ∷ soft ∷ hard ∷ max ∷ []) = admit_with d name reserve (Some soft) (Some hard) (Some max)
admit_line d _ = Err causes.WrongWords

unfoldable pub retire_with : Draft → List ℕ → Result Draft Cause
retire_with d name = do
  place ← or_cause (place_of name d.spaces) causes.UnknownNamespace
  Ok (record d { steps = d.steps ++ (place, lines.Retire) ∷ [] })

-- retire NAME
unfoldable pub retire_line : Draft → List (List ℕ) → Result Draft Cause
retire_line d (name ∷ []) = retire_with d name
retire_line d _ = Err causes.WrongWords

-- NAME VERB ..
unfoldable pub step_line : Draft → List ℕ → List (List ℕ) → Result Draft Cause
step_line d name words = do
  place ← or_cause (place_of name d.spaces) causes.UnknownNamespace
  step ← step_words words
  Ok (record d { steps = d.steps ++ (place, lines.Step step) ∷ [] })

-- a line of words is of the kind that its first word says; the first one is the pool line
unfoldable pub first_word_line : Draft → List ℕ → List (List ℕ) → Result Draft Cause
first_word_line d first words =
    if bytes_eq first (codes "pool") then (if d.frames == 0 then pool_line d words else Err causes.SecondPool)
    else if d.frames == 0 then Err causes.NoPool
    else if bytes_eq first (codes "space") then space_line d words
    else if bytes_eq first (codes "admit") then admit_line d words
    else if bytes_eq first (codes "retire") then retire_line d words
    else step_line d first words

unfoldable pub words_line : Draft → List (List ℕ) → Result Draft Cause
words_line d [] = Ok d
words_line d (first ∷ words) = first_word_line d first words

-- an empty line, or one that begins with `#`
abbrev pub is_skipped : List ℕ → Bool
is_skipped [] = true
is_skipped (c ∷ cs) = c == 35

abbrev pub is_empty_word : List ℕ → Bool
is_empty_word word = length word == 0

-- a line that a line feed ends
unfoldable pub line_of : Draft → List ℕ → Result Draft Cause
line_of d text =
    if nat_lt 2200000 (length text) then Err causes.TooLong
    else if is_skipped text then Ok d
    else if list_any is_empty_word (words_of text) then Err causes.BadSpacing
    else words_line d (words_of text)

-- what stands behind the last line feed
unfoldable pub rest_of : Draft → List ℕ → Result Draft Cause
rest_of d text =
    if length text == 0 then Ok d
    else if nat_lt 2200000 (length text) then Err causes.TooLong
    else Err causes.CutShort

-- a line's fault with the line's number
abbrev pub numbered : ℕ → Result Draft Cause → (Draft → Result Draft Refusal) → Result Draft Refusal
numbered k (Ok d) go = go d
numbered k (Err cause) go = Err (record { line = k; cause = cause })

-- the lines from number k on, behind others that say d: the first faulty one decides
unfoldable pub lines_from : Draft → ℕ → List (List ℕ) → Result Draft Refusal
lines_from d k [] = Ok d
lines_from d k (text ∷ []) = numbered k (rest_of d text) (λ e. Ok e)
lines_from d k (text ∷ next ∷ texts) = numbered k (line_of d text) (λ e. lines_from e (k + 1) (next ∷ texts))

-- a script is the pieces between its line feeds, the last of them what stands behind the last line feed
abbrev pub read_script : List ℕ → Result Draft Refusal
read_script bytes = lines_from blank 1 (pieces_of 10 bytes)

-- these lines lead from one draft to another
abbrev pub LeadsTo : Draft → List (List ℕ) → Draft → Type 0
LeadsTo d [] e = d ≡ e
LeadsTo d (text ∷ texts) e = (next : Draft) × (line_of d text ≡ Ok next) × LeadsTo next texts e

-- a piece of a script: the last one is what stands behind the last line feed
abbrev pub piece_of : Draft → List ℕ → List (List ℕ) → Result Draft Cause
piece_of d text [] = rest_of d text
piece_of d text (next ∷ texts) = line_of d text

-- where the lines before lead to e and the next piece is faulty, that piece's fault and number are the answer
abbrev pub FirstFaultDecides : Type 0
FirstFaultDecides = (before after : List (List ℕ)) (text : List ℕ) (d e : Draft) (k : ℕ) (cause : Cause) →
    LeadsTo d before e → piece_of e text after ≡ Err cause →
    lines_from d k (before ++ text ∷ after) ≡ Err (record { line = k + length before; cause = cause })
