-- The words of a script: how a text is cut, numbers, names and data.

use Rattle.std.specs.Prelude.{ℕ, ◌+◌, ◌-◌, ◌*◌, Bool, true, false, not, ◌&&◌, ◌||◌, ◌==◌, nat_le, nat_lt, List, [], ◌∷◌, ◌++◌, length, codes, bytes_eq, Option, Some, None, option_and_then, option_map, Result, Ok, Err, replicate, if◌then◌else◌}
use Rattle.std.specs.List.{list_all}
use Rattle.hex.specs.Hex.{decode_of, decode_sized}

abbrev pub onto_first : ℕ → List (List ℕ) → List (List ℕ)
onto_first c [] = (c ∷ []) ∷ []
onto_first c (piece ∷ pieces) = (c ∷ piece) ∷ pieces

-- the pieces between bytes equal to cut, of which a text has at least one
unfoldable pub pieces_of : ℕ → List ℕ → List (List ℕ)
pieces_of cut [] = [] ∷ []
pieces_of cut (c ∷ cs) = if c == cut then [] ∷ pieces_of cut cs else onto_first c (pieces_of cut cs)

-- the words of a line: the pieces between spaces
abbrev pub words_of : List ℕ → List (List ℕ)
words_of text = pieces_of 32 text

-- the value of a digit of a base up to ten
abbrev pub digit : ℕ → ℕ → Option ℕ
digit base c = if nat_le 48 c && nat_lt c (48 + base) then Some (c - 48) else None

-- the number that digits stand for, behind others that stand for n
unfoldable pub digits_from : ℕ → ℕ → List ℕ → Option ℕ
digits_from base n [] = Some n
digits_from base n (c ∷ cs) = option_and_then (λ d. digits_from base (n * base + d) cs) (digit base c)

abbrev pub up_to : ℕ → ℕ → Option ℕ
up_to most n = if nat_le n most then Some n else None

-- the number that digits stand for, at most this one
abbrev pub digits : ℕ → ℕ → List ℕ → Option ℕ
digits base most word = option_and_then (up_to most) (digits_from base 0 word)

-- not empty, and no zero at the front of others
abbrev pub is_canonical : List ℕ → Bool
is_canonical [] = false
is_canonical (c ∷ []) = true
is_canonical (c ∷ d ∷ ds) = not (c == 48)

-- a decimal number from 0 to most, without leading zeros
abbrev pub number : ℕ → List ℕ → Option ℕ
number most word = if is_canonical word then digits 10 most word else None

-- one to five octal digits, at most 07777
abbrev pub octal : List ℕ → Option ℕ
octal word = if nat_le 1 (length word) && nat_le (length word) 5 then digits 8 4095 word else None

-- numbers of 32 bits, behind others
unfoldable pub numbers_onto : List ℕ → List (List ℕ) → Option (List ℕ)
numbers_onto numbers [] = Some numbers
numbers_onto numbers (word ∷ words) = option_and_then (λ n. numbers_onto (numbers ++ n ∷ []) words) (number 4294967295 word)

-- numbers of 32 bits with commas between them
abbrev pub numbers_of : List ℕ → Option (List ℕ)
numbers_of word = numbers_onto [] (pieces_of 44 word)

abbrev pub not_zero : ℕ → Option ℕ
not_zero n = if n == 0 then None else Some n

-- a decimal number from 1 to most
abbrev pub positive : ℕ → List ℕ → Option ℕ
positive most word = option_and_then not_zero (number most word)

-- the bytes that digits stand for
abbrev pub decoded : {E : Type 0} → Result (List ℕ) E → Option (List ℕ)
decoded (Ok bytes) = Some bytes
decoded (Err e) = None

-- hexadecimal digits in pairs, at least one
abbrev pub hex_bytes : List ℕ → Option (List ℕ)
hex_bytes word = if length word == 0 then None else decoded (decode_of word)

abbrev pub alone : List ℕ → Option ℕ
alone (b ∷ []) = Some b
alone _ = None

-- the byte of two hexadecimal digits
abbrev pub hex_byte : List ℕ → Option ℕ
hex_byte word = option_and_then alone (decoded (decode_sized word 1))

-- COUNT*HH: the byte HH so many times
abbrev pub repeated : List ℕ → List ℕ → Option (List ℕ)
repeated count pair = option_and_then (λ n. option_map (λ b. replicate n b) (hex_byte pair)) (positive 2097152 count)

-- hexadecimal digits, or a byte's with a star and how often it stands before them
abbrev pub bytes_of_parts : List (List ℕ) → Option (List ℕ)
bytes_of_parts (word ∷ []) = hex_bytes word
bytes_of_parts (count ∷ pair ∷ []) = repeated count pair
bytes_of_parts _ = None

-- `-` for no byte, or one of these
abbrev pub bytes_of : List ℕ → Option (List ℕ)
bytes_of word = if bytes_eq word (codes "-") then Some [] else bytes_of_parts (pieces_of 42 word)

abbrev pub is_letter : ℕ → Bool
is_letter c = nat_le 97 c && nat_le c 122

-- a to z, 0 to 9, and the underscore
abbrev pub is_name_byte : ℕ → Bool
is_name_byte c = is_letter c || ((nat_le 48 c && nat_le c 57) || c == 95)

abbrev pub begins_with_letter : List ℕ → Bool
begins_with_letter [] = false
begins_with_letter (c ∷ cs) = is_letter c

-- the words that begin a line of another kind
abbrev pub is_kept_word : List ℕ → Bool
is_kept_word word = bytes_eq word (codes "pool") || (bytes_eq word (codes "space") || (bytes_eq word (codes "admit") || bytes_eq word (codes "retire")))

-- a namespace's name: 1 to 32 bytes of a to z, 0 to 9 and the underscore, a letter first, and no kept word
abbrev pub is_name : List ℕ → Bool
is_name word = begins_with_letter word && (nat_le (length word) 32 && (list_all is_name_byte word && not (is_kept_word word)))
