-- A number of 32 bits that is read from a text is the number that it writes.

use Rattle.std.proofs.Common.{arith, refl, ℕ, ◌≡◌, ◌<◌, ◌^◌, List, Option, Some, None, Result, Ok, Err, true, false, Bool}
use Rattle.std.specs.Option.{option_and_then}
use Rattle.std.specs.Str.Parse.{ParsesUnsigned, IsNumeral, digits_value, without_leading_plus}
use Rattle.clap.specs.Words.{ReadsOne, Text}
use Rattle.clap.specs.ValueTests.{is_unsigned_in}
use Rattle.clap.specs.declared.builder.value_parser.ValueParser.TheVariants.{Unsigned}
use Rattle.clap.proofs.ValueTestLemmas.{accepts-Accepts, Accepts-accepts}
use Rattle.pf_play.specs.CommandLine.{number_of}

abbrev written : Text → ℕ
written text = digits_value 10 (without_leading_plus text)

accepted : (text : Text) → IsNumeral 10 (without_leading_plus text) → written text < 2 ^ 32
    → is_unsigned_in 0 4294967295 text ≡ true
accepted text digits small =
    Accepts-accepts false (Unsigned 0 4294967295) text (digits, omega (arith, small), omega arith, omega (arith, small))

-- reading a number of 32 bits promises this, and more that isn't wanted here
read_one : (E : Type 0) (gives : List ℕ → Result ℕ E → Type 0) → ((text : List ℕ) (read : Result ℕ E) → gives text read → ParsesUnsigned 32 10 text read)
    → (text : Text) (read : Option ℕ) → ReadsOne gives text read → read ≡ number_of text
read_one E gives parses text (Some n) is =
    let parsed = parses text (Ok n) is in rw (accepted text parsed.0.0 parsed.0.1, parsed.1) refl
read_one E gives parses text None is = by (is_unsigned_in 0 4294967295 text) refl
  where
    by : (b : Bool) → is_unsigned_in 0 4294967295 text ≡ b → None ≡ number_of text
    by false out = rw out refl
    by true within =
        let all = accepts-Accepts false (Unsigned 0 4294967295) text within in
        absurd (parses text (Err is.0) is.1 (all.0, omega (arith, all.3)))

-- the number that is read of an option's text, if it has one
pub read_if_any : (E : Type 0) (gives : List ℕ → Result ℕ E → Type 0) → ((text : List ℕ) (read : Result ℕ E) → gives text read → ParsesUnsigned 32 10 text read)
    → (text : Option Text) (read : Option ℕ) → (text ≡ None → read ≡ None)
    → ((t : List ℕ) → text ≡ Some t → ReadsOne gives t read) → read ≡ option_and_then number_of text
read_if_any E gives parses None read none some = none refl
read_if_any E gives parses (Some t) read none some = read_one E gives parses t read (some t refl)
