-- What is wrong with a line, in words.

use Rattle.std.specs.Prelude.{ℕ, List, ◌++◌, codes, decimal}
use Rattle.pf_words.specs.declared.cause.Cause.{Cause}
use Rattle.pf_words.specs.declared.cause.Cause.TheVariants as causes

-- what is wrong, in words without a number
abbrev pub cause_words : Cause → List ℕ
cause_words causes.TooLong = codes "too long"
cause_words causes.CutShort = codes "cut short"
cause_words causes.BadSpacing = codes "bad spacing"
cause_words causes.NoPool = codes "no pool"
cause_words causes.SecondPool = codes "second pool"
cause_words causes.WrongWords = codes "wrong words"
cause_words causes.BadNumber = codes "bad number"
cause_words causes.LateSpace = codes "late space"
cause_words causes.BadName = codes "bad name"
cause_words causes.NameTwice = codes "name twice"
cause_words causes.TooManyNamespaces = codes "too many namespaces"
cause_words (causes.ReservationsExceed sum frames) = codes "reservations"
cause_words causes.UnknownNamespace = codes "unknown namespace"
cause_words causes.UnknownVerb = codes "unknown verb"
cause_words causes.BadFlags = codes "bad flags"
cause_words causes.BadData = codes "bad data"

-- what is wrong, with the numbers
abbrev pub cause_text : Cause → List ℕ
cause_text (causes.ReservationsExceed sum frames) =
    codes "reservations " ++ decimal sum ++ codes " exceed pool " ++ decimal frames
cause_text cause = cause_words cause
