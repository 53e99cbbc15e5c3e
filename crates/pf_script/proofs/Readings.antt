-- A script that is judged while it is read.

use Rattle.std.proofs.Common.{◌≡◌, ℕ, ◌+◌, ◌≤◌, List, [], ◌∷◌, ◌++◌, length, Option, Some, None, Bool, true, false, refl, ap, subst, sym, eqb-true, ◌∙◌, arith, rules}
use Rattle.std.proofs.lemmas.List.{length-append, append-nil}
use Rattle.std.proofs.lemmas.Bool.Decides.{nat_tests}
use Rattle.std.specs.Prelude.{◌<◌, ◌==◌, Result, Ok, Err, IfOk, IfErr}
use Rattle.std.specs.Io.KnownBytes.{Consumes, Keeps, IsAtEnd}
use Rattle.pf_script.specs.Ports.{Input, one_more, IsWhole, BreaksOff, IsTooLong, IsGivenUp}
use Rattle.pf_script.specs.Script.{Draft, blank, read_script}
use Rattle.pf_script.specs.declared.judge.Judge.{Judge}
use Rattle.pf_script.specs.Judged.{told, Judges, IsOneLine}
use Rattle.pf_script.specs.declared.fault.ScriptFault.{ScriptFault}
use Rattle.pf_script.specs.declared.fault.ScriptFault.TheVariants as script_faults
use Rattle.pf_script.specs.Faults.{Reads, IsRead, IsScriptFault}
use Rattle.pf_script.proofs.Streams.{consumes_more, consumes_kept}
use Rattle.pf_script.proofs.Lines.{judges_more, judges_all, no_byte}

-- before the first line
abbrev pub start : Judge
start = record { script = blank; number = 1; refusal = None }

-- so many bytes were read, and their lines judged
pub record IsJudged (old new : Input) (count : ℕ) (judge : Judge) (rest : List ℕ) : Type 0 where
  pub bytes : List ℕ
  pub read : Consumes old.remaining new.remaining bytes
  pub sound : new.failures ≡ old.failures
  pub counted : length bytes ≡ count
  pub judged : Judges start bytes judge rest
  pub one_line : IsOneLine rest
  pub few : judge.number + length rest ≤ count + 1

consumes_none : (a : Option (List ℕ)) → Consumes a a []
consumes_none None = search rules
consumes_none (Some x) = refl

length-nil : (xs : List ℕ) → length xs ≡ 0 → xs ≡ []
length-nil [] is = refl
length-nil (x ∷ xs) is = absurd (omega (arith, is))

pub is_nothing : {b : Bool} {n : ℕ} → b ≡ (n == 0) → b ≡ true → n ≡ 0
is_nothing {b} {n} test is = eqb-true n 0 (sym test ∙ is)

pub is_something : {b : Bool} {n : ℕ} → b ≡ (n == 0) → b ≡ false → 0 < n
is_something {b} {n} test is = grind (arith, nat_tests)

-- nothing was read
pub none : (input : Input) (judge : Judge) → judge ≡ start → IsJudged input input 0 judge []
none input judge is = rw is (record {
  bytes = [];
  read = consumes_none input.remaining;
  sound = refl;
  counted = refl;
  judged = record { same = λ more. refl };
  one_line = no_byte;
  few = omega arith;
})

-- a piece more was read
pub one_piece : (old mid new : Input) (count : ℕ) (j k : Judge) (rest piece left : List ℕ) → IsJudged old mid count j rest →
    Consumes mid.remaining new.remaining piece → new.failures ≡ mid.failures → Judges j (rest ++ piece) k left → IsOneLine left →
    k.number + length left ≤ j.number + length rest + length piece → IsJudged old new (count + length piece) k left
one_piece old mid new count j k rest piece left h read sound judged one few = record {
  bytes = h.bytes ++ piece;
  read = consumes_more _ _ _ _ _ h.read read;
  sound = sound ∙ h.sound;
  counted = omega (arith, length-append h.bytes piece, h.counted);
  judged = judges_more start j k h.bytes rest piece left h.judged judged;
  one_line = one;
  few = omega (arith, few, h.few);
}

-- a read failed
pub breaks_off : (old mid new : Input) (count : ℕ) (j : Judge) (rest : List ℕ) → IsJudged old mid count j rest → count ≤ 67108864 →
    Keeps mid.remaining new.remaining → new.failures ≡ one_more mid.failures → BreaksOff old new
breaks_off old mid new count j rest h few kept failed =
    (h.bytes, consumes_kept _ _ _ _ h.read kept, omega (arith, h.counted, few), failed ∙ ap one_more h.sound)

-- a byte too many came
pub too_long : (old mid new : Input) (count : ℕ) (j : Judge) (rest piece : List ℕ) → IsJudged old mid count j rest →
    Consumes mid.remaining new.remaining piece → new.failures ≡ mid.failures → count + length piece ≡ 67108865 → IsTooLong old new
too_long old mid new count j rest piece h read sound many =
    (h.bytes ++ piece, consumes_more _ _ _ _ _ h.read read, omega (arith, length-append h.bytes piece, h.counted, many), sound ∙ h.sound)

-- memory was wanted
pub given_up : (old mid new : Input) (count : ℕ) (j : Judge) (rest piece : List ℕ) → IsJudged old mid count j rest →
    Consumes mid.remaining new.remaining piece → new.failures ≡ mid.failures → count + length piece ≤ 67108864 → IsGivenUp old new
given_up old mid new count j rest piece h read sound few =
    (h.bytes ++ piece, consumes_more _ _ _ _ _ h.read read, omega (arith, length-append h.bytes piece, h.counted, few), sound ∙ h.sound)

pub reads : (r : Result Draft ScriptFault) (old new : Input) (bytes : List ℕ) → IsWhole old new bytes → Reads r (read_script bytes) → IfOk r (IsRead old new)
reads (Ok script) old new bytes whole is = (bytes, whole, is)
reads (Err e) old new bytes whole is = tt

pub faults : (r : Result Draft ScriptFault) (old new : Input) (bytes : List ℕ) → IsWhole old new bytes → Reads r (read_script bytes) → IfErr r (IsScriptFault old new)
faults (Ok script) old new bytes whole is = tt
faults (Err script_faults.NoMemory) old new bytes whole is = (bytes, whole.0, omega (arith, whole.2), whole.3)
faults (Err (script_faults.Refused refusal)) old new bytes whole is = (bytes, whole, is)
faults (Err script_faults.ReadFault) old new bytes whole is = absurd is

-- what the reader says of a whole input
pub record IsEnded (r : Result Draft ScriptFault) (old new : Input) : Type 0 where
  pub read : IfOk r (IsRead old new)
  pub fault : IfErr r (IsScriptFault old new)

-- the end was reached
pub at_end : (old mid new : Input) (count : ℕ) (j : Judge) (rest piece : List ℕ) (r : Result Draft ScriptFault) → IsJudged old mid count j rest → count ≤ 67108864 →
    Consumes mid.remaining new.remaining piece → new.failures ≡ mid.failures → length piece ≡ 0 → IsAtEnd new.remaining → Reads r (told j rest) → IsEnded r old new
at_end old mid new count j rest piece r h few read sound nothing end is =
    let whole : IsWhole old new h.bytes = (subst (λ t. Consumes old.remaining new.remaining t) (append-nil h.bytes) (consumes_more _ _ _ _ [] h.read (subst (λ t. Consumes mid.remaining new.remaining t) (length-nil piece nothing) read)), end, omega (arith, h.counted, few), sound ∙ h.sound) in
    let said = subst (λ t. Reads r t) (judges_all start j h.bytes rest h.judged) is in
    record { read = reads r old new h.bytes whole said; fault = faults r old new h.bytes whole said }
