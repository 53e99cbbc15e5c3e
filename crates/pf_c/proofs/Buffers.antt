-- A read into a buffer, as a step whose bytes are laid there.

use Rattle.std.proofs.Common.{◌≡◌, ℕ, ◌+◌, ◌≤◌, List, ◌++◌, length, take, drop, Option, Some, None, Result, Ok, Err, refl, sym, ap, subst, ◌∙◌, arith}
use Rattle.std.specs.Prelude.{min}
use Rattle.std.specs.Option.{option_map}
use Rattle.std.proofs.lemmas.List.{length-take-le, take_all, take-append-drop}
use Rattle.pf_base.specs.declared.errno.Errno.{Errno}
use Rattle.pf_base.specs.declared.step.Answer.TheVariants.{Done}
use Rattle.pf_base.specs.declared.step.Reply.{Reply}
use Rattle.pf_frame.specs.Bytes.{filled}
use Rattle.pf_tables.specs.Buffers.{Lies, reply_in}
use Rattle.pf_c.specs.Codes.{number, code_of_answer}
use Rattle.pf_c.specs.Read.{code_of_read, answer_of_read, number_of_read}
use Rattle.pf_c.specs.Told.{bytes_of}

-- its reply
abbrev pub reply_of_read : List ℕ → Option (Result (Option ℕ) Errno) → Option Reply
reply_of_read after None = None
reply_of_read after (Some read) = Some (reply_in after read)

pub answer_is : (after : List ℕ) (r : Option (Result (Option ℕ) Errno)) → answer_of_read after r ≡ option_map Done (reply_of_read after r)
answer_is after None = refl
answer_is after (Some read) = refl

-- as many bytes lie at the front as it is told
as_many : (before after : List ℕ) (n : ℕ) → Lies n before after → length (take n after) ≡ n
as_many before after n lies = length-take-le n after (subst (λ k. n ≤ k) (sym lies.as_long) lies.fits)

pub says : (before after : List ℕ) (r : Option (Result (Option ℕ) Errno)) → Lies (number_of_read r) before after → code_of_read r ≡ code_of_answer (option_map Done (reply_of_read after r))
says before after None lies = refl
says before after (Some (Ok (Some n))) lies = ap number (sym (as_many before after n lies))
says before after (Some (Ok None)) lies = refl
says before after (Some (Err e)) lies = refl

-- and behind them the buffer is as it was
laid : (before after : List ℕ) (n : ℕ) → Lies n before after → after ≡ filled 0 (take (min (length (take n after)) (length before)) (take n after)) before
laid before after n lies =
    let many = as_many before after n lies in
    let place : n ≡ 0 + length (take n after) = omega (arith, many) in
    let whole : take (min (length (take n after)) (length before)) (take n after) ≡ take n after =
    take_all (min (length (take n after)) (length before)) (take n after) (omega (arith, many, lies.fits)) in
    sym (take-append-drop n after) ∙ ap (λ xs. take n after ++ xs) (lies.behind ∙ ap (λ k. drop k before) place)
    ∙ ap (λ xs. filled 0 xs before) (sym whole)

pub bytes_are : (before after : List ℕ) (r : Option (Result (Option ℕ) Errno)) → Lies (number_of_read r) before after
    → let bytes = bytes_of (option_map Done (reply_of_read after r)) in after ≡ filled 0 (take (min (length bytes) (length before)) bytes) before
bytes_are before after None lies = laid before after 0 lies
bytes_are before after (Some (Ok (Some n))) lies = laid before after n lies
bytes_are before after (Some (Ok None)) lies = laid before after 0 lies
bytes_are before after (Some (Err e)) lies = laid before after 0 lies
