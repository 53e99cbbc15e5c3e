-- What a read lays into a buffer.

use Rattle.std.proofs.Common.{◌≡◌, ℕ, ◌<◌, ◌≤◌, Bool, true, false, List, length, take, drop, ◌++◌, nat_eq, nat_lt}
use Rattle.std.proofs.Common.{if◌then◌else◌, ap, subst, ◌∙◌, arith, length-append, length-drop, length-take}
use Rattle.std.specs.Prelude.{min}
use Rattle.std.proofs.lemmas.Bool.{lt-ltb, ne_eqb}
use Rattle.std.proofs.lemmas.List.{take_at, drop_at}
use Rattle.pf_tables.proofs.Common.{Queue, bytes_of, Passed, moved}
use Rattle.pf_machine.specs.Queue.{taken, after_take}
use Rattle.pf_machine.specs.Progress.{read_now}
use Rattle.pf_base.specs.declared.progress.Progress.TheVariants.{Moved, WouldBlock, EndOfFile}
use Rattle.pf_tables.specs.Buffers.{Lies}

-- a read by its three tests
abbrev read_by : Queue → ℕ → Bool → Bool → Bool → Passed
read_by q n a b c =
    if a then record { progress = Moved 0; queue = q }
    else if b then record { progress = Moved (min n (length (bytes_of q))); queue = after_take q n }
    else if c then record { progress = EndOfFile; queue = q }
    else record { progress = WouldBlock; queue = q }

read_by-le : (q : Queue) (n : ℕ) (a b c : Bool) → moved (read_by q n a b c).progress ≤ min n (length (bytes_of q))
read_by-le q n true b c = omega arith
read_by-le q n false true c = omega arith
read_by-le q n false false true = omega arith
read_by-le q n false false false = omega arith

-- it moves no more than it asks for, and no more than there is
read_now-le : (q : Queue) (writers n : ℕ) → moved (read_now q writers n).progress ≤ min n (length (bytes_of q))
read_now-le q writers n = read_by-le q n (nat_eq n 0) (nat_lt 0 (length (bytes_of q))) (nat_eq writers 0)

-- and where that is any, just as many
pub reads_some : (q : Queue) (writers n : ℕ) → 0 < min n (length (bytes_of q))
    → (read_now q writers n).progress ≡ Moved (min n (length (bytes_of q)))
reads_some q writers n some =
    let asks : nat_eq n 0 ≡ false = ne_eqb n 0 (λ (none : n ≡ 0). omega (arith, none, some)) in
    let there : nat_lt 0 (length (bytes_of q)) ≡ true = lt-ltb 0 (length (bytes_of q)) (omega (arith, some)) in
    λ i. (read_by q n (asks i) (there i) (nat_eq writers 0)).progress

-- it takes just as many
pub as_many_read : (q : Queue) (writers n : ℕ) → length (taken q (moved (read_now q writers n).progress))
    ≡ moved (read_now q writers n).progress
as_many_read q writers n =
    omega (arith, length-take (moved (read_now q writers n).progress) (bytes_of q), read_now-le q writers n)

-- a read that moved so many bytes, into a buffer of n
module _ (q : Queue) (writers number : ℕ) (before after : List ℕ)
    (is : moved (read_now q writers (length before)).progress ≡ number)
    (lie : after ≡ taken q number ++ drop number before) where
  few : number ≤ min (length before) (length (bytes_of q))
  few = subst (λ k. k ≤ min (length before) (length (bytes_of q))) is (read_now-le q writers (length before))

  as_many : length (taken q number) ≡ number
  as_many = omega (arith, length-take number (bytes_of q), few)

  -- those at its front are the bytes that the read took
  pub front : take number after ≡ taken q number
  front = ap (take number) lie ∙ take_at (taken q number) (drop number before) number as_many

  pub lies : Lies number before after
  lies = record {
    fits = omega (arith, few);
    as_long =
        let long = length-append (taken q number) (drop number before) in
        omega (arith, ap length lie, long, length-drop number before, as_many, few);
    behind = ap (drop number) lie ∙ drop_at (taken q number) (drop number before) number as_many;
  }
