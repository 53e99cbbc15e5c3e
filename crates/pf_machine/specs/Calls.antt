-- Calls that may wait: transfers (read(2), write(2), tee(2), splice(2)) and opens of FIFOs (fifo(7)).

use Rattle.std.specs.Prelude.{ℕ, List, Option, Some, None}
use Rattle.pf_base.specs.declared.progress.Crossing.{Crossing}

-- a transfer, with the fields of its step. A write: all its bytes, and how many of them went in
pub data Transfer : Type 0 where
  Reading : (fd n : ℕ) → Transfer
  Writing : (fd : ℕ) (bytes : List ℕ) (written : ℕ) → Transfer
  Bringing : (crossing : Crossing) (source sink n : ℕ) → Transfer

-- a call in which a process waits. An open: the name of the description that it made, and how often the other side of
-- its pipe had been opened by then
pub data Call (N : Type 0) : Type 0 where
  Opening : (description : N) (kept : ℕ) → Call N
  Moving : Transfer → Call N

-- how many bytes of a transfer went in before it waited: a write's
abbrev pub went_in : Transfer → ℕ
went_in (Reading fd n) = 0
went_in (Writing fd bytes written) = written
went_in (Bringing crossing source sink n) = 0

-- and of a call
abbrev pub written_of : {N : Type 0} → Call N → ℕ
written_of (Opening description kept) = 0
written_of (Moving transfer) = went_in transfer

-- the description that a parked call has made: an open's
abbrev pub made_by : {N : Type 0} → Option (Call N) → Option N
made_by None = None
made_by (Some (Opening description kept)) = Some description
made_by (Some (Moving transfer)) = None
