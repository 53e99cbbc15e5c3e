-- The end of a pipe that a descriptor names, as the tables find it and as the machine does.

use Rattle.std.proofs.Common.{◌≡◌, ℕ, suc, List, map, ◌+◌, ◌-◌, Bool, true, false, not, Option, Some, None, IsSome}
use Rattle.std.proofs.Common.{is_some, Result, Ok, Err, refl, sym, ap, subst, ◌∙◌, arith}
use Rattle.pf_tables.proofs.TablesShown.{each-same, shown, find_at}
use Rattle.pf_tables.proofs.Refusals.{same_some}
use Rattle.pf_tables.proofs.Common.{option_map, option_and_then, Files, ◌>>=◌, ◌>>◌, refuse_if, or_refuse, at, itself}
use Rattle.pf_tables.proofs.Common.{State, End, ready, end_at, readers, writers, Errno, EBADF, Side, value_of, find}
use Rattle.pf_tables.proofs.Common.{Open, Window, ProcessRows, DescriptionRows, PipeRows, Key, Named, Process}
use Rattle.pf_tables.proofs.Common.{Description, Pipe, process_of, description_of, pipe_of, processes_of}
use Rattle.pf_tables.proofs.Common.{descriptions_of, pipes_of, state_of, made_by, ready_in, end_in, read_by, written_by}
use Rattle.pf_tables.proofs.Common.{UsedRow, Tied, at-map, end_of_row}
use Rattle.pf_machine.specs.State as machine
use Rattle.pf_base.specs.declared.progress.Side.TheVariants as sides
use Rattle.pf_tables.specs.Opened.{other_opens, others_of, others_in, others_at}
use Rattle.pf_tables.specs.Rows.{has, description_in}
use Rattle.pf_tables.proofs.ProcessTableReady.{shown_in, ready_shown, place_is}
use Rattle.pf_tables.proofs.TablesTied.{finds}
use Rattle.pf_tables.proofs.TablesSettled.{readers_shown, writers_shown}

-- an end that is of a side, or any where none is asked for
abbrev pub of_side : {X : Type 0} → Option Side → Option (End X ℕ) → Result (End X ℕ) Errno
of_side None o = or_refuse EBADF o
of_side (Some sides.Read) o = or_refuse EBADF o >>= (λ e. refuse_if (not e.description.reads) EBADF >> Ok e)
of_side (Some sides.Write) o = or_refuse EBADF o >>= (λ e. refuse_if (not e.description.writes) EBADF >> Ok e)

-- the machine's end: end_of, reading_end and writing_end
abbrev pub side_end : {X : Type 0} → Option Side → State X ℕ → machine.Process ℕ → ℕ → Result (End X ℕ) Errno
side_end side s p fd = of_side side (option_and_then (end_at itself s) (at p.descriptors fd))

-- what a pipe is seen as: by itself with its ring, or with the queue that its ring shows
abbrev pub Sight : Type 0 → Type 0
Sight X = machine.Pipe Window → machine.Pipe X

-- the end that two rows show
abbrev pub end_of_rows : {X : Type 0} → Sight X → Description → Pipe → End X ℕ
end_of_rows f d r = record {
  description = description_of (0, record { value = d; names = 0 });
  pipe = f (pipe_of (0, r));
}

-- the state that rows show
abbrev pub state_seen : {X : Type 0} → Sight X → ProcessRows → DescriptionRows → PipeRows → Files → ℕ → State X ℕ
state_seen f ps ds pipes files files_made = record {
  processes = processes_of ps;
  descriptions = descriptions_of ds;
  pipes = map (option_map f) (pipes_of pipes);
  files = files;
  files_made = files_made;
}

-- what is known of an end that the tables found: its pipe, and that the machine finds the same
pub record Found {X : Type 0} (f : Sight X) (pipes : PipeRows) (d : Description) (machine : Result (End X ℕ) Errno)
    : Type 0 where
  pub pipe : Pipe
  pub stands : at pipes d.pipe.serial ≡ Some (d.pipe.slot, pipe)
  pub is : machine ≡ Ok (end_of_rows f d pipe)

-- the machine refuses what the tables refuse, and finds what they find
pub record Agree {X : Type 0} (f : Sight X) (pipes : PipeRows) (tables : Result Description Errno)
    (machine : Result (End X ℕ) Errno) : Type 0 where
  pub refused : {e : Errno} → tables ≡ Err e → machine ≡ Err e
  pub found : {d : Description} → tables ≡ Ok d → Found f pipes d machine

-- what the machine finds the tables name
pub named : {X : Type 0} {f : Sight X} {pipes : PipeRows} {tables : Result Description Errno}
    {machine : Result (End X ℕ) Errno} → Agree f pipes tables machine → {x : End X ℕ} → machine ≡ Ok x
    → (d : Description) × (tables ≡ Ok d)
named {tables = Ok d} a is = (d, refl)
named {tables = Err e} a is = let refused = a.refused refl in absurd (cc)

module _ {X : Type 0} {f : Sight X} {pipes : PipeRows} {tables : Result Description Errno}
    {machine : Result (End X ℕ) Errno} (a : Agree f pipes tables machine) {d : Description} (h : tables ≡ Ok d) where
  -- its pipe stands
  pub pipe_there : IsSome (find pipes d.pipe.slot d.pipe.serial)
  pipe_there = let w = a.found h in ap is_some (find_at pipes d.pipe.slot d.pipe.serial w.pipe w.stands)

  pub not_lost : find pipes d.pipe.slot d.pipe.serial ≡ None → ⊥
  not_lost none = let there = pipe_there in let gone = ap is_some none in absurd (cc)

  -- and is the one that is handed out
  pub reaches : {r : Pipe} → find pipes d.pipe.slot d.pipe.serial ≡ Some r → machine ≡ Ok (end_of_rows f d r)
  reaches handed =
      let w = a.found h in
      let same = same_some (sym (find_at pipes d.pipe.slot d.pipe.serial w.pipe w.stands) ∙ handed) in
      w.is ∙ ap (λ (q : Pipe). Ok (end_of_rows f d q)) same

module _ {X : Type 0} (f : Sight X) (side : Option Side) {ps : ProcessRows} {ds : DescriptionRows} {pipes : PipeRows}
    (files : Files) (files_made : ℕ) (t : Tied ps ds pipes) (pid fd : ℕ) where
  abbrev s : State X ℕ
  s = state_seen f ps ds pipes files files_made

  -- whether an end is of the side
  abbrev sided : Bool → End X ℕ → Result (End X ℕ) Errno
  sided b e = refuse_if (not b) EBADF >> Ok e

  -- the machine's test of the side is that of the rows
  by_side : (p : machine.Process ℕ) (d : Description) (r : Pipe)
      → option_and_then (end_at itself s) (at p.descriptors fd) ≡ Some (end_of_rows f d r)
      → side_end side s p fd ≡ sided (has side d) (end_of_rows f d r)
  by_side p d r h = ap (of_side side) h ∙ tested side
    where
      tested : (x : Option Side) → of_side x (Some (end_of_rows f d r)) ≡ sided (has x d) (end_of_rows f d r)
      tested None = refl
      tested (Some sides.Read) = refl
      tested (Some sides.Write) = refl

  no_side : (p : machine.Process ℕ) → at p.descriptors fd ≡ None → side_end side s p fd ≡ Err EBADF
  no_side p h = ap (λ o. of_side side (option_and_then (end_at itself s) o)) h ∙ refused side
    where
      refused : (x : Option Side) → of_side {X = X} x None ≡ Err EBADF
      refused None = refl
      refused (Some sides.Read) = refl
      refused (Some sides.Write) = refl

  shown_key : (p : Process) (o : Option Key) → at p.descriptors fd ≡ o
      → at (process_of p).descriptors fd ≡ option_map (λ k. k.serial) o
  shown_key p o g = at-map (λ (k : Key). k.serial) p.descriptors fd ∙ ap (option_map (λ (k : Key). k.serial)) g

  -- a description's end of its pipe
  pub end_shown : (k : Key) (e : Named Description) (r : Pipe) → at ds k.serial ≡ Some (k.slot, e)
      → at pipes e.value.pipe.serial ≡ Some (e.value.pipe.slot, r)
      → end_at itself s k.serial ≡ Some (end_of_rows f e.value r)
  end_shown k e r h g =
      ap (option_and_then (λ (d : machine.Description ℕ). option_map
      (λ (pipe : machine.Pipe X). record { description = d; pipe = pipe }) (at s.pipes d.pipe)))
      (shown description_of ds k.serial (k.slot, e) h)
      ∙ ap (option_map (λ (pipe : machine.Pipe X). record { description = description_of (k.slot, e); pipe = pipe }))
      (at-map f (pipes_of pipes) e.value.pipe.serial
      ∙ ap (option_map f) (shown pipe_of pipes e.value.pipe.serial (e.value.pipe.slot, r) g))

  -- what the tables find and what the machine finds: one refusal, or the end that the rows show
  abbrev Agrees : Result Description Errno → Result (End X ℕ) Errno → Type 0
  Agrees (Err e) machine = machine ≡ Err e
  Agrees (Ok d) machine = Found f pipes d machine

  agree : (r : Result Description Errno) (machine : Result (End X ℕ) Errno) → Agrees r machine
      → Agree f pipes r machine
  agree r machine a = record {
    refused = λ h. subst (λ x. Agrees x machine) h a;
    found = λ h. subst (λ x. Agrees x machine) h a;
  }

  abbrev if_sided : Description → Result Description Errno
  if_sided d = refuse_if (not (has side d)) EBADF >> Ok d

  abbrev of_key : Option Key → Result Description Errno
  of_key o = or_refuse EBADF o >>= (λ k. or_refuse EBADF (description_in ds k) >>= if_sided)

  by_sides : (b : Bool) (d : Description) (r : Pipe) → at pipes d.pipe.serial ≡ Some (d.pipe.slot, r)
      → Agrees (refuse_if (not b) EBADF >> Ok d) (sided b (end_of_rows f d r))
  by_sides true d r h = record { pipe = r; stands = h; is = refl }
  by_sides false d r h = refl

  by_key : (i : ℕ) (p : Process) → at ps i ≡ Some p → (o : Option Key) → at p.descriptors fd ≡ o
      → Agrees (of_key o) (side_end side s (process_of p) fd)
  by_key i p h None g = no_side (process_of p) (shown_key p None g)
  by_key i p h (Some k) g =
      let e = finds ds k (t.finds i (suc fd) p k h g) in
      let r = finds pipes e.0.value.pipe (t.is_end k.serial (k.slot, e.0) e.1).0 in
      let row = ap (option_map (λ (n : Named Description). n.value)) (find_at ds k.slot k.serial e.0 e.1) in
      let machine =
      by_side (process_of p) e.0.value r.0 (ap (option_and_then (end_at itself s)) (shown_key p (Some k) g)
      ∙ end_shown k e.0 r.0 e.1 r.1) in
      rw (row, machine) (by_sides (has side e.0.value) e.0.value r.0 r.1)

  by_caller : (r : Result Process Errno) → ready_in ps pid ≡ r
      → Agrees (r >>= (λ p. of_key (at p.descriptors fd))) (shown_in r >>= (λ p. side_end side s p fd))
  by_caller (Err e) h = refl
  by_caller (Ok p) h = by_key (pid - 1) p (place_is ps pid p h) (at p.descriptors fd) refl

  -- an end of the process in a place
  pub row_ends : (i : ℕ) (p : Process) → at ps i ≡ Some p
      → Agree f pipes (end_of_row side p ds fd) (side_end side s (process_of p) fd)
  row_ends i p h = agree _ _ (by_key i p h (at p.descriptors fd) refl)

  -- and of the one that has a pid and waits in no call
  pub ends : Agree f pipes (end_in side ps ds pid fd) (ready s pid >>= (λ p. side_end side s p fd))
  ends = agree _ _ (rw (ready_shown ps pid) (by_caller (ready_in ps pid) refl))

  -- the counts of a pipe are the machine's
  pub counted : (n place : ℕ) (r : Pipe) → at pipes n ≡ Some (place, r)
      → (readers itself s n ≡ r.readers) × (writers itself s n ≡ r.writers)
  counted n place r h =
      let row = subst (UsedRow (read_by ds n + 0) (written_by ds n + 0)) h (t.uses n) in
      let reading = readers_shown ps ds pipes files files_made n in
      let writing = writers_shown ps ds pipes files files_made n in
      (omega (arith, row.0, reading), omega (arith, row.1, writing))

  -- the end of an open that waits, and how often the other side of it was opened
  pub open_end : (j : Key) {p : Process} → at ps (pid - 1) ≡ Some p → {before : ℕ} → p.parked ≡ Some (Open j before)
      → (d : Description) × (r : Pipe) × (end_at itself s j.serial ≡ Some (end_of_rows f d r))
      × (others_at ds pipes j ≡ other_opens d.reads r)
  open_end j {p} here waits =
      let e = finds ds j (t.finds (pid - 1) 0 p j here (ap made_by waits)) in
      let r = finds pipes e.0.value.pipe (t.is_end j.serial (j.slot, e.0) e.1).0 in (
        e.0.value,
        r.0,
        end_shown j e.0 r.0 e.1 r.1,
        ap (others_in pipes) (ap (option_map value_of) (find_at ds j.slot j.serial e.0 e.1))
            ∙ ap (others_of e.0.value) (find_at pipes e.0.value.pipe.slot e.0.value.pipe.serial r.0 r.1),
      )

-- Pipes with their rings are seen as they are

abbrev pub as_kept : Sight Window
as_kept p = p

pub seen_as_kept : (ps : ProcessRows) (ds : DescriptionRows) (pipes : PipeRows) (files : Files) (files_made : ℕ)
    → state_seen as_kept ps ds pipes files files_made ≡ state_of ps ds pipes files files_made
seen_as_kept ps ds pipes files files_made =
    ap (λ (xs : List (Option (machine.Pipe Window))). record (state_of ps ds pipes files files_made) { pipes = xs })
    (each-same as_kept (λ p. refl) (pipes_of pipes))

pub kept_ends : (side : Option Side) {ps : ProcessRows} {ds : DescriptionRows} {pipes : PipeRows} (files : Files)
    (files_made : ℕ) → Tied ps ds pipes → (pid fd : ℕ)
    → Agree as_kept pipes (end_in side ps ds pid fd) (ready (state_of ps ds pipes files files_made) pid
    >>= (λ p. side_end side (state_of ps ds pipes files files_made) p fd))
kept_ends side {ps} {ds} {pipes} files files_made t pid fd =
    subst (λ s. Agree as_kept pipes (end_in side ps ds pid fd) (ready s pid >>= (λ p. side_end side s p fd)))
    (seen_as_kept ps ds pipes files files_made) (ends as_kept side files files_made t pid fd)
