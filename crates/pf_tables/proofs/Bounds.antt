-- How much a reply hands out, as the tables know it.

use Rattle.std.proofs.Common.{◌≡◌, ℕ, ◌≤◌, not, List, length, Option, Some, None, Ok, refl, ap, subst, ◌∙◌}
use Rattle.std.proofs.Common.{arith}
use Rattle.std.specs.Prelude.{min}
use Rattle.pf_tables.proofs.Common.{◌>>=◌, ◌>>◌, option_map, option_and_then, Window, Files, Limits, refuse_if, Segment}
use Rattle.pf_tables.proofs.Common.{bytes_of, at, weight, itself, State, End, ready, end_at, reading_end, EBADF}
use Rattle.pf_tables.proofs.Common.{find, Live, IsSound, UserPages, queue_of, Stands}
use Rattle.pf_tables.proofs.Common.{Covers, Namespace, meaning, pipe_meaning, pages, Owns, ProcessRows, DescriptionRows}
use Rattle.pf_tables.proofs.Common.{PipeRows, Description, Pipe, state_of, end_in, Kept, weight-le-sum_of}
use Rattle.pf_machine.specs.FileMap.{Path, names_below, listed, is_directory}
use Rattle.pf_machine.specs.Paths.{target}
use Rattle.pf_base.specs.Permissions.{allows}
use Rattle.pf_base.specs.declared.permissions.Want.TheVariants as Access
use Rattle.pf_machine.specs.Queue.{IsQueue}
use Rattle.pf_machine.proofs.QueueLaws.{length-joined-le}
use Rattle.pf_machine.proofs.HoldsLaws.{carries, passes}
use Rattle.pf_machine.specs.Calls as calls
use Rattle.pf_machine.specs.State as machine
use Rattle.pf_machine.specs.State.{end_of}
use Rattle.pf_machine.specs.Machine.{call, call_of as machine_call_of}
use Rattle.pf_base.specs.declared.TheConstants.{MAX_RESERVE}
use Rattle.pf_base.specs.declared.errno.Errno.TheVariants.{ENOTDIR, EACCES}
use Rattle.pf_base.specs.declared.progress.Side.TheVariants as sides
use Rattle.pf_base.specs.declared.step.Step.{Step}
use Rattle.pf_base.specs.declared.step.Step.TheVariants as steps
use Rattle.pf_ring.proofs.TableLaws.{ring_queue}
use Rattle.pf_tables.proofs.OwnsLaws.{ring_at-pipe, stands_at, pages_within}
use Rattle.pf_machine.proofs.ReplyLaws.{read_bytes, read-few, resume-few, list-few, quiet, few}
use Rattle.pf_tables.proofs.Ends.{end_of_rows, Agree, ends, named, not_lost, reaches}
use Rattle.pf_tables.proofs.Refusals.{both_came, not_refused, is_there, same_ok}
use Rattle.pf_tables.proofs.TablesShown.{from_map, was}
use Rattle.pf_tables.proofs.Transfers as transfers

-- No pipe has more bytes than all frames

module _ (f : Live) (n : Namespace) (sound : IsSound f) (owns : Owns f n) (most : n.limits.reserve ≤ MAX_RESERVE) where
  pub all_bytes : (j : ℕ) (p : machine.Pipe Segment) → at (meaning f n.state).pipes j ≡ Some p
      → length (bytes_of p.queue) ≤ 268435456
  all_bytes j p there =
      let w = was (pipe_meaning f) n.state.pipes j p there in
      let fits = rw (ring_at-pipe n.state.pipes j w.0 w.1) at (owns.joined.fits j) in
      let queue : IsQueue (queue_of f w.0.queue) =
      ring_queue f w.0.queue sound (stands_at f n.state j w.0 owns.joined w.1) fits in
      let bytes = length-joined-le (queue_of f w.0.queue).segments queue.each in
      let slots = queue.slots in
      let h : machine.Pipe Window → ℕ = λ (q : machine.Pipe Window). q.queue.capacity in
      let weighs = ap (weight h) w.1 in
      let among = weight-le-sum_of h n.state.pipes j in
      let within : pages n.state ≤ n.limits.reserve = pages_within f n owns in
      rw (← w.2) (omega (arith, bytes, slots, weighs, among, within, most))

-- A read

module _ {files : Files} {files_made : ℕ} {limits : Limits} {charges : UserPages} {ps : ProcessRows}
    {ds : DescriptionRows} {pipes : PipeRows} (k : Kept charges ps ds pipes) {n : Namespace}
    (view : record { limits = limits; state = state_of ps ds pipes files files_made } ≡ n)
    (pid fd count : ℕ) where
  abbrev shows : Live → State Segment ℕ
  shows f = meaning f (state_of ps ds pipes files files_made)

  its : (f : Live) → Agree (pipe_meaning f) pipes (end_in (Some sides.Read) ps ds pid fd)
      (ready (shows f) pid >>= (λ p. reading_end itself (shows f) p fd))
  its f = ends (pipe_meaning f) (Some sides.Read) files files_made k.tied pid fd

  -- nothing where there is no end that reads
  pub no_read : ((d : Description) → end_in (Some sides.Read) ps ds pid fd ≡ Ok d → ⊥)
      → Covers n (steps.Read pid fd count) 0
  no_read none f sound owns =
      rw (← view) (few (shows f) 0 (call limits (shows f) (steps.Read pid fd count)) (read-few (shows f) 0 limits pid fd
      count (λ x is. let w = named (its f) is in absurd (none w.0 w.1))))

  module _ (d : Description) (h : end_in (Some sides.Read) ps ds pid fd ≡ Ok d) where
    -- it has a pipe
    pub no_pipe : find pipes d.pipe.slot d.pipe.serial ≡ None → Covers n (steps.Read pid fd count) 0
    no_pipe none f sound owns = absurd (not_lost (its f) h none)

    -- what the pipe holds, up to what is asked for
    pub reads : (r : Pipe) → find pipes d.pipe.slot d.pipe.serial ≡ Some r → (held : ℕ)
        → ((f : Live) → IsSound f → Stands f r.ring.segments → held ≡ length (bytes_of (queue_of f r.ring)))
        → Covers n (steps.Read pid fd count) (min held count)
    reads r handed held holds f sound owns =
        let stands : Stands f r.ring.segments = transfers.stands_in k view owns d handed in
        let number : held ≡ length (bytes_of (queue_of f r.ring)) = holds f sound stands in
        rw (← view)
        (few (shows f) (min held count) (call limits (shows f) (steps.Read pid fd count))
        (read-few (shows f) (min held count) limits pid fd count
        (λ x is.
        let end : end_of_rows (pipe_meaning f) d r ≡ x = cc (reaches (its f) h handed) in
        let bytes : length (bytes_of (queue_of f r.ring)) ≡ length (bytes_of x.pipe.queue) =
        ap (λ (y : End Segment ℕ). length (bytes_of y.pipe.queue)) end in
        omega (arith, read_bytes (shows f) x count, bytes, number))))

-- A list

module _ {files : Files} {files_made : ℕ} (limits : Limits) (ps : ProcessRows) (ds : DescriptionRows) (pipes : PipeRows)
    (n : Namespace) (view : record { limits = limits; state = state_of ps ds pipes files files_made } ≡ n) where
  pub lists : (most : ℕ) → ((path : Path) → length (listed (names_below path files)) ≤ most) → (pid : ℕ) (path : List ℕ)
      → Covers n (steps.List pid path) most
  lists most h pid path f sound owns =
      rw (← view)
      (few s most (call limits s (steps.List pid path)) (list-few s most limits pid path
      (λ p ready. carries Short (target files p.cred path) _
      (λ t. passes Short (refuse_if (not (is_directory t.file)) ENOTDIR) _
      (passes Short (refuse_if (not (allows p.cred t.file.meta Access.Read)) EACCES) _ (h t.path))))))
    where
      s : State Segment ℕ
      s = meaning f (state_of ps ds pipes files files_made)

      Short : List ℕ → Type 0
      Short names = length names ≤ most

-- A call that is tried again

-- the pipe of an end that reads stands
abbrev Standing : State Segment ℕ → End Segment ℕ → Type 0
Standing s e = at s.pipes e.description.pipe ≡ Some e.pipe

came : {A B : Type 0} (h : A → Option B) (o : Option A) {y : B} → option_and_then h o ≡ Some y
    → (x : A) × (o ≡ Some x) × (h x ≡ Some y)
came h None is = absurd (cc)
came h (Some x) is = (x, refl, is)

reading_there : (s : State Segment ℕ) (p : machine.Process ℕ) (fd : ℕ) (e : End Segment ℕ)
    → reading_end itself s p fd ≡ Ok e → Standing s e
reading_there s p fd e is =
    let came_by = both_came (end_of itself s p fd)
    (λ (x : End Segment ℕ). refuse_if (not x.description.reads) EBADF >> Ok x) is in
    let same = same_ok (not_refused (not came_by.0.description.reads) EBADF (Ok came_by.0) came_by.2).1 in
    let number = came (end_at itself s) (at p.descriptors fd)
    (is_there EBADF (option_and_then (end_at itself s) (at p.descriptors fd)) came_by.1) in
    let description = came (λ (d : machine.Description ℕ). option_map
    (λ (pipe : machine.Pipe Segment). record { description = d; pipe = pipe }) (at s.pipes d.pipe))
    (at s.descriptions number.0) number.2 in
    let pipe = from_map (λ (pipe : machine.Pipe Segment). record { description = description.0; pipe = pipe })
    (at s.pipes description.0.pipe) came_by.0 description.2 in
    subst (Standing s) (pipe.2 ∙ same) pipe.1

-- what a call asks for, as far as it hands anything out
abbrev pub asked : Option (calls.Call ℕ) → ℕ
asked (Some (calls.Moving (calls.Reading fd count))) = count
asked _ = 0

pub resumes : (n : Namespace) → n.limits.reserve ≤ MAX_RESERVE → (pid : ℕ) (o : Option (calls.Call ℕ))
    → o ≡ machine_call_of n.state pid → Covers n (steps.Resume pid) (min 268435456 (asked o))
resumes n most pid o is f sound owns =
    let s = meaning f n.state in
    few s (min 268435456 (asked o)) (call n.limits s (steps.Resume pid))
    (resume-few s (min 268435456 (asked o)) n.limits pid
    (λ p fd count e waits reads.
    let all = all_bytes f n sound owns most e.description.pipe e.pipe (reading_there s p fd e reads) in
    let asks : asked o ≡ count = ap asked (is ∙ waits) in
    omega (arith, read_bytes s e count, all, asks)))

-- Any other step

pub others : (n : Namespace) (step : Step) → ((pid fd count : ℕ) → step ≡ steps.Read pid fd count → ⊥)
    → ((pid : ℕ) (path : List ℕ) → step ≡ steps.List pid path → ⊥) → ((pid : ℕ) → step ≡ steps.Resume pid → ⊥)
    → Covers n step 0
others n step r l a f sound owns =
    few (meaning f n.state) 0 (call n.limits (meaning f n.state) step) (quiet (meaning f n.state) 0 n.limits step r l a)
