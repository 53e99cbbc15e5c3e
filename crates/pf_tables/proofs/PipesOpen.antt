-- A pipe is made: two descriptions and a pipe under the next numbers, and two keys at the lowest free descriptors.

use Rattle.std.proofs.Common.{◌≡◌, ℕ, suc, ◌+◌, ◌-◌, ◌<◌, ◌≤◌, Bool, true, false, List, [], ◌∷◌, ◌++◌, length, set}
use Rattle.std.proofs.Common.{Option, Some, None, ◌||◌, Result, Ok, IsOk, nat_lt, nat_le, refl, sym, ap, subst, ◌∙◌}
use Rattle.std.proofs.Common.{Err, arith, append_assoc}
use Rattle.std.proofs.Math.Seq.{set-append_seam}
use Rattle.pf_tables.proofs.Refusals.{not_refused, same_ok, too_high, low_enough, then-bind}
use Rattle.pf_tables.proofs.Common.{option_map, Window, ◌>>=◌, ◌>>◌, refuse_if, Files, at, put_at, change_at}
use Rattle.pf_tables.proofs.Common.{first_free, told_as, is_privileged, empty, State, Outcome, of_ready, told, is_spent}
use Rattle.pf_tables.proofs.Common.{capacity_for, MAX_DESCRIPTORS, Errno, EMFILE, ENFILE, one_more, Joined, unopened}
use Rattle.pf_tables.proofs.Common.{UserPages, charged_to, Charges, Namespace, rings_of, ProcessRows, DescriptionRows}
use Rattle.pf_tables.proofs.Common.{PipeRows, Key, Process, Description, Pipe, ready_in, process_of, description_of}
use Rattle.pf_tables.proofs.Common.{pipe_of, processes_of, descriptions_of, pipes_of, state_of, Tied, Kept, Named}
use Rattle.pf_tables.proofs.Common.{Makes, map-set, length-map, map_push, length_push, set-set, at-push_new, at_within}
use Rattle.pf_tables.proofs.Common.{at-put_same, at-first_free, first_free-map}
use Rattle.pf_machine.proofs.MapLaws.{second_free-map}
use Rattle.pf_base.specs.Capacities.{new_capacity}
use Rattle.pf_machine.specs.State as machine
use Rattle.pf_machine.specs.Pipes.{second_free, reading as machine_reading, writing as machine_writing, new_pipe}
use Rattle.pf_machine.specs.Pipes.{with_two, opened, pipe}
use Rattle.pf_base.specs.declared.TheConstants.{MAX_MADE}
use Rattle.pf_base.specs.declared.step.Reply.TheVariants.{Fds}
use Rattle.pf_limits.proofs.SumLaws.{made}
use Rattle.pf_tables.proofs.OwnsLaws.{joined_opened}
use Rattle.pf_tables.specs.Rows.{with_keys}
use Rattle.pf_tables.specs.Tables.{two_free}
use Rattle.pf_tables.proofs.ProcessTableReady.{readies, place_is}
use Rattle.pf_tables.proofs.TablesTied.{finds-new, miss, once, sides, described, piped, put}
use Rattle.pf_tables.proofs.TablesSettled.{makes_over}

-- Its two lowest free descriptors

abbrev serial_of : Key → ℕ
serial_of k = k.serial

-- the second one is behind the first, where there is one
pub in_order : {N : Type 0} (xs : List (Option N)) → first_free xs ≤ second_free xs
in_order [] = omega arith
in_order (None ∷ xs) = omega arith
in_order (Some x ∷ xs) = omega (arith, in_order xs)

-- it is the first that is left, whatever stands at the first
second_left : {N : Type 0} (xs : List (Option N)) (n : N) → second_free xs ≡ first_free (put_at xs (first_free xs) n)
second_left [] n = refl
second_left (None ∷ xs) n = refl
second_left (Some x ∷ xs) n = ap suc (second_left xs n)

module _ (xs : List (Option Key)) where
  pub has_none : MAX_DESCRIPTORS ≤ second_free xs → Err EMFILE ≡ two_free xs
  has_none none = sym (too_high _ _ _ _ none)

  module _ (first : ℕ) (lowest : first ≡ first_free xs) (second : ℕ)
      (next : (k : Key) → second ≡ first_free (put_at xs first k)) where
    pub second_is : second ≡ second_free xs
    second_is =
        let zero : Key = record { slot = 0; serial = 0 } in
        next zero ∙ ap (λ m. first_free (put_at xs m zero)) lowest ∙ sym (second_left xs zero)

    pub has_two : second < MAX_DESCRIPTORS → Ok (first, second) ≡ two_free xs
    has_two within =
        (λ i. Ok (lowest i, second_is i)) ∙ sym (low_enough _ _ _ _ (omega (arith, second_is, within)))

  -- which they are
  module _ (free : ℕ × ℕ) (two : Ok free ≡ two_free xs) where
    pub known : (free.0 ≡ first_free xs) × (free.1 ≡ second_free xs)
    known =
        let full = nat_le MAX_DESCRIPTORS (second_free xs) in
        let same = same_ok (sym (not_refused full EMFILE (Ok (first_free xs, second_free xs)) (sym two)).1) in
        (ap (λ (x : ℕ × ℕ). x.0) same, ap (λ (x : ℕ × ℕ). x.1) same)

-- The calls that make a pipe

-- a description that is stored with no name, and then named
pub named_once : (ds xs ys : DescriptionRows) (k : Key) (d : Description) → k.serial ≡ length ds
    → xs ≡ ds ++ Some (k.slot, record { value = d; names = 0 }) ∷ [] → ys ≡ change_at one_more xs k.serial
    → ys ≡ ds ++ Some (k.slot, once d) ∷ []
named_once ds xs ys k d serial stored named =
    let new : Option (ℕ × Named Description) = Some (k.slot, record { value = d; names = 0 }) in
    named
    ∙ (λ i. change_at one_more (stored i) (serial i))
    ∙ ap (λ o. set (ds ++ new ∷ []) (length ds) (option_map one_more o)) (at-push_new ds new)
    ∙ set-append_seam ds new [] (Some (k.slot, once d))

abbrev pub reading : Key → Bool → Description
reading r nonblocking = record { pipe = r; reads = true; writes = false; nonblocking = nonblocking }

abbrev pub writing : Key → Bool → Description
writing r nonblocking = record { pipe = r; reads = false; writes = true; nonblocking = nonblocking }

abbrev pub two_ended : ℕ → ℕ → Pipe
two_ended slots owner = record { ring = empty slots; owner = owner; readers = 1; writers = 1; opens = unopened None }

-- a list with one more at its end
pub pushed : {X : Type 0} {xs ys zs : List X} {x y : X} → zs ≡ ys ++ x ∷ [] → ys ≡ xs → x ≡ y → zs ≡ xs ++ y ∷ []
pushed made from is = made ∙ (λ i. from i ++ is i ∷ [])

-- the rows after all calls, as their contracts give them
module _ (ps : ProcessRows) (ds : DescriptionRows) (pipes : PipeRows) (pid : ℕ) (free : ℕ × ℕ) (nonblocking : Bool)
    (slots owner : ℕ) (ps' : ProcessRows) (ds' : DescriptionRows) (pipes' : PipeRows) where
  pub record Puts : Type 0 where
    pub r : Key
    pub j : Key
    pub k : Key
    pub r_is : r.serial ≡ length pipes
    pub piped_to : pipes' ≡ pipes ++ Some (r.slot, two_ended slots owner) ∷ []
    pub j_is : j.serial ≡ length ds
    pub k_is : k.serial ≡ length (ds ++ Some (j.slot, once (reading r nonblocking)) ∷ [])
    pub named_to : ds' ≡ (ds ++ Some (j.slot, once (reading r nonblocking)) ∷ []) ++ Some
        (k.slot, once (writing r nonblocking)) ∷ []
    pub set_to : ps' ≡ set ps (pid - 1) (with_keys free.0 j free.1 k (at ps (pid - 1)))

-- What stands before and after

module _ {files : Files} {files_made : ℕ} {charges : UserPages} {ps : ProcessRows} {ds : DescriptionRows}
    {pipes : PipeRows} (kept : Kept charges ps ds pipes) {n : Namespace}
    (view : record { limits = charges.limits; state = state_of ps ds pipes files files_made } ≡ n) (pid : ℕ)
    (nonblocking : Bool) {p : Process} (is : ready_in ps pid ≡ Ok p) where
  abbrev s : State Window ℕ
  s = state_of ps ds pipes files files_made

  abbrev calls : Namespace → Result (Outcome Window ℕ) Errno
  calls m =
      of_ready m.state pid (λ q. pipe (length m.state.descriptions) (length m.state.descriptions + 1)
      (length m.state.pipes) m.limits m.state pid q nonblocking)

  -- one more pipe, of so many slots
  abbrev with_pipe : ℕ → State Window ℕ
  with_pipe slots =
      opened (length s.descriptions) (length s.descriptions + 1) (length s.pipes) s pid nonblocking (empty slots)
      (process_of p)

  -- the call, by what the code finds
  abbrev found : Result (ℕ × ℕ) Errno → Bool → Result ℕ Errno → Result (Outcome Window ℕ) Errno
  found free spent capacity = do
    two ← free
    refuse_if spent ENFILE
    slots ← capacity
    Ok (told (with_pipe slots) (Fds two.0 two.1))

  abbrev capacity : Result ℕ Errno
  capacity =
      told_as ENFILE
      (new_capacity charges.limits (is_privileged p.cred) (charged_to charges p.cred.uid) charges.total)

  pub by_finds : {free : Result (ℕ × ℕ) Errno} {spent : Bool} {slots : Result ℕ Errno} → free ≡ two_free p.descriptors
      → spent ≡ (is_spent ds 2 || is_spent pipes 1) → slots ≡ capacity → calls n ≡ found free spent slots
  by_finds {free} {spent} {slots} free_is spent_is slots_is =
      subst (λ m. calls m ≡ found free spent slots) view
      (ap (λ r. r >>= (λ q. pipe (length s.descriptions) (length s.descriptions + 1) (length s.pipes) charges.limits s
      pid q nonblocking)) (readies ps pid p is)
      ∙ then-bind (refuse_if (nat_le MAX_DESCRIPTORS (second_free (process_of p).descriptors)) EMFILE)
      (Ok (first_free (process_of p).descriptors, second_free (process_of p).descriptors)) (λ two. found (Ok two)
      (is_spent s.descriptions 2 || is_spent s.pipes 1) (told_as ENFILE (capacity_for charges.limits s p.cred)))
      ∙ (λ i. let second = second_free-map serial_of p.descriptors i in
      found (refuse_if (nat_le MAX_DESCRIPTORS second) EMFILE >> Ok (first_free-map serial_of p.descriptors i, second))
      (nat_lt MAX_MADE (length-map ds (option_map description_of) i + 2)
      || nat_lt MAX_MADE (length-map pipes (option_map pipe_of) i + 1))
      (told_as ENFILE (new_capacity charges.limits (is_privileged p.cred) (sym (kept.charged.users p.cred.uid) i)
      (sym kept.charged.total i))))
      ∙ (λ i. found (sym free_is i) (sym spent_is i) (sym slots_is i)))

  -- nothing stands against it
  pub goes : {free : ℕ × ℕ} {spent : Bool} {slots : ℕ} → Ok free ≡ two_free p.descriptors
      → spent ≡ (is_spent ds 2 || is_spent pipes 1) → spent ≡ false → Ok slots ≡ capacity → IsOk (calls n)
  goes two spent left room = subst IsOk (sym (by_finds two (sym left ∙ spent) room)) refl

  stands : at ps (pid - 1) ≡ Some p
  stands = place_is ps pid p is

  module _ {free : ℕ × ℕ} (two : Ok free ≡ two_free p.descriptors) (within : free.1 < MAX_DESCRIPTORS) {slots : ℕ}
      {ps' : ProcessRows} {ds' : DescriptionRows} {pipes' : PipeRows}
      (m : Puts ps ds pipes pid free nonblocking slots p.cred.uid ps' ds' pipes') where
    first_is : free.0 ≡ first_free p.descriptors
    first_is = (known p.descriptors free two).0

    abbrev one : Process
    one = record p { descriptors = put_at p.descriptors free.0 m.j }

    abbrev both : Process
    both = record p { descriptors = put_at (put_at p.descriptors free.0 m.j) free.1 m.k }

    abbrev ds1 : DescriptionRows
    ds1 = ds ++ Some (m.j.slot, once (reading m.r nonblocking)) ∷ []

    processes_are : ps' ≡ put_at ps (pid - 1) both
    processes_are = m.set_to ∙ ap (λ o. set ps (pid - 1) (with_keys free.0 m.j free.1 m.k o)) stands

    -- the chain: a pipe, and then each of its descriptions, whose key is put down
    tied_after : Tied ps' ds' pipes'
    tied_after =
        let a = sides (reading m.r nonblocking) in
        let b = sides (writing m.r nonblocking) in
        let new = finds-new pipes (two_ended slots p.cred.uid) m.r m.r_is in
        let with_pipe =
        piped m.r (two_ended slots p.cred.uid) (reading m.r nonblocking ∷ writing m.r nonblocking ∷ []) m.r_is
        ((new, omega arith), ((new, omega arith), tt))
        (λ n ne.
        let reads = miss m.r.serial n true (λ e. ne (sym e)) in
        let none = miss m.r.serial n false (λ e. ne (sym e)) in
        (omega (arith, reads, none), omega (arith, reads, none)))
        (omega (arith, a.0, b.0)) (omega (arith, a.1, b.1)) (omega arith) kept.tied in
        let first_in : free.0 < MAX_DESCRIPTORS =
        omega (arith, in_order p.descriptors, first_is, (known p.descriptors free two).1, within) in
        let next : free.1 ≡ first_free one.descriptors =
        (known p.descriptors free two).1 ∙ second_left p.descriptors m.j
        ∙ ap (λ a. first_free (put_at p.descriptors a m.j)) (sym first_is) in
        let with_first = put (pid - 1) free.0 p stands first_in m.j
        (ap (at p.descriptors) first_is ∙ at-first_free p.descriptors)
        (described m.j (reading m.r nonblocking) m.j_is with_pipe) in
        let with_second = put (pid - 1) free.1 one
        (at-put_same ps (pid - 1) (Some one) (at_within ps (pid - 1) p stands)) within m.k
        (ap (at one.descriptors) next ∙ at-first_free one.descriptors)
        (described m.k (writing m.r nonblocking) m.k_is with_first) in
        rw (processes_are, m.named_to, m.piped_to, ← set-set ps (pid - 1) (Some one) (Some both)) with_second

    pub opened-kept : {charges' : UserPages} → Charges charges charges' p.cred.uid slots → Kept charges' ps' ds' pipes'
    opened-kept {charges'} more = record {
      tied = tied_after;
      charged =
          rw (m.piped_to, map_push (option_map pipe_of) pipes (Some (m.r.slot, two_ended slots p.cred.uid)))
          (made (λ (q : machine.Pipe Window). q.owner) (λ (q : machine.Pipe Window). q.queue.capacity) charges charges'
          (pipes_of pipes) kept.charged (pipe_of (m.r.slot, two_ended slots p.cred.uid)) more);
    }

    -- what it means
    keys_shown : process_of both ≡ with_two (length s.descriptions) (length s.descriptions + 1) (process_of p)
    keys_shown =
        let drawn : length s.descriptions ≡ length ds = length-map ds (option_map description_of) in
        let first = map-set (option_map serial_of) p.descriptors free.0 (Some m.j) in
        let second = map-set (option_map serial_of) (put_at p.descriptors free.0 m.j) free.1 (Some m.k) in
        let a : free.0 ≡ first_free (process_of p).descriptors =
        first_is ∙ sym (first_free-map serial_of p.descriptors) in
        let b : free.1 ≡ second_free (process_of p).descriptors =
        (known p.descriptors free two).1 ∙ sym (second_free-map serial_of p.descriptors) in
        let number : m.j.serial ≡ length s.descriptions = m.j_is ∙ sym drawn in
        let next : m.k.serial ≡ length s.descriptions + 1 =
        omega (arith, m.k_is, length_push ds (Some (m.j.slot, once (reading m.r nonblocking))), drawn) in
        cc

    shown : state_of ps' ds' pipes' files files_made ≡ with_pipe slots
    shown =
        let keys = keys_shown in
        let processes = ap processes_of processes_are ∙ map-set (option_map process_of) ps (pid - 1) (Some both) in
        let second =
        ap descriptions_of m.named_to
        ∙ map_push (option_map description_of) ds1 (Some (m.k.slot, once (writing m.r nonblocking))) in
        let first = map_push (option_map description_of) ds (Some (m.j.slot, once (reading m.r nonblocking))) in
        let joined = append_assoc s.descriptions (Some (machine_reading m.r.serial nonblocking) ∷ [])
        (Some (machine_writing m.r.serial nonblocking) ∷ []) in
        let number : m.r.serial ≡ length s.pipes = m.r_is ∙ sym (length-map pipes (option_map pipe_of)) in
        let all =
        ap pipes_of m.piped_to ∙ map_push (option_map pipe_of) pipes (Some (m.r.slot, two_ended slots p.cred.uid)) in
        cc

    pub makes_pipe : {charges' : UserPages} → Charges charges charges' p.cred.uid slots
        → false ≡ (is_spent ds 2 || is_spent pipes 1) → Ok slots ≡ capacity
        → charges.total + slots ≤ charges.limits.reserve
        → Makes n (record { limits = charges'.limits; state = state_of ps' ds' pipes' files files_made }) (calls n)
        (Fds free.0 free.1)
    makes_pipe more unspent given fits =
        makes_over tied_after files files_made view more.limits
        (λ f before. subst (λ (x : State Window ℕ). Joined f (rings_of x)) (sym shown)
        (joined_opened f s.pipes (new_pipe (empty slots) p.cred.uid None) refl before.joined
        (omega (arith, fits, before.reserve, kept.charged.total))))
        calls (Fds free.0 free.1)
        (ap calls view ∙ by_finds two unspent given ∙ (λ i. Ok (told (sym shown i) (Fds free.0 free.1))))
