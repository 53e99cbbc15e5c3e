-- An open of a FIFO: its ends are counted, and its description is made.

use Rattle.std.proofs.Common.{◌≡◌, ◌≢◌, ℕ, ◌+◌, ◌-◌, ◌<◌, ◌≤◌, Bool, true, false, List, [], ◌∷◌, ◌++◌, length, set}
use Rattle.std.proofs.Common.{Option, Some, None, Ok, if◌then◌else◌, refl, sym, ap, subst, ◌∙◌, arith}
use Rattle.pf_tables.proofs.TablesTied.{in_place, by_set, found, finds-new, miss, sides, once, repiped, described}
use Rattle.pf_tables.proofs.TablesTied.{piped, moved, put, pipe_row}
use Rattle.pf_tables.specs.Rows.{AreKeys, file_at, holding}
use Rattle.pf_tables.proofs.Refusals.{same_some}
use Rattle.pf_tables.proofs.TablesShown.{shown_same, shown}
use Rattle.pf_tables.proofs.Common.{option_map, Window, at, put_at, first_free, one_if, MAX_DESCRIPTORS, Reply}
use Rattle.pf_tables.proofs.Common.{UserPages, AreCharged, counted, Describes, ProcessRows, DescriptionRows, PipeRows}
use Rattle.pf_tables.proofs.Common.{Key, Process, Description, Pipe, ready_in, made_by, reads_it, writes_it, opens_at}
use Rattle.pf_tables.proofs.Common.{opens_of, pipe_of, pipes_of, NoMore, AreFifos, TiedWith, Tied, map-set, at_within}
use Rattle.pf_tables.proofs.Common.{at-first_free}
use Rattle.pf_machine.specs.State as machine
use Rattle.pf_limits.proofs.SumLaws.{kept}
use Rattle.pf_tables.specs.declared.tables.opens.Access.{Access as Stored}
use Rattle.pf_tables.specs.Opened.{end_of, taking}
use Rattle.pf_tables.proofs.ProcessTableReady.{place_is, is_awake}

-- an open is for a side at least
abbrev pub IsSided : Stored → Type 0
IsSided a = 0 < one_if a.reads + one_if a.writes

module _ (a : Stored) (sided : IsSided a) (k : Key) where
  -- the description counts for no other pipe
  apart : (n : ℕ) → n ≢ k.serial → (0 ≡ reads_it n (end_of a k) + 0) × (0 ≡ writes_it n (end_of a k) + 0)
  apart n ne =
      let reads = miss k.serial n a.reads (λ e. ne (sym e)) in
      let writes = miss k.serial n a.writes (λ e. ne (sym e)) in
      (omega (arith, reads), omega (arith, writes))

  module _ (ps : ProcessRows) (ds : DescriptionRows) (pipes : PipeRows) (t : Tied ps ds pipes) where
    -- A pipe that stands gets its ends, and its description is in the hand
    pub entered : (p : Pipe) → at pipes k.serial ≡ Some (k.slot, p)
        → TiedWith [] (end_of a k ∷ []) ps ds (put_at pipes k.serial (k.slot, counted a p))
    entered p stands =
        let s = sides (end_of a k) in
        let r = pipe_row k p stands t in
        repiped t k.serial (k.slot, p) stands (Some (k.slot, counted a p)) (end_of a k ∷ []) (λ e h. in_place h)
        ((found pipes k p stands, sided), tt) apart
        (omega (arith, r.0, s.0), omega (arith, r.1, s.1), omega (arith, s.0, s.1, sided))

    -- A pipe is made with its ends
    pub founded : (p : Pipe) → k.serial ≡ length pipes → p.readers ≡ 0 → p.writers ≡ 0
        → TiedWith [] (end_of a k ∷ []) ps ds (pipes ++ Some (k.slot, counted a p) ∷ [])
    founded p k_is none nobody =
        let s = sides (end_of a k) in
        piped k (counted a p) (end_of a k ∷ []) k_is ((finds-new pipes (counted a p) k k_is, sided), tt) apart
        (omega (arith, none, s.0)) (omega (arith, nobody, s.1)) (omega (arith, none, nobody, sided)) t

-- The description is made, with one name: a descriptor, or the open that waits
module _ {ps ps' : ProcessRows} {ds ds' : DescriptionRows} (pipes : PipeRows) {pid fd : ℕ} {d : Description}
    {before : Option ℕ} {reply : Reply} (z : Describes ps ps' ds ds' pid fd d before reply) {p : Process}
    (is : ready_in ps pid ≡ Ok p) (lowest : fd ≡ first_free p.descriptors) (within : fd < MAX_DESCRIPTORS)
    (t : TiedWith [] (d ∷ []) ps ds pipes) where
  abbrev after : DescriptionRows
  after = ds ++ Some (z.k.slot, once d) ∷ []

  pub opener : at ps (pid - 1) ≡ Some p
  opener = place_is ps pid p is

  in_hand : TiedWith (z.k ∷ []) [] ps after pipes
  in_hand = described z.k d z.k_is t

  by_waiting : (b : Option ℕ) → Tied (put_at ps (pid - 1) (taking fd b z.k p)) after pipes
  by_waiting None =
      put (pid - 1) fd p opener within z.k (ap (at p.descriptors) lowest ∙ at-first_free p.descriptors) in_hand
  by_waiting (Some n) =
      subst (λ o. TiedWith (holding o []) [] (put_at ps (pid - 1) (taking fd (Some n) z.k p)) after pipes)
      (ap made_by (is_awake ps pid p is))
      (moved [] (pid - 1) 0 p (taking fd (Some n) z.k p) opener (omega arith) (Some z.k) refl in_hand)

  pub seated_is : ps' ≡ put_at ps (pid - 1) (taking fd before z.k p)
  seated_is = z.seated ∙ ap (λ o. set ps (pid - 1) (option_map (taking fd before z.k) o)) opener

  pub admitted : Tied ps' ds' pipes
  admitted = rw (seated_is, z.described) (by_waiting before)

-- The counters of pages stay the sums, as no ring changes
pub entered-charged : (charges : UserPages) (a : Stored) (pipes : PipeRows) (k : Key) (p : Pipe)
    → at pipes k.serial ≡ Some (k.slot, p) → AreCharged charges (pipes_of pipes)
    → AreCharged charges (pipes_of (put_at pipes k.serial (k.slot, counted a p)))
entered-charged charges a pipes k p stands is =
    subst (AreCharged charges) (sym (map-set (option_map pipe_of) pipes k.serial (Some (k.slot, counted a p))))
    (kept (λ (q : machine.Pipe Window). q.owner) (λ (q : machine.Pipe Window). q.queue.capacity) charges
    (pipes_of pipes) k.serial (pipe_of (k.slot, p)) (pipe_of (k.slot, counted a p)) is
    (shown pipe_of pipes k.serial (k.slot, p) stands) refl refl)

-- There are no more opens than descriptions, as one more is drawn
pub entered-fifos : (es : List (ℕ × Key)) {drawn more : ℕ} (a : Stored) (pipes : PipeRows) (k : Key) (p : Pipe)
    → at pipes k.serial ≡ Some (k.slot, p) → more ≡ drawn + 1 → AreFifos es drawn (opens_of pipes)
    → AreFifos es more (opens_of (put_at pipes k.serial (k.slot, counted a p)))
entered-fifos es {drawn} {more} a pipes k p stands more_is f =
    subst (AreFifos es more) (sym (map-set (option_map opens_at) pipes k.serial (Some (k.slot, counted a p))))
    (record {
      keys =
          subst (AreKeys es)
          (sym (shown_same file_at (opens_of pipes) k.serial (k.slot, p.opens) (opens_at (k.slot, counted a p)) was
          refl)) f.keys;
      few = λ m o. by_set (λ _ y. y ≡ Some o → NoMore more o) (opens_of pipes) k.serial
          (Some (opens_at (k.slot, counted a p))) (at_within (opens_of pipes) k.serial (k.slot, p.opens) was)
          (λ h. subst (NoMore more) (same_some h) (
            once_more a.reads p.opens.read few.0,
            once_more a.writes p.opens.write few.1,
          ))
          (λ j _ h. let old = f.few j o h in (omega (arith, old.0, more_is), omega (arith, old.1, more_is))) m;
    })
  where
    was : at (opens_of pipes) k.serial ≡ Some (k.slot, p.opens)
    was = shown opens_at pipes k.serial (k.slot, p) stands

    few : NoMore drawn (k.slot, p.opens)
    few = f.few k.serial (k.slot, p.opens) was

    once_more : (b : Bool) (n : ℕ) → n ≤ drawn → (if b then n + 1 else n) ≤ more
    once_more true n le = omega (arith, le, more_is)
    once_more false n le = omega (arith, le, more_is)
