-- A descriptor goes: a name is lost, and where it was the last its description, and perhaps the description's pipe.
-- Each step of the code moves something into the hand or out of it.

use Rattle.std.proofs.Common.{◌≡◌, ◌≢◌, ℕ, suc, ◌-◌, ◌<◌, ◌≤◌, Bool, true, false, [], ◌∷◌, map, set, Option, Some, None}
use Rattle.std.proofs.Common.{IsSome, is_some, IfSome, refl, sym, ap, subst, ◌∙◌, arith, if◌then◌else◌}
use Rattle.std.proofs.lemmas.Bool.{ltb-true, ltb-false}
use Rattle.pf_tables.proofs.Refusals.{same_some}
use Rattle.pf_tables.proofs.TablesShown.{shown_same, shown, find_at, set_same}
use Rattle.pf_tables.proofs.Common.{Limits, Namespace, option_map, option_and_then, itself, Files, at, put_at, clear_at}
use Rattle.pf_tables.proofs.Common.{change_at, one_if, sweep, find, names_of, ProcessRows, DescriptionRows, PipeRows}
use Rattle.pf_tables.proofs.Common.{Key, Named, Process, Description, Pipe, process_of, description_of, pipe_of}
use Rattle.pf_tables.proofs.Common.{processes_of, descriptions_of, pipes_of, state_of, reads_it, writes_it, held}
use Rattle.pf_tables.proofs.Common.{TiedWith, Tied, descriptor, LetsGo, map-set, at-map, at_within, with_fewer, is_used}
use Rattle.pf_tables.proofs.Common.{left, Left, names_it}
use Rattle.pf_machine.specs.State as machine
use Rattle.pf_machine.specs.Descriptors.{without_descriptor}
use Rattle.pf_machine.proofs.SweepLaws.{with_processes}
use Rattle.pf_fds.specs.Descriptions.{one_less}
use Rattle.pf_tables.specs.Rows.{call_of, key_at, without_key, gone, holding}
use Rattle.pf_tables.proofs.TablesTied.{Uses, finds, miss, names_one, names_none, sides, once, moved, redescribed}
use Rattle.pf_tables.proofs.TablesTied.{repiped, place_and_end, names_row, pipe_row, in_place}
use Rattle.pf_tables.proofs.TablesSettled.{Within, within_row, within_same, changed-swept}

-- What the tables show of a descriptor

module _ (ps : ProcessRows) (ds : DescriptionRows) (pipes : PipeRows) {files : Files} {files_made : ℕ}
    {limits : Limits} {n : Namespace}
    (view : record { limits = limits; state = state_of ps ds pipes files files_made } ≡ n) (i fd : ℕ) where
  pub descriptor_shown : descriptor n.state i fd ≡ option_map (λ k. k.serial) (key_at fd (at ps i))
  descriptor_shown = rw (← view, at-map process_of ps i) (by_place (at ps i))
    where
      by_place : (o : Option Process) → option_and_then (λ (p : machine.Process ℕ). at p.descriptors fd)
          (option_map process_of o) ≡ option_map (λ k. k.serial) (key_at fd o)
      by_place None = refl
      by_place (Some p) = at-map (λ (k : Key). k.serial) p.descriptors fd

  -- there is one where there is a key
  pub open_shown : is_some (key_at fd (at ps i)) ≡ is_some (descriptor n.state i fd)
  open_shown = rw descriptor_shown (by_key (key_at fd (at ps i)))
    where
      by_key : (o : Option Key) → is_some o ≡ is_some (option_map (λ (k : Key). k.serial) o)
      by_key None = refl
      by_key (Some k) = refl

-- and of one that is emptied
emptied_shown : (ps : ProcessRows) (i fd : ℕ) → processes_of (set ps i (without_key fd (at ps i)))
    ≡ change_at (without_descriptor fd) (processes_of ps) i
emptied_shown ps i fd =
    map-set (option_map process_of) ps i (without_key fd (at ps i))
    ∙ ap (set (processes_of ps) i) (by_place (at ps i)
    ∙ ap (option_map (without_descriptor fd)) (sym (at-map process_of ps i)))
  where
    by_place : (o : Option Process) → option_map process_of (without_key fd o)
        ≡ option_map (without_descriptor fd) (option_map process_of o)
    by_place None = refl
    by_place (Some p) =
        ap (λ xs. Some (record { cred = p.cred; descriptors = xs; parked = option_map call_of p.parked }))
        (map-set (option_map (λ (k : Key). k.serial)) p.descriptors fd None)

module _ {ps : ProcessRows} {ds : DescriptionRows} {pipes : PipeRows} (t : Tied ps ds pipes) (i fd : ℕ)
    {ps' : ProcessRows} (is : ps' ≡ set ps i (without_key fd (at ps i))) where
  leaves : (ds' : DescriptionRows) (pipes' : PipeRows) → Tied ps' ds' pipes'
      → Within (descriptions_of ds') (descriptions_of ds) → Within (pipes_of pipes') (pipes_of pipes)
      → Left ps ds pipes ps' ds' pipes' i fd
  leaves ds' pipes' u d p = record {
    tied = u;
    state =
        λ files files_made. changed-swept files files_made u (state_of ps ds pipes files files_made) d p
        ∙ ap (λ qs. sweep itself (with_processes (state_of ps ds pipes files files_made) qs))
        (ap processes_of is ∙ emptied_shown ps i fd);
  }

  -- there was none
  pub absent : key_at fd (at ps i) ≡ None → Left ps ds pipes ps' ds pipes i fd
  absent e =
      leaves ds pipes (subst (λ x. Tied x ds pipes)
      (sym (is ∙ set_same ps i (without_key fd (at ps i)) (same (at ps i) e))) t) (within_same (descriptions_of ds))
      (within_same (pipes_of pipes))
    where
      same : (o : Option Process) → key_at fd o ≡ None → without_key fd o ≡ o
      same None e = refl
      same (Some p) e = ap (λ xs. Some (record p { descriptors = xs })) (set_same p.descriptors fd None (sym e))

  module _ {key : Key} (e : key_at fd (at ps i) ≡ Some key) where
    -- the key is in the hand
    key_held : TiedWith (key ∷ []) [] ps' ds pipes
    key_held = rw is (by_place (at ps i) refl e)
      where
        by_place : (o : Option Process) → at ps i ≡ o → key_at fd o ≡ Some key
            → TiedWith (key ∷ []) [] (set ps i (without_key fd o)) ds pipes
        by_place None h g = absurd (cc)
        by_place (Some p) h g =
            let q = record p { descriptors = clear_at p.descriptors fd } in
            subst (λ o. TiedWith (holding o []) [] (put_at ps i q) ds pipes) g
            (moved [] i (suc fd) p q h (omega (arith, at_within p.descriptors fd key g, t.wide i p h)) None refl t)

    row : (d : Named Description) × (at ds key.serial ≡ Some (key.slot, d))
    row = finds ds key key_held.in_hand.0

    row_found : find ds key.slot key.serial ≡ Some row.0
    row_found = find_at ds key.slot key.serial row.0 row.1

    pub has_names : 0 < names_of (find ds key.slot key.serial)
    has_names = let r = names_row key row.0 row.1 key_held in rw row_found (omega (arith, r.0, r.1))

    others_named : (n : ℕ) → n ≢ key.serial → held (names_it n) (key ∷ []) ≡ 0
    others_named n ne = omega (arith, names_none n key (λ e. ne (sym e)))

    -- others name the description
    pub still_named : {ds' : DescriptionRows} → 1 < names_of (find ds key.slot key.serial)
        → ds' ≡ change_at one_less ds key.serial → Left ps ds pipes ps' ds' pipes i fd
    still_named more less =
        let fewer = record row.0 { names = row.0.names - 1 } in
        let several = rw row_found at more in
        let r = names_row key row.0 row.1 key_held in
        let one = names_one key in
        rw (less, row.1)
        (leaves _ pipes
        (redescribed key_held key.serial (key.slot, row.0) row.1 (Some (key.slot, fewer)) [] []
        (place_and_end pipes key.slot fewer (key_held.is_end key.serial (key.slot, row.0) row.1)) tt others_named
        (omega (arith, r.0, one, several), omega (arith, r.0, one, several)) tt (λ n. refl) (λ n. refl))
        (within_row description_of ds key.serial (key.slot, row.0) _ row.1
        (λ z h. ap description_of (sym (same_some h)))) (within_same (pipes_of pipes)))

    -- it was the last name: the description is in the hand
    module _ {d : Description} (last : at ds key.serial ≡ Some (key.slot, once d)) {ds' : DescriptionRows}
        (cleared : ds' ≡ clear_at ds key.serial) where
      end_held : TiedWith [] (d ∷ []) ps' ds' pipes
      end_held =
          let r = names_row key (once d) last key_held in
          let one = names_one key in
          rw cleared
          (redescribed key_held key.serial (key.slot, once d) last None [] (d ∷ []) (λ x h. absurd (cc)) tt others_named
          (omega (arith, r.0, one)) (key_held.is_end key.serial (key.slot, once d) last, tt) (λ n. omega arith)
          (λ n. omega arith))

      pipe : (p : Pipe) × (at pipes d.pipe.serial ≡ Some (d.pipe.slot, p))
      pipe = finds pipes d.pipe end_held.ends_in_hand.0.0

      pipe_found : find pipes d.pipe.slot d.pipe.serial ≡ Some pipe.0
      pipe_found = find_at pipes d.pipe.slot d.pipe.serial pipe.0 pipe.1

      pub pipe_stands : IsSome (find pipes d.pipe.slot d.pipe.serial)
      pipe_stands = ap is_some pipe_found

      -- its sides are among those that the pipe counts
      pub pipe_counts : IfSome (find pipes d.pipe.slot d.pipe.serial)
          (λ p. (one_if d.reads ≤ p.readers) × (one_if d.writes ≤ p.writers))
      pipe_counts =
          let c = pipe_row d.pipe pipe.0 pipe.1 end_held in
          rw pipe_found (omega (arith, c.0, (sides d).0), omega (arith, c.1, (sides d).1))

      module _ (pipes' : PipeRows) (items : IfSome (find pipes d.pipe.slot d.pipe.serial)
          (λ p. pipes' ≡ set pipes d.pipe.serial (left d p))) where
        items_are : pipes' ≡ set pipes d.pipe.serial (left d pipe.0)
        items_are = rw pipe_found at items

        -- the pipe has an end less, or goes with its last
        pub ended : Left ps ds pipes ps' ds' pipes' i fd
        ended = rw items_are (by_used (is_used (with_fewer d pipe.0)) refl)
          where
            others : (n : ℕ) → n ≢ d.pipe.serial → (held (reads_it n) (d ∷ []) ≡ 0) × (held (writes_it n) (d ∷ []) ≡ 0)
            others n ne =
                let other : d.pipe.serial ≢ n = λ e. ne (sym e) in
                (omega (arith, miss d.pipe.serial n d.reads other), omega (arith, miss d.pipe.serial n d.writes other))

            leaves_pipe : (o : Option (ℕ × Pipe))
                → ((x : ℕ × Pipe) → o ≡ Some x → (x.0 ≡ d.pipe.slot) × (pipe_of x ≡ pipe_of (d.pipe.slot, pipe.0)))
                → Uses ds' [] d.pipe.serial o → Left ps ds pipes ps' ds' (set pipes d.pipe.serial o) i fd
            leaves_pipe o same is =
                leaves ds' _
                (repiped end_held d.pipe.serial (d.pipe.slot, pipe.0) pipe.1 o [] (λ x h. (same x h).0) tt others is)
                (rw cleared (within_row description_of ds key.serial (key.slot, once d) None last (λ z h. absurd (cc))))
                (within_row pipe_of pipes d.pipe.serial (d.pipe.slot, pipe.0) o pipe.1 (λ x h. (same x h).1))

            by_used : (b : Bool) → is_used (with_fewer d pipe.0) ≡ b → Left ps ds pipes ps' ds'
                (set pipes d.pipe.serial (if b then Some (d.pipe.slot, with_fewer d pipe.0) else None)) i fd
            by_used true u =
                let c = pipe_row d.pipe pipe.0 pipe.1 end_held in
                let l = ltb-true 0 _ u in
                leaves_pipe (Some (d.pipe.slot, with_fewer d pipe.0))
                (λ x h. (in_place h, ap pipe_of (sym (same_some h)))) (
                  omega (arith, c.0, (sides d).0),
                  omega (arith, c.1, (sides d).1),
                  omega (arith, l, c.0, c.1, (sides d).0, (sides d).1),
                )
            by_used false u =
                let c = pipe_row d.pipe pipe.0 pipe.1 end_held in
                let l = ltb-false 0 _ u in
                leaves_pipe None (λ x h. absurd (cc)) (
                  omega (arith, l, c.0, c.1, (sides d).0, (sides d).1),
                  omega (arith, l, c.0, c.1, (sides d).0, (sides d).1),
                )

        -- the pipe goes where nobody uses it any more, with whatever is shown of it but its counts
        pub went : {A : Type 0} (show : ℕ × Pipe → A)
            → ((place : ℕ) (p : Pipe) → show (place, with_fewer d p) ≡ show (place, p)) → (r : Option Pipe)
            → IfSome (find pipes d.pipe.slot d.pipe.serial) (λ p. r ≡ gone d p)
            → LetsGo show (map (option_map show) pipes) (map (option_map show) pipes') r
        went show same r is_gone =
            subst (LetsGo show (map (option_map show) pipes) (map (option_map show) pipes'))
            (sym (rw pipe_found at is_gone)) (by_use (is_used (with_fewer d pipe.0)) items_are)
          where
            by_use : (b : Bool)
                → pipes' ≡ set pipes d.pipe.serial (if b then Some (d.pipe.slot, with_fewer d pipe.0) else None)
                → LetsGo show (map (option_map show) pipes) (map (option_map show) pipes')
                (if b then None else Some (with_fewer d pipe.0))
            by_use true is =
                ap (map (option_map show)) is
                ∙ shown_same show pipes d.pipe.serial (d.pipe.slot, pipe.0) (d.pipe.slot, with_fewer d pipe.0) pipe.1
                (same d.pipe.slot pipe.0)
            by_use false is = (
              d.pipe.serial,
              d.pipe.slot,
              shown show pipes d.pipe.serial (d.pipe.slot, pipe.0) pipe.1 ∙ ap Some (sym (same d.pipe.slot pipe.0)),
              ap (map (option_map show)) is ∙ map-set (option_map show) pipes d.pipe.serial None,
            )
