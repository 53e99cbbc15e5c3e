-- One more name of a description: how many it may have, and that nothing is shown of it. And a descriptor's key at the
-- lowest free descriptor too, in the meaning of the state that it leaves.

use Rattle.std.proofs.Common.{◌≡◌, ℕ, suc, ◌+◌, ◌-◌, ◌*◌, ◌^◌, ◌<◌, ◌≤◌, Bool, true, false, nat_le, nat_eq, List, []}
use Rattle.std.proofs.Common.{◌∷◌, length, set, Option, Some, None, Result, Ok, Err, refl, sym, ap, subst, ◌∙◌, arith}
use Rattle.pf_tables.proofs.TablesShown.{shown_same, find_at}
use Rattle.pf_tables.proofs.Common.{option_map, Files, Limits, at, put_at, change_at, first_free, sum_of, one_if, ◌>>◌}
use Rattle.pf_tables.proofs.Common.{refuse_if, State, Outcome, of_ready, with_process, with_descriptor, done}
use Rattle.pf_tables.proofs.Common.{MAX_DESCRIPTORS, Errno, EMFILE, Num, names_of, one_more, find, UserPages, Window}
use Rattle.pf_tables.proofs.Common.{Namespace, ProcessRows, DescriptionRows, PipeRows, Key, Named, Process, Description}
use Rattle.pf_tables.proofs.Common.{ready_in, key_in, process_of, processes_of, description_of, descriptions_of}
use Rattle.pf_tables.proofs.Common.{state_of, keys_of, names_it, held, NamedRow, TiedWith, Kept, Makes, map-set}
use Rattle.pf_tables.proofs.Common.{at-first_free, first_free-map}
use Rattle.pf_machine.specs.Descriptors.{dup}
use Rattle.pf_tables.specs.Rows.{with_key, named}
use Rattle.pf_tables.proofs.Refusals.{too_high, low_enough}
use Rattle.pf_tables.proofs.TablesSettled.{makes}
use Rattle.pf_tables.proofs.ProcessTableReady.{place_is}
use Rattle.pf_tables.proofs.DescriptorsNamed.{Has, has_by, key_row, named_is}
use Rattle.pf_tables.proofs.TablesTied.{found, names_one, names_none, redescribed, place_and_end, names_row, put}

-- A sum of ones and of none is no more than there are places

pub at_most_one : (b : Bool) → one_if b ≤ 1
at_most_one true = omega arith
at_most_one false = omega arith

pub sum-le-length : {X : Type 0} (h : X → ℕ) (xs : List (Option X)) → ((x : X) → h x ≤ 1) → sum_of h xs ≤ length xs
sum-le-length h [] one = omega arith
sum-le-length h (None ∷ xs) one = omega (arith, sum-le-length h xs one)
sum-le-length h (Some x ∷ xs) one = omega (arith, sum-le-length h xs one, one x)

-- All names of a description are descriptors, of which 256 processes have 256 each, and keys in the hand

few_of_all : (n : ℕ) (ps : ProcessRows) → ((i : ℕ) (p : Process) → at ps i ≡ Some p → length p.descriptors ≡ 256)
    → named ps n ≤ 257 * length ps
few_of_all n [] wide = omega arith
few_of_all n (None ∷ ps) wide = omega (arith, few_of_all n ps (λ i. wide (suc i)))
few_of_all n (Some p ∷ ps) wide =
    let few = sum-le-length (names_it n) (keys_of p) (λ k. at_most_one (nat_eq k.serial n)) in
    omega (arith, few, wide 0 p refl, few_of_all n ps (λ i. wide (suc i)))

few_held : (n : ℕ) (ks : List Key) → held (names_it n) ks ≤ length ks
few_held n [] = omega arith
few_held n (k ∷ ks) = omega (arith, at_most_one (nat_eq k.serial n), few_held n ks)

module _ {K : List Key} {ps : ProcessRows} {ds : DescriptionRows} {pipes : PipeRows}
    (t : TiedWith K [] ps ds pipes) where
  pub few_names : (n : ℕ) (e : ℕ × Named Description) → at ds n ≡ Some e → e.1.names ≤ 65792 + length K
  few_names n e stands =
      let row = subst (NamedRow (named ps n + held (names_it n) K)) stands (t.names n) in
      omega (arith, row.0, few_of_all n ps t.wide, t.places, few_held n K)

-- its row, counted once more

module _ (ds : DescriptionRows) (k : Key) (e : Named Description) (stands : at ds k.serial ≡ Some (k.slot, e)) where
  pub named_row : change_at one_more ds k.serial ≡ put_at ds k.serial (k.slot, record e { names = e.names + 1 })
  named_row = ap (λ (o : Option (ℕ × Named Description)). set ds k.serial (option_map one_more o)) stands

  pub names_are : names_of (find ds k.slot k.serial) ≡ e.names
  names_are = ap names_of (find_at ds k.slot k.serial e stands)

-- one name more, of a key in the hand
pub named_again : {K : List Key} {E : List Description} {ps : ProcessRows} {ds : DescriptionRows} {pipes : PipeRows}
    (k : Key) (d : Named Description) → at ds k.serial ≡ Some (k.slot, d) → TiedWith K E ps ds pipes
    → TiedWith (k ∷ K) E ps (put_at ds k.serial (k.slot, record d { names = d.names + 1 })) pipes
named_again {K} {E} {ds = ds} {pipes = pipes} k d stands t =
    let more = record d { names = d.names + 1 } in
    let r = names_row k d stands t in
    let one = names_one k in
    redescribed t k.serial (k.slot, d) stands (Some (k.slot, more)) (k ∷ K) E
    (place_and_end pipes k.slot more (t.is_end k.serial (k.slot, d) stands)) (found ds k d stands, t.in_hand)
    (λ n ne. omega (arith, names_none n k (λ e. ne (sym e)))) (omega (arith, r.0, one), omega (arith, r.1))
    t.ends_in_hand (λ n. refl) (λ n. refl)

-- The call

module _ {charges : UserPages} {limits : Limits} {ps : ProcessRows} {ds : DescriptionRows} {pipes : PipeRows}
    {files : Files} {files_made : ℕ} (kept : Kept charges ps ds pipes) {n : Namespace}
    (view : record { limits = limits; state = state_of ps ds pipes files files_made } ≡ n) (pid fd : ℕ) {k : Key}
    {p : Process} (caller : ready_in ps pid ≡ Ok p) (key : key_in ps pid fd ≡ Ok k) (to : ℕ)
    (lowest : to ≡ first_free p.descriptors) where
  abbrev w : Has ps pid fd k
  w = has_by ps pid fd caller key

  row : (e : Named Description) × (at ds k.serial ≡ Some (k.slot, e))
  row = key_row kept.tied pid fd w

  -- its description has fewer names than can be counted
  pub has_few : names_of (find ds k.slot k.serial) < 2 ^ 32 - 1
  has_few =
      let few = few_names kept.tied k.serial (k.slot, row.0) row.1 in
      omega (arith, few, names_are ds k row.0 row.1)

  abbrev s : State Window ℕ
  s = state_of ps ds pipes files files_made

  abbrev call : State Window ℕ → Result (Outcome Window ℕ) Errno
  call t = of_ready t pid (λ q. dup t pid q fd)

  abbrev puts : ℕ → Result (Outcome Window ℕ) Errno
  puts m = Ok (done (with_process s pid (with_descriptor m k.serial (process_of p))) m)

  -- it goes by the test of the lowest free number
  call_is : call s ≡ (refuse_if (nat_le MAX_DESCRIPTORS to) EMFILE >> puts to)
  call_is =
      named_is ps pid fd _ w ∙ ap (λ m. refuse_if (nat_le MAX_DESCRIPTORS m) EMFILE >> puts m)
      (first_free-map (λ (x : Key). x.serial) p.descriptors ∙ sym lowest)

  pub not_duped : MAX_DESCRIPTORS ≤ to → call n.state ≡ Err EMFILE
  not_duped past = rw (← view) (call_is ∙ too_high _ _ _ _ past)

  module _ (to_in : to < MAX_DESCRIPTORS) {qs : ProcessRows} {es : DescriptionRows}
      (given : qs ≡ change_at (with_key to k) ps (pid - 1)) (counted : es ≡ change_at one_more ds k.serial) where
    abbrev p' : Process
    p' = record p { descriptors = put_at p.descriptors to k }

    given_is : qs ≡ put_at ps (pid - 1) p'
    given_is = given ∙ ap (λ o. set ps (pid - 1) (option_map (with_key to k) o)) (place_is ps pid p caller)

    counted_is : es ≡ put_at ds k.serial (k.slot, record row.0 { names = row.0.names + 1 })
    counted_is = counted ∙ named_row ds k row.0 row.1

    pub duped-kept : Kept charges qs es pipes
    duped-kept = record {
      tied = rw (given_is, counted_is)
          (put (pid - 1) to p (place_is ps pid p caller) to_in k
          (ap (at p.descriptors) lowest ∙ at-first_free p.descriptors) (named_again k row.0 row.1 kept.tied));
      charged = kept.charged;
    }

    now_shown : state_of qs es pipes files files_made ≡ with_process s pid (with_descriptor to k.serial (process_of p))
    now_shown = λ i. record s {
      processes =
          (ap processes_of given_is ∙ map-set (option_map process_of) ps (pid - 1) (Some p')
          ∙ ap (λ xs. put_at (processes_of ps) (pid - 1) (record (process_of p) { descriptors = xs }))
          (map-set (option_map (λ (x : Key). x.serial)) p.descriptors to (Some k))) i;
      descriptions =
          (ap descriptions_of counted_is ∙ shown_same description_of ds k.serial (k.slot, row.0) _ row.1 refl) i;
    }

    pub duped : Makes n (record { limits = limits; state = state_of qs es pipes files files_made }) (call n.state)
        (Num to)
    duped =
        makes duped-kept.tied files files_made view refl call (Num to)
        (call_is ∙ low_enough _ _ _ _ to_in ∙ ap (λ t. Ok (done t to)) (sym now_shown))
