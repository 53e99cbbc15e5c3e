-- A process again under another pid: each of its keys names its description once more, and comes into the hand, until
-- the process that has them all is put down.

use Rattle.std.proofs.Common.{◌≡◌, ℕ, zero, suc, ◌+◌, ◌-◌, ◌^◌, ◌<◌, ◌≤◌, List, [], ◌∷◌, length, map, drop, Option}
use Rattle.std.proofs.Common.{Some, None, IsSome, IsOk, is_some, Result, Ok, Err, refl, sym, ap, subst, ◌∙◌, arith}
use Rattle.std.proofs.Common.{length-set}
use Rattle.std.proofs.lemmas.List.{at_drop_more}
use Rattle.pf_tables.proofs.Refusals.{same_some}
use Rattle.pf_tables.proofs.Common.{option_map, Files, Limits, at, put_at, change_at, first_free, sum_of, weight, ◌>>=◌}
use Rattle.pf_tables.proofs.Common.{State, Outcome, of_ready, MAX_PROCESSES, Errno, names_of, one_more, find, UserPages}
use Rattle.pf_tables.proofs.Common.{Window, Namespace, ProcessRows, DescriptionRows, PipeRows, Key, Named, Process}
use Rattle.pf_tables.proofs.Common.{Description, ready_in, made_by, keys_of, keys_to, names_it, held, process_of}
use Rattle.pf_tables.proofs.Common.{description_of, state_of, TiedWith, Kept, Makes, at-map, at_within, at-first_free}
use Rattle.pf_tables.proofs.Common.{Finds, AllFind, named_once_more}
use Rattle.pf_machine.specs.Processes.{fork, born}
use Rattle.pf_base.specs.declared.errno.Errno.TheVariants.{EAGAIN}
use Rattle.pf_base.specs.declared.step.Reply.TheVariants.{Pid}
use Rattle.pf_tables.specs.Rows.{holding, AreFew, with_name}
use Rattle.pf_tables.proofs.ProcessTableReady.{readies, place_is, is_awake}
use Rattle.pf_tables.proofs.TablesTied.{Row, finds, by_set, held-holding, reseated}
use Rattle.pf_tables.proofs.DescriptorsDup.{few_names, named_row, names_are, named_again}
use Rattle.pf_tables.proofs.TablesShown.{find_at}
use Rattle.pf_tables.proofs.ProcessesSpawn.{no_pid, some_pid, is_born}

-- What one name more leaves of the rows

-- whatever doesn't see how many names there are is the same
module _ {Y : Type 0} (g : Row → Y) (same : (e : Row) → g (one_more e) ≡ g e) where
  changed : (ds : DescriptionRows) (n : ℕ) → map (option_map g) (change_at one_more ds n) ≡ map (option_map g) ds
  changed [] n = refl
  changed (None ∷ ds) zero = refl
  changed (Some e ∷ ds) zero = ap (λ y. Some y ∷ map (option_map g) ds) (same e)
  changed (o ∷ ds) (suc n) = ap (λ ys. option_map g o ∷ ys) (changed ds n)

  all_changed : (ks : List (Option Key)) (ds : DescriptionRows)
      → map (option_map g) (named_once_more ks ds) ≡ map (option_map g) ds
  all_changed [] ds = refl
  all_changed (None ∷ ks) ds = all_changed ks ds
  all_changed (Some k ∷ ks) ds = all_changed ks (change_at one_more ds k.serial) ∙ changed ds k.serial

pub as_many : (ks : List (Option Key)) (ds : DescriptionRows) → length (named_once_more ks ds) ≡ length ds
as_many [] ds = refl
as_many (None ∷ ks) ds = as_many ks ds
as_many (Some k ∷ ks) ds =
    as_many ks (change_at one_more ds k.serial) ∙ length-set ds k.serial (option_map one_more (at ds k.serial))

abbrev place_of : Row → ℕ
place_of e = e.0

pub still_finds : (ds : DescriptionRows) (n : ℕ) (k : Key) → Finds ds k → Finds (change_at one_more ds n) k
still_finds ds n k h =
    sym (at-map place_of (change_at one_more ds n) k.serial)
    ∙ ap (λ xs. at xs k.serial) (changed place_of (λ e. refl) ds n) ∙ at-map place_of ds k.serial ∙ h

-- The names are given key by key: those that are left give the same

pub one_named : (ks : List (Option Key)) (ds : DescriptionRows) (n : ℕ) (o : Option Key) → n < length ks → at ks n ≡ o
    → named_once_more (drop n ks) ds ≡ named_once_more (drop (n + 1) ks) (with_name o ds)
one_named ks ds n o l here =
    at_drop_more (λ rest. named_once_more rest ds) ks n None l
    ∙ ap (λ k. named_once_more (drop (n + 1) ks) (with_name k ds)) here

-- also where there is no key for some of them
pub skipped : (ks : List (Option Key)) (ds : DescriptionRows) (n m : ℕ) → n ≤ m
    → ((k : ℕ) → n ≤ k → k < m → at ks k ≡ None) → named_once_more (drop n ks) ds ≡ named_once_more (drop m ks) ds
skipped ks ds zero zero le none = refl
skipped ks ds (suc n) zero le none = absurd (omega arith)
skipped [] ds zero (suc m) le none = refl
skipped [] ds (suc n) (suc m) le none = refl
skipped (o ∷ ks) ds zero (suc m) le none =
    ap (λ k. named_once_more (k ∷ ks) ds) (none 0 (omega arith) (omega arith))
    ∙ skipped ks ds zero m (omega arith) (λ k from before. none (suc k) (omega arith) (omega arith))
skipped (o ∷ ks) ds (suc n) (suc m) le none =
    skipped ks ds n m (omega arith) (λ k from before. none (suc k) (omega arith) (omega arith))

pub nothing : {X : Type 0} (o : Option X) → ((x : X) → o ≡ Some x → ⊥) → o ≡ None
nothing None h = refl
nothing (Some x) h = absurd (h x refl)

-- before a key is named, its description stands and has few names, and afterwards one more
module _ (ds : DescriptionRows) (k : Key) (f : Finds ds k) (most : ℕ)
    (few : (n : ℕ) (e : Row) → at ds n ≡ Some e → e.1.names ≤ most) where
  row : (e : Named Description) × (at ds k.serial ≡ Some (k.slot, e))
  row = finds ds k f

  pub stands : IsSome (find ds k.slot k.serial)
  stands = ap is_some (find_at ds k.slot k.serial row.0 row.1)

  pub below : most < 2 ^ 32 - 1 → names_of (find ds k.slot k.serial) < 2 ^ 32 - 1
  below l = omega (arith, names_are ds k row.0 row.1, few k.serial (k.slot, row.0) row.1, l)

  pub few_more : (n : ℕ) (e : Row) → at (change_at one_more ds k.serial) n ≡ Some e → e.1.names ≤ most + 1
  few_more n e =
      by_set (λ _ x. x ≡ Some e → e.1.names ≤ most + 1) ds k.serial (option_map one_more (at ds k.serial))
      (at_within ds k.serial (k.slot, row.0) row.1)
      (λ i. let it = same_some (ap (option_map one_more) (sym row.1) ∙ i) in
      omega (arith, ap (λ (x : Row). x.1.names) it, few k.serial (k.slot, row.0) row.1))
      (λ j _ i. omega (arith, few j e i)) n

-- The keys that the child is to have come into the hand

abbrev hand : List (Option Key) → List Key → List Key
hand [] K = K
hand (o ∷ ks) K = hand ks (holding o K)

held_hand : (h : Key → ℕ) (ks : List (Option Key)) (K : List Key) → held h (hand ks K) ≡ sum_of h ks + held h K
held_hand h [] K = omega arith
held_hand h (o ∷ ks) K = omega (arith, held_hand h ks (holding o K), held-holding h o K)

module _ (ps : ProcessRows) (pipes : PipeRows) where
  in_hand : (ks : List (Option Key)) (K : List Key) (ds : DescriptionRows) → AllFind ks ds → TiedWith K [] ps ds pipes
      → TiedWith (hand ks K) [] ps (named_once_more ks ds) pipes
  in_hand [] K ds all t = t
  in_hand (None ∷ ks) K ds all t = in_hand ks K ds (λ m. all (suc m)) t
  in_hand (Some k ∷ ks) K ds all t =
      let r = finds ds k (all 0 k refl) in
      in_hand ks (k ∷ K) (change_at one_more ds k.serial) (λ m j h. still_finds ds k.serial j (all (suc m) j h))
      (subst (λ x. TiedWith (k ∷ K) [] ps x pipes) (sym (named_row ds k r.0 r.1)) (named_again k r.0 r.1 t))

-- What the machine says, and what is left

module _ {charges : UserPages} {limits : Limits} {ps : ProcessRows} {ds : DescriptionRows} {pipes : PipeRows}
    {files : Files} {files_made : ℕ} (kept : Kept charges ps ds pipes) {n : Namespace}
    (view : record { limits = limits; state = state_of ps ds pipes files files_made } ≡ n) (pid : ℕ) {p : Process}
    (caller : ready_in ps pid ≡ Ok p) where
  there : at ps (pid - 1) ≡ Some p
  there = place_is ps pid p caller

  pub all_find : AllFind p.descriptors ds
  all_find fd k h = kept.tied.finds (pid - 1) (suc fd) p k there h

  pub are_few : AreFew ds
  are_few m e h = few_names kept.tied m e h

  abbrev s : State Window ℕ
  s = state_of ps ds pipes files files_made

  abbrev call : State Window ℕ → Result (Outcome Window ℕ) Errno
  call t = of_ready t pid (λ q. fork t q)

  call_is : call s ≡ born s (process_of p)
  call_is = ap (λ r. r >>= (λ q. fork s q)) (readies ps pid p caller)

  module _ {i : ℕ} (lowest : i ≡ first_free ps) where
    pub has_no_room : MAX_PROCESSES ≤ i → call n.state ≡ Err EAGAIN
    has_no_room = no_pid kept.tied view lowest p call call_is

    module _ (within : i < MAX_PROCESSES) where
      pub has_room : IsOk (call n.state)
      has_room = some_pid kept.tied view lowest p call call_is within

      module _ {child : Process} (same : child ≡ p) {qs : ProcessRows} {es : DescriptionRows}
          (put : qs ≡ put_at ps i child) (named : es ≡ named_once_more child.descriptors ds) where
        -- the keys come into the hand, and are put down at once
        pub forked-kept : Kept charges qs es pipes
        forked-kept =
            let u = in_hand ps pipes p.descriptors [] ds all_find kept.tied in
            let free = ap (at ps) lowest ∙ at-first_free ps in
            record {
              tied = rw (put, named, same)
                  (reseated u i (omega (arith, u.places, within)) (Some p) []
                  (λ q e. ap (λ (x : Process). length x.descriptors) (sym (same_some e)) ∙ u.wide (pid - 1) p there)
                  (λ m q k e g. u.finds (pid - 1) m p k there
                  (ap (λ (x : Process). at (keys_of x) m) (same_some e) ∙ g)) tt
                  (λ n. let none = ap (λ o. weight (names_it n) (made_by o)) (is_awake ps pid p caller) in
                  omega (arith, ap (weight (keys_to n)) free, none, held_hand (names_it n) p.descriptors [])));
              charged = kept.charged;
            }

        pub forked : Makes n (record { limits = limits; state = state_of qs es pipes files files_made }) (call n.state)
            (Pid (i + 1))
        forked =
            is_born kept.tied view lowest p call call_is within forked-kept.tied (put ∙ ap (λ q. put_at ps i q) same)
            (rw (named, same) (all_changed description_of (λ e. refl) p.descriptors ds))
