-- What the tables mean to the lone machine: its counts are theirs, they are swept, and where nothing new stands after
-- a change the rest is as the sweep leaves it.

use Rattle.std.proofs.Common.{◌≡◌, ℕ, ◌+◌, ◌<◌, ◌≤◌, ◌&&◌, List, [], ◌∷◌, length, map, set, length-set, Option, Some}
use Rattle.std.proofs.Common.{None, Result, Ok, refl, sym, ap, subst, ◌∙◌, arith, nat_eq}
use Rattle.pf_tables.proofs.Common.{Live, Owns, option_map, Window, Files, Limits, Errno, Reply, Open, Cross, at}
use Rattle.pf_tables.proofs.Common.{weight, one_if, itself, State, Outcome, told, readers, writers, ends, sweep}
use Rattle.pf_tables.proofs.Common.{ProcessRows, DescriptionRows, PipeRows, Key, Pipe, made_by, keys_of}
use Rattle.pf_tables.proofs.Common.{read_by, written_by, Tied, description_of, pipe_of, processes_of, descriptions_of}
use Rattle.pf_tables.proofs.Common.{pipes_of, state_of, Joined, Namespace, ring_or, Makes, length-map, at_within}
use Rattle.pf_tables.proofs.Common.{sum_of-map, at-map}
use Rattle.pf_machine.specs.Calls as calls
use Rattle.pf_parked.specs.declared.call.Call.TheVariants.{Read, Write}
use Rattle.pf_machine.specs.State as machine
use Rattle.pf_machine.specs.Counts.{names}
use Rattle.pf_machine.proofs.SweepLaws.{with_processes, swept, ends-le-sides, readers-le-ends, writers-le-ends}
use Rattle.pf_tables.specs.Rows.{Call, call_of, named}
use Rattle.pf_tables.proofs.TablesShown.{was, shown}
use Rattle.pf_tables.proofs.TablesTied.{Row, Names, Uses, by_set}

-- what a call has made, as the machine sees it
made_shown : (o : Option (Call Key)) → calls.made_by (option_map call_of o)
    ≡ option_map (λ (k : Key). k.serial) (made_by o)
made_shown None = refl
made_shown (Some (Open description kept)) = refl
made_shown (Some (Read fd n)) = refl
made_shown (Some (Write fd write)) = refl
made_shown (Some (Cross crossing source sink n)) = refl

pub names_shown : (ps : ProcessRows) (n : ℕ) → names itself (processes_of ps) n ≡ named ps n
names_shown [] n = refl
names_shown (None ∷ ps) n = omega (arith, names_shown ps n)
names_shown (Some p ∷ ps) n =
    let test : ℕ → ℕ = λ m. one_if (nat_eq m n) in
    let keys = sum_of-map (λ (k : Key). k.serial) test (keys_of p) in
    omega (arith, names_shown ps n, ap (weight test) (made_shown p.parked), keys)

module _ (ps : ProcessRows) (ds : DescriptionRows) (pipes : PipeRows) (files : Files) (files_made : ℕ) where
  pub readers_shown : (n : ℕ) → readers itself (state_of ps ds pipes files files_made) n ≡ read_by ds n
  readers_shown n = sum_of-map description_of (λ (e : machine.Description ℕ). one_if (nat_eq e.pipe n && e.reads)) ds

  pub writers_shown : (n : ℕ) → writers itself (state_of ps ds pipes files files_made) n ≡ written_by ds n
  writers_shown n = sum_of-map description_of (λ (e : machine.Description ℕ). one_if (nat_eq e.pipe n && e.writes)) ds

-- nothing stands that did not stand before
pub record Within {X : Type 0} (new old : List (Option X)) : Type 0 where
  pub numbers : length new ≡ length old
  pub stood : (n : ℕ) (x : X) → at new n ≡ Some x → at old n ≡ Some x

pub within_same : {X : Type 0} (xs : List (Option X)) → Within xs xs
within_same xs = record { numbers = refl; stood = λ n x h. h }

module _ {ps : ProcessRows} {ds : DescriptionRows} {pipes : PipeRows} (files : Files) (files_made : ℕ)
    (t : Tied ps ds pipes) where
  abbrev s' : State Window ℕ
  s' = state_of ps ds pipes files files_made

  sides : (n : ℕ) → ends itself s'.descriptions n ≤ read_by ds n + written_by ds n
  sides n =
      let both = ends-le-sides itself s' n (λ m d a. let x = was description_of ds m d a in
      subst (λ (y : machine.Description ℕ). 0 < one_if y.reads + one_if y.writes) x.2 (t.is_end m x.0 x.1).1) in
      omega (arith, both, readers_shown ps ds pipes files files_made n, writers_shown ps ds pipes files files_made n)

  named_row : (n : ℕ) (o : Option Row) → at ds n ≡ o → Names ps [] n o
  named_row n o h = subst (Names ps [] n) h (t.names n)

  used_row : (n : ℕ) (o : Option (ℕ × Pipe)) → at pipes n ≡ o → Uses ds [] n o
  used_row n o h = subst (Uses ds [] n) h (t.uses n)

  pub changed-swept : (s : State Window ℕ) → Within (descriptions_of ds) s.descriptions
      → Within (pipes_of pipes) s.pipes → state_of ps ds pipes s.files s.files_made
      ≡ sweep itself (with_processes s (processes_of ps))
  changed-swept s d p =
      swept itself s (processes_of ps) (descriptions_of ds) (pipes_of pipes) d.numbers p.numbers
      (λ n l. at-map description_of ds n ∙ by_name n (at ds n) refl l)
      (λ n x h. let e = was description_of ds n x h in
      omega (arith, (named_row n (Some e.0) e.1).1, names_shown ps n))
      (λ n l. at-map pipe_of pipes n ∙ by_use n (at pipes n) refl l)
      (λ n x h. let e = was pipe_of pipes n x h in
      omega (
        arith,
        (used_row n (Some e.0) e.1).2,
        readers-le-ends itself s' n,
        writers-le-ends itself s' n,
        readers_shown ps ds pipes files files_made n,
        writers_shown ps ds pipes files files_made n,
      ))
    where
      by_name : (n : ℕ) (o : Option Row) → at ds n ≡ o → 0 < names itself (processes_of ps) n
          → option_map description_of o ≡ at s.descriptions n
      by_name n None h l = absurd (omega (arith, named_row n None h, names_shown ps n, l))
      by_name n (Some e) h l = sym (d.stood n (description_of e) (shown description_of ds n e h))

      by_use : (n : ℕ) (o : Option (ℕ × Pipe)) → at pipes n ≡ o → 0 < ends itself (descriptions_of ds) n
          → option_map pipe_of o ≡ at s.pipes n
      by_use n None h l = let none = used_row n None h in absurd (omega (arith, none.0, none.1, sides n, l))
      by_use n (Some e) h l = sym (p.stood n (pipe_of e) (shown pipe_of pipes n e h))

  pub settled : state_of ps ds pipes files files_made ≡ sweep itself (state_of ps ds pipes files files_made)
  settled = changed-swept s' (within_same (descriptions_of ds)) (within_same (pipes_of pipes))

-- a row that changes only in its counts, or goes
pub within_row : {X Y : Type 0} (f : X → Y) (xs : List (Option X)) (n : ℕ) (x : X) (y : Option X) → at xs n ≡ Some x
    → ((z : X) → y ≡ Some z → f z ≡ f x) → Within (map (option_map f) (set xs n y)) (map (option_map f) xs)
within_row f xs n x y h same = record {
  numbers = length-map (set xs n y) (option_map f) ∙ length-set xs n y ∙ sym (length-map xs (option_map f));
  stood = λ k v g. let z = was f (set xs n y) k v g in
      by_set (λ m o. o ≡ Some z.0 → at (map (option_map f) xs) m ≡ Some v) xs n y (at_within xs n x h)
      (λ e. shown f xs n x h ∙ ap Some (sym (same z.0 e) ∙ z.2)) (λ m _ e. shown f xs m z.0 e ∙ ap Some z.2) k z.1;
}

-- a call by what it leaves at the rows, whose rings' frames are those that were the namespace's own
pub makes_over : {qs : ProcessRows} {es : DescriptionRows} {pipes : PipeRows} → Tied qs es pipes → (files : Files)
    (files_made : ℕ) {limits after : Limits} {s : State Window ℕ} {n : Namespace}
    → record { limits = limits; state = s } ≡ n → after ≡ limits
    → ((f : Live) → Owns f (record { limits = limits; state = s }) → Joined f (map ring_or (pipes_of pipes)))
    → (call : Namespace → Result (Outcome Window ℕ) Errno) (reply : Reply)
    → call (record { limits = limits; state = s }) ≡ Ok (told (state_of qs es pipes files files_made) reply)
    → Makes n (record { limits = after; state = state_of qs es pipes files files_made }) (call n) reply
makes_over {qs} {es} {pipes} t files files_made {after = after} view same joined call reply is =
    rw (← view) (record {
      is = is;
      limits = same;
      owned = λ f o. record { joined = joined f o; reserve = ap (λ (l : Limits). l.reserve) same ∙ o.reserve };
      swept = settled files files_made t;
    })

-- one that leaves the pipes as they were
pub makes : {qs : ProcessRows} {es : DescriptionRows} {pipes : PipeRows} → Tied qs es pipes → (files : Files)
    (files_made : ℕ) {limits : Limits} {s : State Window ℕ} {n : Namespace}
    → record { limits = limits; state = s } ≡ n → s.pipes ≡ pipes_of pipes
    → (call : State Window ℕ → Result (Outcome Window ℕ) Errno) (reply : Reply)
    → call s ≡ Ok (told (state_of qs es pipes files files_made) reply)
    → Makes n (record { limits = limits; state = state_of qs es pipes files files_made }) (call n.state) reply
makes t files files_made view same call reply is =
    makes_over t files files_made view refl
    (λ f o. subst (λ (ps : List (Option (machine.Pipe Window))). Joined f (map ring_or ps)) same o.joined)
    (λ m. call m.state) reply is
