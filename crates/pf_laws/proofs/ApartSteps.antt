-- Each step keeps what a parked open made its own; so a pipe's ends are live descriptions and parked opens, wherever a
-- run leads from the opening state.

use Rattle.std.proofs.Common.{◌≡◌, ℕ, zero, suc, ◌+◌, ◌-◌, ◌≤◌, Bool, List, [], ◌∷◌, ◌++◌, length, set, Option, Some, None, Ok, Err, refl, sym, ap, ◌∙◌, subst, inl, arith, nat_eq, nat_lt, length-append, length-set, set-set}
use Rattle.std.specs.Prelude.{Result, replicate}
use Rattle.std.specs.Option.{option_map}
use Rattle.pf_base.specs.Limits.{Limits}
use Rattle.pf_machine.specs.Queue.{Segment, empty}
use Rattle.pf_machine.specs.Numbered.{at, put_at, change_at, first_free, one_if, weight, sum_of}
use Rattle.pf_machine.proofs.NumberedLaws.{at-put_same, at_within, length-keep}
use Rattle.pf_machine.proofs.SweepLaws.{sweep-sweep}
use Rattle.pf_machine.specs.Calls.{Transfer, Call, Opening, Moving, made_by}
use Rattle.pf_machine.specs.State.{itself, State, Process, Description, Outcome, vacant, opening, settle, with_descriptor, waiting, with_process}
use Rattle.pf_machine.specs.Counts.{named_in, names}
use Rattle.pf_machine.specs.Descriptors.{with_nonblocking}
use Rattle.pf_machine.specs.Pipes.{opened, reading, writing, with_two, first_descriptor, second_descriptor}
use Rattle.pf_machine.specs.Transfers.{tried}
use Rattle.pf_machine.specs.Attempts.{parked, transfer, resume}
use Rattle.pf_machine.specs.Opens.{Access, Found, open_path}
use Rattle.pf_machine.specs.Sweep.{sweep}
use Rattle.pf_machine.specs.Machine.{call, act}
use Rattle.pf_laws.specs.Standing.{opens, held, opening_it, reads_it, writes_it, EndsApart, reached}
use Rattle.pf_base.specs.declared.TheConstants.{MAX_PROCESSES, MAX_DESCRIPTORS}
use Rattle.pf_base.specs.declared.errno.Errno.{Errno}
use Rattle.pf_base.specs.declared.step.Step.{Step}
use Rattle.pf_base.specs.declared.step.Step.TheVariants as steps
use Rattle.pf_machine.proofs.HoldsLaws.{Holds, IsOk}
use Rattle.pf_machine.proofs.AttemptLaws.{with_written, transfer-comes, resume-comes, end_made, made, open-comes}
use Rattle.pf_machine.proofs.RunLaws.{run-keeps}
use Rattle.pf_machine.proofs.StepLaws.{Lives, Free, Still, all-move, step-keeps}
use Rattle.pf_laws.proofs.EndLaws.{IsApart, counted_apart}
use Rattle.pf_laws.proofs.ApartLaws.{Sound, sound-tame, sound-clear, sound-copy, sound-close, sound-dup, sound-wait, sound-park, sound-opened, sound-two, sound-one}

-- where so many descriptions were drawn
abbrev SoundState : State Segment ℕ → Type 0
SoundState s = Sound s.processes (length s.descriptions)

abbrev OutSound : Outcome Segment ℕ → Type 0
OutSound o = SoundState o.state

-- a change of who stands at a place
change-put : (f : Process ℕ → Process ℕ) (ps : List (Option (Process ℕ))) (k : ℕ) (p : Process ℕ) → at ps k ≡ Some p → change_at f ps k ≡ put_at ps k (f p)
change-put f ps k p e = ap (λ o. set ps k (option_map f o)) e

pub put-put : (f : Process ℕ → Process ℕ) (ps : List (Option (Process ℕ))) (k : ℕ) (p q : Process ℕ) → at ps k ≡ Some p → change_at f (put_at ps k q) k ≡ put_at ps k (f q)
put-put f ps k p q e = change-put f (put_at ps k q) k q (at-put_same ps k (Some q) (at_within ps k p e)) ∙ set-set ps k (Some q) (Some (f q))

-- places with nothing in them name nothing, and nobody waits there
sum_of-vacant : {X : Type 0} (h : X → ℕ) (m : ℕ) → sum_of h (replicate m None) ≡ 0
sum_of-vacant h zero = refl
sum_of-vacant h (suc m) = omega (arith, sum_of-vacant h m)

none_named : (n : ℕ) → named_in itself n (vacant {X = ℕ} MAX_DESCRIPTORS) ≡ 0
unfolding vacant
none_named n = sum_of-vacant (λ m. one_if (nat_eq m n)) MAX_DESCRIPTORS

none_opening : (n : ℕ) → opening_it (vacant {X = Process ℕ} MAX_PROCESSES) n ≡ 0
unfolding vacant
none_opening n = sum_of-vacant (λ (p : Process ℕ). opens n p.parked) MAX_PROCESSES

none_held : (n : ℕ) → held (vacant {X = Process ℕ} MAX_PROCESSES) n ≡ 0
unfolding vacant
none_held n = sum_of-vacant (λ (p : Process ℕ). named_in itself n p.descriptors) MAX_PROCESSES

module _ (s : State Segment ℕ) (is : SoundState s) where
  -- as many processes and descriptions as before
  pub record Level (ps : List (Option (Process ℕ))) (ds : List (Option (Description ℕ))) : Type 0 where
    pub people : ps ≡ s.processes
    pub drawn : length ds ≡ length s.descriptions

  level-sound : (ps : List (Option (Process ℕ))) (ds : List (Option (Description ℕ))) → Level ps ds → Sound ps (length ds)
  level-sound ps ds l = subst (λ n. Sound ps n) (sym l.drawn) (subst (λ qs. Sound qs (length s.descriptions)) (sym l.people) is)

  abbrev drawn : ℕ
  drawn = length s.descriptions

  -- both descriptions of a pipe are new
  two-sound : (q : ℕ) (p : Process ℕ) (nonblock : Bool) → Free s q p → (slots : ℕ)
      → SoundState (opened drawn (drawn + 1) (length s.pipes) s q nonblock (empty slots) p)
  two-sound q p nonblock f slots =
      subst (λ n. Sound (put_at s.processes (q - 1) (with_two drawn (drawn + 1) p)) n) count
      (sound-two s.processes drawn is (q - 1) (first_descriptor p) (second_descriptor p) p f.at_place f.free)
    where
      ends : List (Option (Description ℕ))
      ends = Some (reading (length s.pipes) nonblock) ∷ Some (writing (length s.pipes) nonblock) ∷ []

      count : drawn + 2 ≡ length (s.descriptions ++ ends)
      count = omega (arith, length-append s.descriptions ends)

  -- Calls that may wait

  abbrev LevelState : State Segment ℕ → Type 0
  LevelState t = Level t.processes t.descriptions

  same : LevelState s
  same = record { people = refl; drawn = refl }

  -- a process waits in another call, or in none, and the others are as they were
  waits-sound : (k : ℕ) (o : Option (Call ℕ)) (p : Process ℕ) → at s.processes k ≡ Some p → ((n : ℕ) → opens n o ≤ opens n p.parked)
      → (ps : List (Option (Process ℕ))) (ds : List (Option (Description ℕ))) → Level ps ds → Sound (change_at (waiting o) ps k) (length ds)
  waits-sound k o p e less ps ds l =
      let here : at ps k ≡ Some p = ap (λ qs. at qs k) l.people ∙ e in
      let put : change_at (waiting o) ps k ≡ put_at s.processes k (waiting o p) = change-put (waiting o) ps k p here ∙ ap (λ qs. put_at qs k (waiting o p)) l.people in
      subst (λ qs. Sound qs (length ds)) (sym put) (subst (λ n. Sound (put_at s.processes k (waiting o p)) n) (sym l.drawn) (sound-wait s.processes (length s.descriptions) is k o p e less))

  no_open : (o call : Option (Call ℕ)) → made_by o ≡ None → (n : ℕ) → opens n o ≤ opens n call
  no_open o call e n = let none : opens n o ≡ 0 = ap (λ (m : Option ℕ). weight (λ k. one_if (nat_eq k n)) m) e in omega (arith, none)

  parks-sound : (q : ℕ) (p : Process ℕ) → at s.processes (q - 1) ≡ Some p → (t : State Segment ℕ) (call : Transfer)
      → LevelState t → IsOk (tried s p call) → (n : ℕ) → OutSound (parked t q (Moving (with_written n call)))
  parks-sound q p e t call h may n =
      waits-sound (q - 1) _ p e (no_open (Some (Moving (with_written n call))) p.parked refl)
      t.processes t.descriptions h

  transfer-sound : (q : ℕ) (p : Process ℕ) → Free s q p → (flag : Bool) (call : Transfer)
      → Holds OutSound (transfer s q p flag call)
  transfer-sound q p f =
      transfer-comes s LevelState same (λ t n x h. h) p OutSound q
      (λ t r h fine. level-sound t.processes t.descriptions h)
      (parks-sound q p f.at_place)

  -- the name goes to a descriptor, or the open waits on
  resume-sound : (q : ℕ) (p : Process ℕ) → Lives s q p → Holds OutSound (resume s q p)
  resume-sound q p l =
      resume-comes s LevelState same (λ t n x h. h) p OutSound q
      (λ t r h. waits-sound (q - 1) None p l.at_place (no_open None p.parked refl) t.processes t.descriptions h)
      (parks-sound q p l.at_place)
      (λ n kept w. subst (λ ps. Sound ps drawn)
      (sym (put-put (waiting None) s.processes (q - 1) p (with_descriptor (first_free p.descriptors) n p) l.at_place))
      (sound-opened s.processes drawn is (q - 1) (first_free p.descriptors) n kept p l.at_place w))
      (λ n kept w. waits-sound (q - 1) (Some (Opening n kept)) p l.at_place
      (λ m. let both : opens m p.parked ≡ opens m (Some (Opening n kept)) = ap (opens m) w in omega (arith, both))
      s.processes s.descriptions same)

  -- Open

  module _ (c : Limits) (q : ℕ) (p : Process ℕ) (f : Free s q p) (a : Access) where
    abbrev FoundLevel : Found Segment ℕ → Type 0
    FoundLevel x = LevelState x.state

    as_drawn : (x : Found Segment ℕ) → FoundLevel x → (y : Process ℕ) (ps : List (Option (Process ℕ)))
        → ps ≡ put_at s.processes (q - 1) y → Sound (put_at s.processes (q - 1) y) (drawn + 1)
        → Sound ps (length (made a x).descriptions)
    as_drawn x l y ps e h =
        let count : drawn + 1 ≡ length (made a x).descriptions =
        omega (arith, length-append x.state.descriptions (Some (end_made a x.pipe) ∷ []), l.drawn) in
        subst (λ qs. Sound qs (length (made a x).descriptions)) (sym e)
        (subst (λ m. Sound (put_at s.processes (q - 1) y) m) count h)

    open-sound : (path : List ℕ) → Holds OutSound (open_path itself drawn itself c s q p path a)
    open-sound path =
        open-comes s OutSound c q p a FoundLevel (λ n file e. same) (λ file there e slots. same) has waits path
      where
        has : (x : Found Segment ℕ) → FoundLevel x
            → SoundState (with_process (made a x) q (with_descriptor (first_free p.descriptors) drawn p))
        has x l =
            let y = with_descriptor (first_free p.descriptors) drawn p in
            as_drawn x l y _ (ap (λ qs. put_at qs (q - 1) y) l.people)
            (sound-one s.processes drawn is (q - 1) (first_free p.descriptors) p f.at_place f.free)

        waits : (x : Found Segment ℕ) → FoundLevel x → (kept : ℕ) → OutSound (parked (made a x) q (Opening drawn kept))
        waits x l kept =
            let w = waiting (Some (Opening drawn kept)) in
            let here : at x.state.processes (q - 1) ≡ Some p = ap (λ qs. at qs (q - 1)) l.people ∙ f.at_place in
            as_drawn x l (w p) _
            (change-put w x.state.processes (q - 1) p here ∙ ap (λ qs. put_at qs (q - 1) (w p)) l.people)
            (sound-park s.processes drawn is (q - 1) kept p f.at_place)

  -- Steps

  still : Still s OutSound
  still = record {
    spawned = λ cred. sound-tame s.processes drawn is _ (Some _) (λ n. omega arith) (λ n none. none_named n);
    forked = λ pid p f. sound-copy s.processes drawn is (pid - 1) _ p f.at_place f.free;
    exited = λ pid p l. sound-clear s.processes drawn is (pid - 1);
    duped = λ pid p fd n f e.
        sound-dup s.processes drawn is (pid - 1) fd (first_free p.descriptors) n p f.at_place e;
    closed = λ pid p fd f. sound-close s.processes drawn is (pid - 1) fd p f.at_place;
    flagged = λ n on. level-sound s.processes (change_at (with_nonblocking on) s.descriptions n) (record {
      people = refl;
      drawn = length-set s.descriptions n (option_map (with_nonblocking on) (at s.descriptions n));
    });
    piped = two-sound;
    sized = λ p fd e h pages. is;
    looked = λ r fine short. is;
    made = λ c kind path mode files e. is;
    filed = λ c files how. is;
    opened = λ c pid p path a f. open-sound c pid p f a path;
  }

  kept : (c : Limits) (step : Step) → Holds OutSound (call c s step)
  kept c (steps.Resume pid) = step-keeps s OutSound still c (steps.Resume pid) (λ p l. resume-sound pid p l)
  kept c x =
      step-keeps s OutSound still c x
      (all-move s OutSound (λ pid p flag call f. transfer-sound pid p f flag call) (λ names. is) x tt)

  act-sound : (c : Limits) (step : Step) → OutSound (act c s step)
  act-sound c step = settled (call c s step) (kept c step)
    where
      settled : (r : Result (Outcome Segment ℕ) Errno) → Holds OutSound r → OutSound (settle s r)
      settled (Ok o) h = h
      settled (Err e) h = is

-- Runs

-- a state that was swept
pub record Standing (s : State Segment ℕ) : Type 0 where
  pub sound : SoundState s
  pub swept : s.descriptions ≡ (sweep itself s).descriptions

swept-standing : (s : State Segment ℕ) → SoundState s → Standing (sweep itself s)
swept-standing s is = record {
  sound = subst (λ n. Sound s.processes n) (sym (length-keep (λ n. nat_lt 0 (names itself s.processes n)) s.descriptions)) is;
  swept = ap (λ (t : State Segment ℕ). t.descriptions) (sym (sweep-sweep itself s s.processes s.processes (λ k. omega arith)));
}

opening-standing : Standing opening
opening-standing = record {
  sound = record { alone = λ n. inl (none_opening n); past = λ n l. (none_opening n, none_held n) };
  swept = refl;
}

pub ends_apart : (c : Limits) (xs : List Step) → EndsApart (reached c xs)
ends_apart c xs = record {
  reading = λ p. counted_apart (reads_it p) (reached c xs) standing.swept apart;
  writing = λ p. counted_apart (writes_it p) (reached c xs) standing.swept apart;
  own = standing.sound.alone;
}
  where
    standing : Standing (reached c xs)
    standing = run-keeps Standing c
        (λ s x h. swept-standing (act c s x).state (act-sound s h.sound c x)) opening xs opening-standing

    apart : IsApart (reached c xs).processes
    apart = record { alone = standing.sound.alone }
