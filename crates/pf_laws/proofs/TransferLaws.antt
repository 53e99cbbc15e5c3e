-- Laws of transfers: what each moves, and what the pipes hold then.

use Rattle.std.proofs.Common.{◌≡◌, ℕ, min, Bool, true, false, List, ◌++◌, length, take, drop, refl, sym, ap, subst, ◌∙◌, ◌⊎◌, inr, ⊎_elim, arith, nat_eq, nat_lt, if◌then◌else◌, append-nil, length-take}
use Rattle.std.specs.Prelude.{◌&&◌, ◌||◌}
use Rattle.std.proofs.lemmas.Bool.{cases_lt}
use Rattle.std.proofs.lemmas.List.{take-append-drop, take_all, drop_all}
use Rattle.pf_machine.specs.Queue.{Queue, IsQueue, bytes_of, room_of, free_of, put, taken, after_take, tee_number, after_tee}
use Rattle.pf_machine.specs.Progress.{Passed, Crossed, moved, portion, read_now, write_now, is_empty, source_after, cross_now}
use Rattle.pf_base.specs.declared.progress.Crossing.{Crossing}
use Rattle.pf_base.specs.declared.progress.Crossing.TheVariants.{Tee, Splice}
use Rattle.pf_base.specs.declared.progress.Progress.TheVariants.{Moved}
use Rattle.pf_laws.specs.Laws.{Reads, Writes, Crosses}
use Rattle.pf_machine.proofs.QueueLaws.{bytes_of-put, IsQueue-put, bytes_of-after_take, IsQueue-after_take, taken-bytes_of, length-joined-copied, bytes_of-after_tee, IsQueue-after_tee, portion-le, portion-le_room, portion-whole}

-- P holds of both branches
branch : {X : Type 0} (P : X → Type 0) (b : Bool) (x y : X) → (b ≡ true → P x) → (b ≡ false → P y) → P (if b then x else y)
branch P true x y h k = h refl
branch P false x y h k = k refl

take-min : (n : ℕ) (xs : List ℕ) → take (min n (length xs)) xs ++ drop n xs ≡ xs
take-min n xs =
    ⊎_elim
    (λ short. let e : min n (length xs) ≡ n = omega arith in ap (λ m. take m xs ++ drop n xs) e ∙ take-append-drop n xs)
    (λ long.
    let e : min n (length xs) ≡ length xs = omega arith in
    ap (λ m. take m xs ++ drop n xs) e ∙ ap (λ ys. take (length xs) xs ++ ys) (drop_all n xs long) ∙ append-nil (take (length xs) xs) ∙ take_all (length xs) xs (omega arith))
    (cases_lt n (length xs))

-- Read

module _ (q : Queue) (n : ℕ) where
  unread : (r : Passed) → r.queue ≡ q → moved r.progress ≡ 0 → Reads q n r
  unread r e m = record {
    number = omega (arith, m);
    bytes = ap (λ k. taken q k ++ bytes_of r.queue) m ∙ ap bytes_of e;
    queue = λ is. subst IsQueue (sym e) is;
  }

  some_read : (r : Passed) → r.queue ≡ after_take q n → moved r.progress ≡ min n (length (bytes_of q)) → Reads q n r
  some_read r e m = record {
    number = omega (arith, m);
    bytes = ap (λ k. taken q k ++ bytes_of r.queue) m
        ∙ ap (λ x. taken q (min n (length (bytes_of q))) ++ bytes_of x) e
        ∙ ap (λ x. taken q (min n (length (bytes_of q))) ++ x) (bytes_of-after_take q n)
        ∙ take-min n (bytes_of q);
    queue = λ is. subst IsQueue (sym e) (IsQueue-after_take q n is);
  }

  pub reads : (writers : ℕ) → Reads q n (read_now q writers n)
  reads writers =
      branch (Reads q n) (nat_eq n 0) _ _ (λ _. unread _ refl refl) (λ _.
      branch (Reads q n) (nat_lt 0 (length (bytes_of q))) _ _ (λ _. some_read _ refl refl) (λ _.
      branch (Reads q n) (nat_eq writers 0) _ _ (λ _. unread _ refl refl) (λ _. unread _ refl refl)))

-- Write

module _ (q : Queue) (whole : Bool) (x : List ℕ) where
  -- how many bytes go in where somebody reads them
  abbrev goes : ℕ
  goes = portion whole (length x) (room_of q)

  unwritten : (r : Passed) → r.queue ≡ q → moved r.progress ≡ 0 → Writes q whole x r
  unwritten r e m = record {
    number = omega (arith, m);
    bytes = ap bytes_of e ∙ sym (append-nil (bytes_of q)) ∙ ap (λ k. bytes_of q ++ take k x) (sym m);
    queue = λ is. subst IsQueue (sym e) is;
    together = λ _. inr m;
  }

  all_or_none : whole ≡ true → (goes ≡ length x) ⊎ (goes ≡ 0)
  all_or_none is = subst (λ w. (portion w (length x) (room_of q) ≡ length x) ⊎ (portion w (length x) (room_of q) ≡ 0)) (sym is) (portion-whole (length x) (room_of q))

  some_written : (r : Passed) → r.queue ≡ put q (take goes x) → moved r.progress ≡ goes → Writes q whole x r
  some_written r e m = record {
    number = omega (arith, m, portion-le whole (length x) (room_of q));
    bytes = ap bytes_of e
        ∙ bytes_of-put q (take goes x) (omega (arith, length-take goes x, portion-le_room whole (length x) (room_of q)))
        ∙ ap (λ k. bytes_of q ++ take k x) (sym m);
    queue = λ is. subst IsQueue (sym e) (IsQueue-put q (take goes x) is);
    together = λ is. subst (λ k. (k ≡ length x) ⊎ (k ≡ 0)) (sym m) (all_or_none is);
  }

  pub writes : (readers : ℕ) → Writes q whole x (write_now q readers whole x)
  writes readers =
      branch (Writes q whole x) (nat_eq (length x) 0) _ _ (λ _. unwritten _ refl refl) (λ _.
      branch (Writes q whole x) (nat_eq readers 0) _ _ (λ _. unwritten _ refl refl) (λ _.
      branch (Writes q whole x) (nat_eq goes 0) _ _ (λ _. unwritten _ refl refl) (λ _. some_written _ refl refl)))

-- Tee and Splice

module _ (source sink : Queue) (n : ℕ) where
  uncrossed : (c : Crossing) (r : Crossed) → r.source ≡ source → r.sink ≡ sink → moved r.progress ≡ 0 → Crosses c source sink n r
  uncrossed c r e f m = record {
    number = omega (arith, m);
    bytes = ap bytes_of f ∙ sym (append-nil (bytes_of sink)) ∙ ap (λ k. bytes_of sink ++ taken source k) (sym m);
    queue = λ is-source is-sink. subst IsQueue (sym f) is-sink;
    copied = λ _. e;
    gone = λ _. ap (λ k. taken source k ++ bytes_of r.source) m ∙ ap bytes_of e;
    left = λ is. subst IsQueue (sym e) is;
  }

  some_crossed : (c : Crossing) → Crosses c source sink n (record { progress = Moved (tee_number source sink n); source = source_after c source sink n; sink = after_tee source sink n })
  some_crossed c = record {
    number = length-joined-copied (free_of sink) n source.segments;
    bytes = bytes_of-after_tee source sink n;
    queue = IsQueue-after_tee source sink n;
    copied = λ e. ap (λ k. source_after k source sink n) e;
    gone = λ e. ap (λ k. taken source (tee_number source sink n) ++ bytes_of (source_after k source sink n)) e ∙ taken-bytes_of source (tee_number source sink n);
    left = left c;
  }
    where
      left : (k : Crossing) → IsQueue source → IsQueue (source_after k source sink n)
      left Tee is = is
      left Splice is = IsQueue-after_take source (tee_number source sink n) is

  pub crosses : (c : Crossing) (writers readers : ℕ) → Crosses c source sink n (cross_now c source sink writers readers n)
  crosses c writers readers =
      let P : Crossed → Type 0 = Crosses c source sink n in
      branch P (nat_eq n 0) _ _ (λ _. uncrossed c _ refl refl refl) (λ _.
      branch P (nat_eq readers 0) _ _ (λ _. uncrossed c _ refl refl refl) (λ _.
      branch P (is_empty source && nat_eq writers 0) _ _ (λ _. uncrossed c _ refl refl refl) (λ _.
      branch P (is_empty source || nat_eq (free_of sink) 0) _ _ (λ _. uncrossed c _ refl refl refl) (λ _. some_crossed c))))
