-- What went through a pipe: what was taken, followed by what the pipe holds, is what was given.

use Rattle.std.proofs.Common.{◌≡◌, ℕ, ◌≤◌, min, Bool, true, false, ◌&&◌, ◌||◌, List, ◌++◌, length, take, drop, refl, sym, ap, ◌∙◌, ⊎_elim, arith, nat_eq, nat_le, nat_lt, if◌then◌else◌, append-nil, length-take}
use Rattle.std.proofs.lemmas.Bool.{leb-true, cases_lt}
use Rattle.std.proofs.lemmas.List.{take-append-drop, take_all, drop_all}
use Rattle.pf_machine.specs.Queue.{Queue, bytes_of, room_of, free_of, taken, tee_number}
use Rattle.pf_machine.proofs.QueueLaws.{bytes_of-put, bytes_of-after_take, taken-bytes_of, bytes_of-after_tee}
use Rattle.pf_machine.specs.Progress.{Passed, Crossed, moved, is_empty, read_now, portion, write_now, cross_now}
use Rattle.pf_base.specs.declared.progress.Crossing.{Crossing}
use Rattle.pf_base.specs.declared.progress.Crossing.TheVariants.{Tee, Splice}

-- Transfers between queues

-- P holds of both branches
pub branch : {X : Type 0} (P : X → Type 0) (b : Bool) (x y : X) → (b ≡ true → P x) → (b ≡ false → P y) → P (if b then x else y)
branch P true x y h k = h refl
branch P false x y h k = k refl

take-min : (n : ℕ) (xs : List ℕ) → take (min n (length xs)) xs ++ drop n xs ≡ xs
take-min n xs =
    ⊎_elim
    (λ short. let e : min n (length xs) ≡ n = omega arith in ap (λ m. take m xs ++ drop n xs) e ∙ take-append-drop n xs)
    (λ long.
    let e : min n (length xs) ≡ length xs = omega arith in
    ap (λ m. take m xs ++ drop n xs) e ∙ ap (λ ys. take (length xs) xs ++ ys) (drop_all n xs long) ∙ append-nil (take (length xs) xs) ∙ take_all (length xs) xs (omega arith))
    (cases_lt n (length xs))

-- what is read and what is left are what there was
pub read_now-bytes : (q : Queue) (writers n : ℕ) → let r = read_now q writers n in taken q (moved r.progress) ++ bytes_of r.queue ≡ bytes_of q
read_now-bytes q writers n =
    let P = λ (r : Passed). taken q (moved r.progress) ++ bytes_of r.queue ≡ bytes_of q in
    branch P (nat_eq n 0) _ _ (λ _. refl) (λ _.
    branch P (nat_lt 0 (length (bytes_of q))) _ _
    (λ _. ap (λ x. taken q (min n (length (bytes_of q))) ++ x) (bytes_of-after_take q n) ∙ take-min n (bytes_of q))
    (λ _. branch P (nat_eq writers 0) _ _ (λ _. refl) (λ _. refl)))

portion-le : (whole : Bool) (n room : ℕ) → portion whole n room ≤ room
portion-le true n room = branch (λ m. m ≤ room) (nat_le n room) n 0 (λ t. leb-true n room t) (λ _. omega arith)
portion-le false n room = omega arith

-- what is written stands behind what there was
pub write_now-bytes : (q : Queue) (readers : ℕ) (whole : Bool) (x : List ℕ) → let r = write_now q readers whole x in bytes_of r.queue ≡ bytes_of q ++ take (moved r.progress) x
write_now-bytes q readers whole x =
    let P = λ (r : Passed). bytes_of r.queue ≡ bytes_of q ++ take (moved r.progress) x in
    let k = portion whole (length x) (room_of q) in
    branch P (nat_eq (length x) 0) _ _ (λ _. sym (append-nil (bytes_of q))) (λ _.
    branch P (nat_eq readers 0) _ _ (λ _. sym (append-nil (bytes_of q))) (λ _.
    branch P (nat_eq k 0) _ _ (λ _. sym (append-nil (bytes_of q)))
    (λ _. bytes_of-put q (take k x) (omega (arith, length-take k x, portion-le whole (length x) (room_of q))))))

-- what is brought stands behind what the sink had, and is the source's front
pub cross_now-sink : (c : Crossing) (source sink : Queue) (writers readers n : ℕ) → let r = cross_now c source sink writers readers n in bytes_of r.sink ≡ bytes_of sink ++ taken source (moved r.progress)
cross_now-sink c source sink writers readers n =
    let P = λ (r : Crossed). bytes_of r.sink ≡ bytes_of sink ++ taken source (moved r.progress) in
    let same = sym (append-nil (bytes_of sink)) in
    branch P (nat_eq n 0) _ _ (λ _. same) (λ _.
    branch P (nat_eq readers 0) _ _ (λ _. same) (λ _.
    branch P (is_empty source && nat_eq writers 0) _ _ (λ _. same) (λ _.
    branch P (is_empty source || nat_eq (free_of sink) 0) _ _ (λ _. same)
    (λ _. bytes_of-after_tee source sink n))))

-- a tee leaves the source
pub cross_now-teed : (source sink : Queue) (writers readers n : ℕ) → (cross_now Tee source sink writers readers n).source ≡ source
cross_now-teed source sink writers readers n =
    let P = λ (r : Crossed). r.source ≡ source in
    branch P (nat_eq n 0) _ _ (λ _. refl) (λ _.
    branch P (nat_eq readers 0) _ _ (λ _. refl) (λ _.
    branch P (is_empty source && nat_eq writers 0) _ _ (λ _. refl) (λ _.
    branch P (is_empty source || nat_eq (free_of sink) 0) _ _ (λ _. refl) (λ _. refl))))

-- what is spliced and what is left are what the source had
pub cross_now-spliced : (source sink : Queue) (writers readers n : ℕ) → let r = cross_now Splice source sink writers readers n in taken source (moved r.progress) ++ bytes_of r.source ≡ bytes_of source
cross_now-spliced source sink writers readers n =
    let P = λ (r : Crossed). taken source (moved r.progress) ++ bytes_of r.source ≡ bytes_of source in
    branch P (nat_eq n 0) _ _ (λ _. refl) (λ _.
    branch P (nat_eq readers 0) _ _ (λ _. refl) (λ _.
    branch P (is_empty source && nat_eq writers 0) _ _ (λ _. refl) (λ _.
    branch P (is_empty source || nat_eq (free_of sink) 0) _ _ (λ _. refl)
    (λ _. taken-bytes_of source (tee_number source sink n)))))
