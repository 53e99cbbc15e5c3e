-- A slab's slots seen by number: how each change of one slot changes what stands at the numbers.

use Rattle.std.proofs.Common.{◌≡◌, ◌≢◌, ℕ, zero, suc, ◌+◌, ◌-◌, ◌^◌, ◌<◌, ◌≤◌, List, [], ◌∷◌, ◌++◌, length, set, Option, Some, None, IsSome, is_some, cond, count_by, refl, sym, ap, subst, ◌∙◌, arith, length-set, nat_eq, if◌then◌else◌, inl, inr}
use Rattle.std.proofs.lemmas.Bool.{true≢false, cases_eq, cases_lt, eq-eqb, ne_eqb}
use Rattle.std.proofs.lemmas.List.{length_push}
use Rattle.std.proofs.lemmas.List.Sums.{sum_by-set}
use Rattle.pf_machine.specs.Numbered.{at, put_at, clear_at}
use Rattle.pf_machine.proofs.NumberedLaws.{at_within, at_past, at-put_same, at-put_other, at-push_old, at-push_new, same_at}
use Rattle.pf_fds.specs.declared.registry.Entry.{Entry}
use Rattle.pf_fds.specs.declared.registry.Key.{Key}
use Rattle.pf_fds.specs.Registry.{Registry, if_placed, find}
use Rattle.pf_fds.specs.Slots.{scan, numbers, by_number, IsSound, IsOut, IsKept}
use Rattle.slab.specs.Slab.{Slab, slab_len}

module _ {T : Type 0} where
  length-numbers : (count n : ℕ) (xs : List (Option (Entry T))) → length (numbers count n xs) ≡ count
  length-numbers zero n xs = refl
  length-numbers (suc count) n xs = omega (arith, length-numbers count (suc n) xs)

  pub length-by_number : (drawn : ℕ) (xs : List (Option (Entry T))) → length (by_number drawn xs) ≡ drawn
  length-by_number drawn xs = length-numbers drawn 0 xs

  at-numbers : (count n : ℕ) (xs : List (Option (Entry T))) (k : ℕ) → k < count → at (numbers count n xs) k ≡ scan (n + k) 0 xs
  at-numbers zero n xs k p = absurd (omega arith)
  at-numbers (suc count) n xs zero p = let e : n + 0 ≡ n = omega arith in ap (λ m. scan m 0 xs) (sym e)
  at-numbers (suc count) n xs (suc k) p = let e : suc n + k ≡ n + suc k = omega arith in at-numbers count (suc n) xs k (omega arith) ∙ ap (λ m. scan m 0 xs) e

  at_drawn : (drawn : ℕ) (xs : List (Option (Entry T))) (k : ℕ) → k < drawn → at (by_number drawn xs) k ≡ scan k 0 xs
  at_drawn drawn xs k p = let e : 0 + k ≡ k = omega arith in at-numbers drawn 0 xs k p ∙ ap (λ m. scan m 0 xs) e

  at_undrawn : (drawn : ℕ) (xs : List (Option (Entry T))) (k : ℕ) → drawn ≤ k → at (by_number drawn xs) k ≡ None
  at_undrawn drawn xs k p = at_past _ k (omega (arith, length-by_number drawn xs))

  -- no slot's entry has the number
  abbrev Absent : ℕ → List (Option (Entry T)) → Type 0
  Absent n xs = (k : ℕ) (e : Entry T) → at xs k ≡ Some e → e.serial ≢ n

  -- no other slot's entry has the number
  abbrev Alone : ℕ → List (Option (Entry T)) → ℕ → Type 0
  Alone n xs k = (j : ℕ) (e : Entry T) → at xs j ≡ Some e → e.serial ≡ n → j ≡ k

  -- a number stands in some slot or in none
  by_place : {P : Type 0} (n : ℕ) (xs : List (Option (Entry T))) → ((k : ℕ) (e : Entry T) → at xs k ≡ Some e → e.serial ≡ n → P) → (Absent n xs → P) → P
  by_place n [] hit miss = miss (λ k e h. absurd (cc))
  by_place {P} n (None ∷ xs) hit miss = by_place n xs (λ k e h s. hit (suc k) e h s) (λ absent. miss (later absent))
    where
      later : Absent n xs → Absent n (None ∷ xs)
      later absent zero e h = absurd (cc)
      later absent (suc k) e h = absent k e h
  by_place {P} n (Some d ∷ xs) hit miss =
      elim (cases_eq d.serial n) [
        | inl same ↦ hit 0 d refl same
        | inr differs ↦ by_place n xs (λ k e h s. hit (suc k) e h s) (λ absent. miss (later differs absent))
      ]
    where
      later : d.serial ≢ n → Absent n xs → Absent n (Some d ∷ xs)
      later differs absent zero e h = let same : d ≡ e = cc in λ s. differs (ap (λ (x : Entry T). x.serial) same ∙ s)
      later differs absent (suc k) e h = absent k e h

  scan_absent : (n i : ℕ) (xs : List (Option (Entry T))) → Absent n xs → scan n i xs ≡ None
  scan_absent n i [] absent = refl
  scan_absent n i (None ∷ xs) absent = scan_absent n (suc i) xs (λ k e h. absent (suc k) e h)
  scan_absent n i (Some d ∷ xs) absent =
      ap (λ b. if b then Some (i, d.value) else scan n (suc i) xs) (ne_eqb d.serial n (absent 0 d refl)) ∙ scan_absent n (suc i) xs (λ k e h. absent (suc k) e h)

  scan_found : (n i : ℕ) (xs : List (Option (Entry T))) (k : ℕ) (e : Entry T) → at xs k ≡ Some e → e.serial ≡ n → Alone n xs k → scan n i xs ≡ Some (i + k, e.value)
  scan_found n i [] k e h s alone = absurd (cc)
  scan_found n i (None ∷ xs) zero e h s alone = absurd (cc)
  scan_found n i (None ∷ xs) (suc k) e h s alone =
      let shift : suc i + k ≡ i + suc k = omega arith in
      scan_found n (suc i) xs k e h s (λ j d g t. omega (arith, alone (suc j) d g t)) ∙ ap (λ m. Some (m, e.value)) shift
  scan_found n i (Some d ∷ xs) zero e h s alone =
      let same : d ≡ e = cc in
      let first : d.serial ≡ n = ap (λ (x : Entry T). x.serial) same ∙ s in
      let place : i + 0 ≡ i = omega arith in
      ap (λ b. if b then Some (i, d.value) else scan n (suc i) xs) (eq-eqb d.serial n first) ∙ ap (λ (x : Entry T). Some (i, x.value)) same ∙ ap (λ m. Some (m, e.value)) (sym place)
  scan_found n i (Some d ∷ xs) (suc k) e h s alone =
      let shift : suc i + k ≡ i + suc k = omega arith in
      let differs : d.serial ≢ n = λ t. absurd (omega (arith, alone 0 d refl t)) in
      ap (λ b. if b then Some (i, d.value) else scan n (suc i) xs) (ne_eqb d.serial n differs)
      ∙ scan_found n (suc i) xs k e h s (λ j c g t. omega (arith, alone (suc j) c g t))
      ∙ ap (λ m. Some (m, e.value)) shift

  -- what stands in a slot stands at its number
  pub at_slot : (drawn : ℕ) (xs : List (Option (Entry T))) (k : ℕ) (e : Entry T) → IsSound xs drawn → at xs k ≡ Some e → at (by_number drawn xs) e.serial ≡ Some (k, e.value)
  at_slot drawn xs k e sound h =
      let place : 0 + k ≡ k = omega arith in
      at_drawn drawn xs e.serial (sound.below k e h)
      ∙ scan_found e.serial 0 xs k e h refl (λ j d g t. sound.apart j k d e g h t)
      ∙ ap (λ m. Some (m, e.value)) place

  -- the value of a slot whose entry has the number
  abbrev pub entry_value : ℕ → Option (Entry T) → Option T
  entry_value n None = None
  entry_value n (Some e) = if nat_eq e.serial n then Some e.value else None

  pub entry_value-none : (n : ℕ) (o : Option (Entry T)) → ((e : Entry T) → o ≡ Some e → e.serial ≢ n) → entry_value n o ≡ None
  entry_value-none n None h = refl
  entry_value-none n (Some e) h = ap (λ b. if b then Some e.value else None) (ne_eqb e.serial n (h e refl))

  pub entry_value-some : (n : ℕ) (o : Option (Entry T)) (e : Entry T) → o ≡ Some e → e.serial ≡ n → entry_value n o ≡ Some e.value
  entry_value-some n o e h s = ap (entry_value n) h ∙ ap (λ b. if b then Some e.value else None) (eq-eqb e.serial n s)

  -- what a key finds is what its slot has, if that has its number
  pub found : (drawn : ℕ) (xs : List (Option (Entry T))) (place n : ℕ) → IsSound xs drawn → find (by_number drawn xs) place n ≡ entry_value n (at xs place)
  found drawn xs place n sound = by_place n xs hit miss
    where
      hit : (k : ℕ) (e : Entry T) → at xs k ≡ Some e → e.serial ≡ n → find (by_number drawn xs) place n ≡ entry_value n (at xs place)
      hit k e h s =
          let stands : at (by_number drawn xs) n ≡ Some (k, e.value) = ap (at (by_number drawn xs)) (sym s) ∙ at_slot drawn xs k e sound h in
          elim (cases_eq k place) [
            | inl same ↦ ap (if_placed place) stands ∙ ap (λ b. if b then Some e.value else None) (eq-eqb k place same) ∙ sym (entry_value-some n (at xs place) e (ap (at xs) (sym same) ∙ h) s)
            | inr differs ↦
                ap (if_placed place) stands ∙ ap (λ b. if b then Some e.value else None) (ne_eqb k place differs)
                ∙ sym (entry_value-none n (at xs place) (λ d g t. differs (sound.apart k place e d h g (s ∙ sym t))))
          ]

      miss : Absent n xs → find (by_number drawn xs) place n ≡ entry_value n (at xs place)
      miss absent = ap (if_placed place) nothing ∙ sym (entry_value-none n (at xs place) (λ e h. absent place e h))
        where
          nothing : at (by_number drawn xs) n ≡ None
          nothing = elim (cases_lt n drawn) [ inl below ↦ at_drawn drawn xs n below ∙ scan_absent n 0 xs absent | inr past ↦ at_undrawn drawn xs n past ]

  -- a key that finds a value has it in its slot
  pub in_slot : (drawn : ℕ) (xs : List (Option (Entry T))) (place n : ℕ) → IsSound xs drawn → IsSome (find (by_number drawn xs) place n) → (e : Entry T) × (at xs place ≡ Some e) × (e.serial ≡ n)
  in_slot drawn xs place n sound some = by_entry (at xs place) refl (subst IsSome (found drawn xs place n sound) some)
    where
      by_entry : (o : Option (Entry T)) → at xs place ≡ o → IsSome (entry_value n o) → (e : Entry T) × (at xs place ≡ Some e) × (e.serial ≡ n)
      by_entry None e s = absurd (true≢false (sym s))
      by_entry (Some d) e s =
          elim (cases_eq d.serial n) [
            | inl same ↦ (d, e, same)
            | inr differs ↦ absurd (true≢false (sym s ∙ ap is_some (entry_value-none n (Some d) (λ c h t. let same : d ≡ c = cc in differs (ap (λ (x : Entry T). x.serial) same ∙ t)))))
          ]

  scan_kept : (n : ℕ) (old new : List (Option (Entry T))) (drawn drawn' : ℕ) → IsSound old drawn → IsSound new drawn' → ((j : ℕ) (e : Entry T) → at old j ≡ Some e → e.serial ≡ n → at new j ≡ Some e) → ((j : ℕ) (e : Entry T) → at new j ≡ Some e → e.serial ≡ n → at old j ≡ Some e) → scan n 0 new ≡ scan n 0 old
  scan_kept n old new drawn drawn' before after there back =
      by_place n old
      (λ k e h s. scan_found n 0 new k e (there k e h s) s (λ j d g t. after.apart j k d e g (there k e h s) (t ∙ sym s)) ∙ sym (scan_found n 0 old k e h s (λ j d g t. before.apart j k d e g h (t ∙ sym s))))
      (λ absent. scan_absent n 0 new (λ k e h s. absent k e (back k e h s) s) ∙ sym (scan_absent n 0 old absent))

  -- Changes of one slot

  -- an entry in the new slots has the number of the old entry there
  sound_of : (drawn : ℕ) (old new : List (Option (Entry T))) → IsSound old drawn → ((k : ℕ) (e : Entry T) → at new k ≡ Some e → (d : Entry T) × (at old k ≡ Some d) × (e.serial ≡ d.serial)) → IsSound new drawn
  sound_of drawn old new sound was = record {
    below = λ k e h. let o = was k e h in omega (arith, sound.below k o.0 o.1, o.2);
    apart = λ j k d e g h s. let o = was j d g in let p = was k e h in sound.apart j k o.0 p.0 o.1 p.1 (sym o.2 ∙ s ∙ p.2);
  }

  -- a number that isn't among those that stand is in no slot
  absent_at : (drawn n : ℕ) (xs : List (Option (Entry T))) → IsSound xs drawn → at (by_number drawn xs) n ≡ None → Absent n xs
  absent_at drawn n xs sound none k e h s =
      let stands : at (by_number drawn xs) n ≡ Some (k, e.value) = ap (at (by_number drawn xs)) (sym s) ∙ at_slot drawn xs k e sound h in
      absurd (cc)

  absent_past : (drawn n : ℕ) (xs : List (Option (Entry T))) → IsSound xs drawn → drawn ≤ n → Absent n xs
  absent_past drawn n xs sound past k e h s = absurd (omega (arith, sound.below k e h, s, past))

  -- a number that is in no slot comes into a vacant one
  module _ (drawn drawn' place n : ℕ) (old new : List (Option (Entry T))) (v : T) (sound : IsSound old drawn) (more : drawn ≤ drawn') (n_below : n < drawn') (absent : Absent n old)
      (vacant : at old place ≡ None) (changed : at new place ≡ Some (record { serial = n; value = v })) (others : (j : ℕ) → j ≢ place → at new j ≡ at old j) where
    fresh : (k : ℕ) (e : Entry T) → at new k ≡ Some e → k ≡ place → e.serial ≡ n
    fresh k e h same =
        let it : ◌≡◌ {A = Option (Entry T)} (Some e) (Some (record { serial = n; value = v })) = sym h ∙ ap (at new) same ∙ changed in
        let it_is : ◌≡◌ {A = Entry T} e (record { serial = n; value = v }) = cc in
        ap (λ (x : Entry T). x.serial) it_is

    was : (k : ℕ) (e : Entry T) → at new k ≡ Some e → k ≢ place → at old k ≡ Some e
    was k e h differs = sym (others k differs) ∙ h

    pub sound-filled : IsSound new drawn'
    sound-filled = record {
      below = λ k e h.
          elim (cases_eq k place) [
            | inl same ↦ omega (arith, fresh k e h same, n_below)
            | inr differs ↦ omega (arith, sound.below k e (was k e h differs), more)
          ];
      apart = λ j k d e g h s.
          elim (cases_eq j place) [
            | inl j_same ↦ elim (cases_eq k place) [
              | inl k_same ↦ j_same ∙ sym k_same
              | inr k_differs ↦ absurd (absent k e (was k e h k_differs) (sym s ∙ fresh j d g j_same))
            ]
            | inr j_differs ↦ elim (cases_eq k place) [
              | inl k_same ↦ absurd (absent j d (was j d g j_differs) (s ∙ fresh k e h k_same))
              | inr k_differs ↦ sound.apart j k d e (was j d g j_differs) (was k e h k_differs) s
            ]
          ];
    }

    at-filled : at (by_number drawn' new) n ≡ Some (place, v)
    at-filled = at_slot drawn' new place (record { serial = n; value = v }) sound-filled changed

    scan-filled : (k : ℕ) → k ≢ n → scan k 0 new ≡ scan k 0 old
    scan-filled k differs = scan_kept k old new drawn drawn' sound sound-filled there back
      where
        there : (j : ℕ) (e : Entry T) → at old j ≡ Some e → e.serial ≡ k → at new j ≡ Some e
        there j e h s =
            elim (cases_eq j place) [
              | inl same ↦ let both : at old place ≡ Some e = ap (at old) (sym same) ∙ h in absurd (cc)
              | inr apart ↦ others j apart ∙ h
            ]

        back : (j : ℕ) (e : Entry T) → at new j ≡ Some e → e.serial ≡ k → at old j ≡ Some e
        back j e h s =
            elim (cases_eq j place) [
              | inl same ↦ absurd (differs (sym s ∙ fresh j e h same))
              | inr apart ↦ was j e h apart
            ]

  -- a value in a vacant slot, under the next number
  module _ (drawn place : ℕ) (old new : List (Option (Entry T))) (v : T) (sound : IsSound old drawn)
      (vacant : at old place ≡ None) (changed : at new place ≡ Some (record { serial = drawn; value = v })) (others : (j : ℕ) → j ≢ place → at new j ≡ at old j) where
    none_yet : Absent drawn old
    none_yet = absent_past drawn drawn old sound (omega arith)

    pub inserted : by_number (drawn + 1) new ≡ by_number drawn old ++ Some (place, v) ∷ []
    inserted = same_at _ _ (omega (arith, length-by_number (drawn + 1) new, length-by_number drawn old, length_push (by_number drawn old) (Some (place, v)))) at_each
      where
        at_each : (k : ℕ) → at (by_number (drawn + 1) new) k ≡ at (by_number drawn old ++ Some (place, v) ∷ []) k
        at_each k =
            elim (cases_lt k drawn) [
              | inl below ↦
                  at_drawn (drawn + 1) new k (omega arith)
                  ∙ scan-filled drawn (drawn + 1) place drawn old new v sound (omega arith) (omega arith) none_yet vacant changed others k (λ e. absurd (omega arith))
                  ∙ sym (at_drawn drawn old k below)
                  ∙ sym (at-push_old (by_number drawn old) (Some (place, v)) k (omega (arith, length-by_number drawn old)))
              | inr past ↦ elim (cases_eq k drawn) [
                | inl same ↦
                    let here : k ≡ length (by_number drawn old) = same ∙ sym (length-by_number drawn old) in
                    ap (at (by_number (drawn + 1) new)) same
                    ∙ at-filled drawn (drawn + 1) place drawn old new v sound (omega arith) (omega arith) none_yet vacant changed others
                    ∙ sym (ap (at (by_number drawn old ++ Some (place, v) ∷ [])) here ∙ at-push_new (by_number drawn old) (Some (place, v)))
                | inr differs ↦
                    at_undrawn (drawn + 1) new k (omega arith)
                    ∙ sym (at_past (by_number drawn old ++ Some (place, v) ∷ []) k (omega (arith, length_push (by_number drawn old) (Some (place, v)), length-by_number drawn old)))
              ]
            ]

  -- a value in a vacant slot, under a number that was drawn and stands no more
  module _ (drawn place n : ℕ) (old new : List (Option (Entry T))) (v : T) (sound : IsSound old drawn) (n_below : n < drawn) (none : at (by_number drawn old) n ≡ None)
      (vacant : at old place ≡ None) (changed : at new place ≡ Some (record { serial = n; value = v })) (others : (j : ℕ) → j ≢ place → at new j ≡ at old j) where
    pub sound-returned : IsSound new drawn
    sound-returned = sound-filled drawn drawn place n old new v sound (omega arith) n_below (absent_at drawn n old sound none) vacant changed others

    pub returned : by_number drawn new ≡ put_at (by_number drawn old) n (place, v)
    returned = same_at _ _ (length-by_number drawn new ∙ sym (length-by_number drawn old) ∙ sym (length-set (by_number drawn old) n (Some (place, v)))) at_each
      where
        at_each : (k : ℕ) → at (by_number drawn new) k ≡ at (put_at (by_number drawn old) n (place, v)) k
        at_each k =
            elim (cases_eq k n) [
              | inl same ↦
                  ap (at (by_number drawn new)) same
                  ∙ at-filled drawn drawn place n old new v sound (omega arith) n_below (absent_at drawn n old sound none) vacant changed others
                  ∙ sym (ap (at (put_at (by_number drawn old) n (place, v))) same ∙ at-put_same (by_number drawn old) n (Some (place, v)) (omega (arith, length-by_number drawn old, n_below)))
              | inr differs ↦
                  elim (cases_lt k drawn) [
                    | inl below ↦
                        at_drawn drawn new k below
                        ∙ scan-filled drawn drawn place n old new v sound (omega arith) n_below (absent_at drawn n old sound none) vacant changed others k differs
                        ∙ sym (at_drawn drawn old k below)
                    | inr past ↦ at_undrawn drawn new k past ∙ sym (at_undrawn drawn old k past)
                  ]
                  ∙ sym (at-put_other (by_number drawn old) n k (Some (place, v)) differs)
            ]

  -- an entry that is removed or has another value
  module _ (drawn place n : ℕ) (old : List (Option (Entry T))) (e : Entry T) (sound : IsSound old drawn) (h : at old place ≡ Some e) (s : e.serial ≡ n) where
    within : place < length old
    within = at_within old place e h

    n_below : n < drawn
    n_below = omega (arith, sound.below place e h, s)

    -- other numbers stand where they stood
    others_kept : (o : Option (Entry T)) → IsSound (set old place o) drawn → ((d : Entry T) → o ≡ Some d → d.serial ≡ n) → (k : ℕ) → k ≢ n → at (by_number drawn (set old place o)) k ≡ at (by_number drawn old) k
    others_kept o after numbered k differs =
        elim (cases_lt k drawn) [
          | inl below ↦ at_drawn drawn (set old place o) k below ∙ scan_kept k old (set old place o) drawn drawn sound after there back ∙ sym (at_drawn drawn old k below)
          | inr past ↦ at_undrawn drawn (set old place o) k past ∙ sym (at_undrawn drawn old k past)
        ]
      where
        there : (j : ℕ) (d : Entry T) → at old j ≡ Some d → d.serial ≡ k → at (set old place o) j ≡ Some d
        there j d g t =
            elim (cases_eq j place) [
              | inl same ↦ absurd (differs (sym t ∙ same_serial d (sym g ∙ ap (at old) same ∙ h) ∙ s))
              | inr other ↦ at-put_other old place j o other ∙ g
            ]
          where
            same_serial : (d : Entry T) → Some d ≡ Some e → d.serial ≡ e.serial
            same_serial d p = let it : d ≡ e = cc in ap (λ (x : Entry T). x.serial) it

        back : (j : ℕ) (d : Entry T) → at (set old place o) j ≡ Some d → d.serial ≡ k → at old j ≡ Some d
        back j d g t =
            elim (cases_eq j place) [
              | inl same ↦ absurd (differs (sym t ∙ numbered d (sym (at-put_same old place o within) ∙ ap (at (set old place o)) (sym same) ∙ g)))
              | inr other ↦ sym (at-put_other old place j o other) ∙ g
            ]

    sound_set : (o : Option (Entry T)) → ((d : Entry T) → o ≡ Some d → d.serial ≡ e.serial) → IsSound (set old place o) drawn
    sound_set o numbered = sound_of drawn old (set old place o) sound was
      where
        was : (k : ℕ) (c : Entry T) → at (set old place o) k ≡ Some c → (d : Entry T) × (at old k ≡ Some d) × (c.serial ≡ d.serial)
        was k c g =
            elim (cases_eq k place) [
              | inl same ↦ (e, ap (at old) same ∙ h, numbered c (sym (at-put_same old place o within) ∙ ap (at (set old place o)) (sym same) ∙ g))
              | inr other ↦ (c, sym (at-put_other old place k o other) ∙ g, refl)
            ]

    pub sound-removed : IsSound (set old place None) drawn
    sound-removed = sound_set None (λ d p. absurd (cc))

    pub removed : by_number drawn (set old place None) ≡ clear_at (by_number drawn old) n
    removed = same_at _ _ (length-by_number drawn (set old place None) ∙ sym (length-by_number drawn old) ∙ sym (length-set (by_number drawn old) n None)) at_each
      where
        absent : Absent n (set old place None)
        absent j d g t =
            elim (cases_eq j place) [
              | inl same ↦ let none : at (set old place None) j ≡ None = ap (at (set old place None)) same ∙ at-put_same old place None within in absurd (cc)
              | inr other ↦ other (sound.apart j place d e (sym (at-put_other old place j None other) ∙ g) h (t ∙ sym s))
            ]

        at_each : (k : ℕ) → at (by_number drawn (set old place None)) k ≡ at (clear_at (by_number drawn old) n) k
        at_each k =
            elim (cases_eq k n) [
              | inl same ↦
                  ap (at (by_number drawn (set old place None))) same ∙ at_drawn drawn (set old place None) n n_below ∙ scan_absent n 0 (set old place None) absent
                  ∙ sym (ap (at (clear_at (by_number drawn old) n)) same ∙ at-put_same (by_number drawn old) n None (omega (arith, length-by_number drawn old, n_below)))
              | inr differs ↦ others_kept None sound-removed (λ d p. absurd (cc)) k differs ∙ sym (at-put_other (by_number drawn old) n k None differs)
            ]

    numbered_same : (w : T) (d : Entry T) → Some (record e { value = w }) ≡ Some d → d.serial ≡ e.serial
    numbered_same w d p = let it : ◌≡◌ {A = Entry T} (record e { value = w }) d = cc in ap (λ (x : Entry T). x.serial) (sym it)

    pub sound-rewritten : (w : T) → IsSound (set old place (Some (record e { value = w }))) drawn
    sound-rewritten w = sound_set (Some (record e { value = w })) (numbered_same w)

    pub rewritten : (w : T) → by_number drawn (set old place (Some (record e { value = w }))) ≡ put_at (by_number drawn old) n (place, w)
    rewritten w = same_at _ _ (length-by_number drawn (set old place (Some (record e { value = w }))) ∙ sym (length-by_number drawn old) ∙ sym (length-set (by_number drawn old) n (Some (place, w)))) at_each
      where
        at_each : (k : ℕ) → at (by_number drawn (set old place (Some (record e { value = w })))) k ≡ at (put_at (by_number drawn old) n (place, w)) k
        at_each k =
            elim (cases_eq k n) [
              | inl same ↦
                  ap (at (by_number drawn (set old place (Some (record e { value = w }))))) (same ∙ sym s)
                  ∙ at_slot drawn (set old place (Some (record e { value = w }))) place (record e { value = w }) (sound-rewritten w) (at-put_same old place (Some (record e { value = w })) within)
                  ∙ sym (ap (at (put_at (by_number drawn old) n (place, w))) same ∙ at-put_same (by_number drawn old) n (Some (place, w)) (omega (arith, length-by_number drawn old, n_below)))
              | inr differs ↦
                  others_kept (Some (record e { value = w })) (sound-rewritten w) (λ d p. numbered_same w d p ∙ s) k differs
                  ∙ sym (at-put_other (by_number drawn old) n k (Some (place, w)) differs)
            ]

-- as many slots have a value where one has another value
pub count-same : {X : Type 0} (xs : List (Option X)) (i : ℕ) (x y : X) → at xs i ≡ Some x → count_by is_some (set xs i (Some y)) ≡ count_by is_some xs
count-same {X = X} xs i x y h =
    let counted = sum_by-set (λ (o : Option X). cond {A = ℕ} (is_some o) 1 0) xs i (Some y) None (at_within xs i x h) in
    let was : cond {A = ℕ} (is_some (at xs i)) 1 0 ≡ 1 = ap (λ (o : Option X). cond {A = ℕ} (is_some o) 1 0) h in
    omega arith

-- What a registry's fields keep

module _ {T : Type 0} (slab : Slab (Entry T)) (drawn room : ℕ) (out : Option Key) (kept : IsKept slab drawn room out) where
  -- more room, or more capacity
  pub kept-grown : (slab' : Slab (Entry T)) (room' : ℕ) → slab'.slots ≡ slab.slots → slab'.vacant_key ≡ slab.vacant_key → room ≤ room' → slab_len slab + room' ≤ slab'.capacity → slab_len slab + room' < 2 ^ 64 → IsKept slab' drawn room' out
  kept-grown slab' room' slots next more fits counted =
      let len : slab_len slab' ≡ slab_len slab = ap (λ (xs : List (Option (Entry T))). count_by is_some xs) slots in
      record {
        sound = subst (λ xs. IsSound xs drawn) (sym slots) kept.sound;
        fits = omega (arith, len, fits);
        counted = omega (arith, len, counted);
        returns = λ key is. let was = kept.returns key is in record {
          next = next ∙ was.next;
          below = was.below;
          absent = ap (λ xs. at (by_number drawn xs) key.serial) slots ∙ was.absent;
          has_room = omega (arith, was.has_room, more);
        };
      }

  -- another value of an entry
  module _ (place n : ℕ) (e : Entry T) (h : at slab.slots place ≡ Some e) (s : e.serial ≡ n) (w : T) where
    pub kept-rewritten : IsKept (record slab { slots = set slab.slots place (Some (record e { value = w })) }) drawn room out
    kept-rewritten =
        let len = count-same slab.slots place e (record e { value = w }) h in
        record {
          sound = sound-rewritten drawn place n slab.slots e kept.sound h s w;
          fits = omega (arith, len, kept.fits);
          counted = omega (arith, len, kept.counted);
          returns = λ key is. let was = kept.returns key is in record {
            next = was.next;
            below = was.below;
            absent =
                ap (λ xs. at xs key.serial) (rewritten drawn place n slab.slots e kept.sound h s w)
                ∙ at-put_other (by_number drawn slab.slots) n key.serial (Some (place, w)) (differs key was.absent)
                ∙ was.absent;
            has_room = was.has_room;
          };
        }
      where
        differs : (key : Key) → at (by_number drawn slab.slots) key.serial ≡ None → key.serial ≢ n
        differs key none same =
            let stands = at_slot drawn slab.slots place e kept.sound h in
            let here : at (by_number drawn slab.slots) e.serial ≡ None = ap (at (by_number drawn slab.slots)) (s ∙ sym same) ∙ none in
            absurd (cc)

  -- an entry's value is taken out
  pub kept-taken : (key : Key) (e : Entry T) → at slab.slots key.slot ≡ Some e → e.serial ≡ key.serial → (slab' : Slab (Entry T)) → slab'.slots ≡ set slab.slots key.slot None → slab'.vacant_key ≡ key.slot
      → slab'.capacity ≡ slab.capacity → slab_len slab' + 1 ≡ slab_len slab → IsKept slab' drawn (room + 1) (Some key)
  kept-taken key e h s slab' slots next capacity len = record {
    sound = subst (λ xs. IsSound xs drawn) (sym slots) (sound-removed drawn key.slot key.serial slab.slots e kept.sound h s);
    fits = omega (arith, kept.fits, capacity, len);
    counted = omega (arith, kept.counted, len);
    returns = λ k is. out_is k is;
  }
    where
      below : key.serial < drawn
      below = omega (arith, kept.sound.below key.slot e h, s)

      absent : at (by_number drawn slab'.slots) key.serial ≡ None
      absent =
          ap (λ xs. at (by_number drawn xs) key.serial) slots
          ∙ ap (λ xs. at xs key.serial) (removed drawn key.slot key.serial slab.slots e kept.sound h s)
          ∙ at-put_same (by_number drawn slab.slots) key.serial None (omega (arith, length-by_number drawn slab.slots, below))

      out_is : (k : Key) → Some key ≡ Some k → IsOut slab' drawn (room + 1) k
      out_is k is =
          let same : key ≡ k = cc in
          subst (λ x. IsOut slab' drawn (room + 1) x) same (record { next = next; below = below; absent = absent; has_room = omega arith })

  -- a value under a number that stood in no slot
  pub kept-filled : (drawn' : ℕ) (slab' : Slab (Entry T)) → IsSound slab'.slots drawn' → slab'.capacity ≡ slab.capacity → slab_len slab' ≡ slab_len slab + 1 → 0 < room → IsKept slab' drawn' (room - 1) None
  kept-filled drawn' slab' sound capacity len has_room = record {
    sound = sound;
    fits = omega (arith, kept.fits, capacity, len, has_room);
    counted = omega (arith, kept.counted, len, has_room);
    returns = λ key is. absurd (cc);
  }

-- the registry as a contract sees it, with these items and no other change
pub same_registry : {T : Type 0} (xs ys : List (Option (ℕ × T))) (room : ℕ) (out : Option Key) → xs ≡ ys → ◌≡◌ {A = Registry T} (record { items = xs; room = room; out = out }) (record { items = ys; room = room; out = out })
same_registry xs ys room out p = cc
