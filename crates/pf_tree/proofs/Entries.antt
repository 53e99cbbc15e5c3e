-- Entries whose names rise, each with a file of its own, stay so where one comes in at its place or goes.
use Rattle.std.proofs.Common.{◌≡◌, List, [], ◌∷◌, ◌++◌, sym, subst}
use Rattle.std.specs.declared.cmp.Ordering.TheVariants.{Less}
use Rattle.pf_machine.specs.FileMap.{Name, name_cmp}
use Rattle.pf_tree.specs.Node.{Boxed, After, Before, Rises, Rooted, HasRoot}

module _ {Z : Type 0} where
  abbrev pub IsSound : List (Boxed Z) → Type 0
  IsSound es = Rises es × Rooted es

  after_out : (m : Name) (front : List (Boxed Z)) (e : Boxed Z) (back : List (Boxed Z)) → After m (front ++ e ∷ back)
      → After m (front ++ back)
  after_out m [] e back a = a.1
  after_out m (x ∷ front) e back a = (a.0, after_out m front e back a.1)

  pub sound_out : (front : List (Boxed Z)) (e : Boxed Z) (back : List (Boxed Z)) → IsSound (front ++ e ∷ back)
      → IsSound (front ++ back)
  sound_out [] e back s = (s.0.1, s.1.1)
  sound_out (x ∷ front) e back s =
      let rest = sound_out front e back (s.0.1, s.1.1) in
      ((after_out x.value.name.items front e back s.0.0, rest.0), (s.1.0, rest.1))

  after_in : (m : Name) (front : List (Boxed Z)) (e : Boxed Z) (back : List (Boxed Z))
      → name_cmp m e.value.name.items ≡ Less → After m (front ++ back) → After m (front ++ e ∷ back)
  after_in m [] e back lt a = (lt, a)
  after_in m (x ∷ front) e back lt a = (a.0, after_in m front e back lt a.1)

  pub sound_in : (n : Name) (front : List (Boxed Z)) (e : Boxed Z) (back : List (Boxed Z))
      → Before n front → After n back → e.value.name.items ≡ n → HasRoot e.value.node → IsSound (front ++ back) → IsSound (front ++ e ∷ back)
  sound_in n [] e back b a named h s = ((subst (λ k. After k back) (sym named) a, s.0), (h, s.1))
  sound_in n (x ∷ front) e back b a named h s =
      let rest = sound_in n front e back b.1 a named h (s.0.1, s.1.1) in
      let lt = subst (λ k. name_cmp x.value.name.items k ≡ Less) (sym named) b.0 in
      ((after_in x.value.name.items front e back lt s.0.0, rest.0), (s.1.0, rest.1))

  pub rooted_in : (front : List (Boxed Z)) (e : Boxed Z) (back : List (Boxed Z)) → Rooted (front ++ e ∷ back)
      → HasRoot e.value.node
  rooted_in [] e back h = h.0
  rooted_in (x ∷ front) e back h = rooted_in front e back h.1
