-- One component further, by what was found and tested on the way.
use Rattle.std.proofs.Common.{◌≡◌, [], ◌∷◌, ◌++◌, refl, sym, ap, ◌∙◌, Some, None, Option, T, subst}
use Rattle.std.specs.Prelude.{Ok, Err, Bool, true, false, ◌||◌, IsSome, if◌then◌else◌}
use Rattle.pf_machine.specs.Refusals.{◌>>=◌, ◌>>◌, or_refuse}
use Rattle.pf_machine.specs.FileMap.{Name, Path, Files, find, front}
use Rattle.pf_machine.specs.Paths.{is_dot, is_dot_dot, is_dotted, permitted, searched, step_to, stepped, reach}
use Rattle.pf_base.specs.declared.cred.Cred.{Cred}
use Rattle.pf_base.specs.declared.errno.Errno.{Errno}
use Rattle.pf_base.specs.declared.errno.Errno.TheVariants.{ENOENT}
use Rattle.pf_base.specs.declared.meta.File.{File}

pub first_false : (a b : Bool) → (a || b) ≡ false → a ≡ false
first_false true b e = e
first_false false b e = refl

pub second_false : (a b : Bool) → (a || b) ≡ false → b ≡ false
second_false true b e = absurd (subst T e tt)
second_false false b e = e

module _ (fs : Files) (c : Cred) (p : Path) {f : File} (here : find p fs ≡ Some f) where
  pub searched_here : searched fs c p ≡ (permitted c f >> Ok f)
  searched_here = ap (λ o. or_refuse ENOENT o >>= (λ g. permitted c g >> Ok g)) here

  pub step_refused : (n : Name) (e : Errno) → permitted c f ≡ Err e → stepped fs c p n ≡ Err e
  step_refused n e no_way = ap (λ s. s >>= (λ d. step_to fs p n)) (searched_here ∙ ap (λ r. r >> Ok f) no_way)

  module _ (n : Name) (t : Unit {0}) (way : permitted c f ≡ Ok t) where
    goes : stepped fs c p n ≡ step_to fs p n
    goes = ap (λ s. s >>= (λ d. step_to fs p n)) (searched_here ∙ ap (λ r. r >> Ok f) way)

    pub step_stays : is_dot n ≡ true → stepped fs c p n ≡ Ok p
    step_stays dot = goes ∙ ap (λ b. if b then Ok p else (if is_dot_dot n then Ok (front p) else (or_refuse ENOENT (find (p ++ n ∷ []) fs) >>= (λ g. Ok (p ++ n ∷ []))))) dot

    pub step_up : is_dot n ≡ false → is_dot_dot n ≡ true → stepped fs c p n ≡ Ok (front p)
    step_up dot dots =
        goes ∙ ap (λ b. if b then Ok p else (if is_dot_dot n then Ok (front p) else (or_refuse ENOENT (find (p ++ n ∷ []) fs) >>= (λ g. Ok (p ++ n ∷ []))))) dot
        ∙ ap (λ b. if b then Ok (front p) else (or_refuse ENOENT (find (p ++ n ∷ []) fs) >>= (λ g. Ok (p ++ n ∷ [])))) dots

    by_name : is_dot n ≡ false → is_dot_dot n ≡ false → stepped fs c p n ≡ (or_refuse ENOENT (find (p ++ n ∷ []) fs) >>= (λ g. Ok (p ++ n ∷ [])))
    by_name dot dots =
        goes ∙ ap (λ b. if b then Ok p else (if is_dot_dot n then Ok (front p) else (or_refuse ENOENT (find (p ++ n ∷ []) fs) >>= (λ g. Ok (p ++ n ∷ []))))) dot
        ∙ ap (λ b. if b then Ok (front p) else (or_refuse ENOENT (find (p ++ n ∷ []) fs) >>= (λ g. Ok (p ++ n ∷ [])))) dots

    pub step_lost : is_dot n ≡ false → is_dot_dot n ≡ false → find (p ++ n ∷ []) fs ≡ None → stepped fs c p n ≡ Err ENOENT
    step_lost dot dots none = by_name dot dots ∙ ap (λ o. or_refuse ENOENT o >>= (λ g. Ok (p ++ n ∷ []))) none

    pub step_down : is_dot n ≡ false → is_dot_dot n ≡ false → IsSome (find (p ++ n ∷ []) fs) → stepped fs c p n ≡ Ok (p ++ n ∷ [])
    step_down dot dots some = by_name dot dots ∙ by (find (p ++ n ∷ []) fs) some
      where
        by : (o : Option File) → IsSome o → (or_refuse ENOENT o >>= (λ g. Ok (p ++ n ∷ []))) ≡ Ok (p ++ n ∷ [])
        by None none = absurd (subst T (sym none) tt)
        by (Some g) there = refl

  -- the same with more components behind it
  pub reach_refused : (n : Name) (ns : Path) (e : Errno) → permitted c f ≡ Err e → reach fs c p (n ∷ ns) ≡ Err e
  reach_refused n ns e no_way = ap (λ r. r >>= (λ next. reach fs c next ns)) (step_refused n e no_way)

  module _ (n : Name) (ns : Path) (t : Unit {0}) (way : permitted c f ≡ Ok t) (plain : is_dotted n ≡ false) where
    pub reach_lost : find (p ++ n ∷ []) fs ≡ None → reach fs c p (n ∷ ns) ≡ Err ENOENT
    reach_lost none = ap (λ r. r >>= (λ next. reach fs c next ns)) (step_lost n t way (first_false (is_dot n) (is_dot_dot n) plain) (second_false (is_dot n) (is_dot_dot n) plain) none)

    pub reach_down : IsSome (find (p ++ n ∷ []) fs) → reach fs c p (n ∷ ns) ≡ reach fs c (p ++ n ∷ []) ns
    reach_down some = ap (λ r. r >>= (λ next. reach fs c next ns)) (step_down n t way (first_false (is_dot n) (is_dot_dot n) plain) (second_false (is_dot n) (is_dot_dot n) plain) some)
