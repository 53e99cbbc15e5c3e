-- The same of the calls on files: they follow no name, and no slot.

use Rattle.std.proofs.Common.{◌≡◌, ℕ, List, refl}
use Rattle.pf_base.specs.Permissions.{mode_of}
use Rattle.pf_base.specs.declared.meta.Kind.{Kind}
use Rattle.pf_machine.specs.FileCalls as calls
use Rattle.pf_machine.specs.State.{Process, State, Outcome}
use Rattle.pf_machine.specs.Files.{make, unlink, rmdir, chmod, stat, list}
use Rattle.pf_machine.specs.Maps.{if_ok, process_as, state_as, outcome_as}
use Rattle.pf_machine.proofs.MapLaws.{bind-same}

module _ {X Y : Type 0} (f : X → Y) {N M : Type 0} (g : N → M) where
  abbrev S : State X N → State Y M
  S = state_as f g

  abbrev O : Outcome X N → Outcome Y M
  O = outcome_as f g

  module _ (s : State X N) (p : Process N) (path : List ℕ) where
    abbrev q : Process M
    q = process_as g p

    pub make-as : (kind : Kind) (bits : ℕ) → make kind (S s) q path bits ≡ if_ok O (make kind s p path bits)
    make-as kind bits =
        bind-same O (mode_of bits) _ _ (λ mode.
        bind-same O (calls.make kind s.files s.files_made p.cred path mode) _ _ (λ files. refl))

    pub unlink-as : unlink (S s) q path ≡ if_ok O (unlink s p path)
    unlink-as = bind-same O (calls.unlink s.files p.cred path) _ _ (λ files. refl)

    pub rmdir-as : rmdir (S s) q path ≡ if_ok O (rmdir s p path)
    rmdir-as = bind-same O (calls.rmdir s.files p.cred path) _ _ (λ files. refl)

    pub chmod-as : (bits : ℕ) → chmod (S s) q path bits ≡ if_ok O (chmod s p path bits)
    chmod-as bits =
        bind-same O (mode_of bits) _ _ (λ mode.
        bind-same O (calls.chmod s.files p.cred path mode) _ _ (λ files. refl))

    pub stat-as : stat (S s) q path ≡ if_ok O (stat s p path)
    stat-as = bind-same O (calls.stat s.files p.cred path) _ _ (λ meta. refl)

    pub list-as : list (S s) q path ≡ if_ok O (list s p path)
    list-as = bind-same O (calls.list s.files p.cred path) _ _ (λ names. refl)
