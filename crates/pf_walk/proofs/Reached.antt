-- What follows from where names lead, for a target and for an entry.
use Rattle.std.proofs.Common.{◌≡◌, [], refl, ap, Some, None, Option}
use Rattle.std.specs.Prelude.{Result, Ok, Err, ◌&&◌, not}
use Rattle.pf_machine.specs.Refusals.{◌>>=◌, ◌>>◌, refuse_if, or_refuse}
use Rattle.pf_machine.specs.FileMap.{Path, Files, find, front, is_directory}
use Rattle.pf_machine.specs.Paths.{Words, Resolved, Nothing, permitted, searched, reach, last_of, target_of, entry_of}
use Rattle.pf_base.specs.declared.cred.Cred.{Cred}
use Rattle.pf_base.specs.declared.errno.Errno.{Errno}
use Rattle.pf_base.specs.declared.errno.Errno.TheVariants.{ENOENT, ENOTDIR}
use Rattle.pf_base.specs.declared.fault.Fault.{Fault}
use Rattle.pf_base.specs.declared.fault.Fault.TheVariants.{Errno as Refused, NoMemory}
use Rattle.pf_base.specs.declared.meta.File.{File}
use Rattle.pf_walk.specs.Told.{Told}
use Rattle.pf_walk.specs.Walks.{file_at}

pub file_at_bind : {B : Type 0} (fs : Files) (r : Result Path Errno) (k : Path × File → Result B Errno) → (file_at fs r >>= k) ≡ (r >>= (λ at. or_refuse ENOENT (find at fs) >>= (λ f. k (at, f))))
file_at_bind fs (Err e) k = refl
file_at_bind fs (Ok at) k = by (find at fs)
  where
    by : (o : Option File) → ((or_refuse ENOENT o >>= (λ f. Ok (at, f))) >>= k) ≡ (or_refuse ENOENT o >>= (λ f. k (at, f)))
    by None = refl
    by (Some f) = refl

abbrev pub if_permitted : {B : Type 0} → Cred → (Path → File → Result B Errno) → Path × File → Result B Errno
if_permitted c k t = permitted c t.1 >> k t.0 t.1

pub searched_bind : {B : Type 0} (fs : Files) (c : Cred) (r : Result Path Errno) (k : Path → File → Result B Errno) → (file_at fs r >>= if_permitted c k) ≡ (r >>= (λ at. searched fs c at >>= (λ f. k at f)))
searched_bind fs c (Err e) k = refl
searched_bind fs c (Ok at) k = by (find at fs)
  where
    goes : (f : File) (s : Result (Unit {0}) Errno) → (s >> k at f) ≡ ((s >> Ok f) >>= (λ g. k at g))
    goes f (Ok t) = refl
    goes f (Err e) = refl

    by : (o : Option File) → ((or_refuse ENOENT o >>= (λ f. Ok (at, f))) >>= if_permitted c k) ≡ ((or_refuse ENOENT o >>= (λ f. permitted c f >> Ok f)) >>= (λ f. k at f))
    by None = refl
    by (Some f) = goes f (permitted c f)

-- a refusal, or a want of memory, is handed on
pub told_on : {A B X Y : Type 0} (m : A → B) (m' : X → Y) (fault : Fault) (a : Result B Errno) (k : B → Result Y Errno) → Told m (Err fault) a → Told m' (Err fault) (a >>= k)
told_on m m' (Refused e) a k h = ap (λ r. r >>= k) h
told_on m m' NoMemory a k h = tt

module _ (fs : Files) (c : Cred) (w : Words) where
  abbrev pub target_at : Path × File → Result Resolved Errno
  target_at t = refuse_if (w.slash && not (is_directory t.1)) ENOTDIR >> Ok (record { path = t.0; file = t.1; last = Nothing; slash = w.slash })

  pub target_from : (file_at fs (reach fs c [] w.names) >>= target_at) ≡ target_of fs c w
  target_from = file_at_bind fs (reach fs c [] w.names) target_at

  abbrev pub entry_at : Path → File → Result Resolved Errno
  entry_at at f = Ok (record { path = at; file = f; last = last_of w.names; slash = w.slash })

  pub entry_from : (file_at fs (reach fs c [] (front w.names)) >>= if_permitted c entry_at) ≡ entry_of fs c w
  entry_from = searched_bind fs c (reach fs c [] (front w.names)) entry_at
