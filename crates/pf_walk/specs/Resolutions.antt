-- What the types of this crate mean in the definitions' terms.

use Rattle.std.specs.Prelude.{ℕ, Bool, List, Result}
use Rattle.pf_machine.specs.FileMap.{Path, Files}
use Rattle.pf_machine.specs.Paths.{Words as PathWords, Resolved as PathResolved, Last as PathLast, Nothing, Dot, DotDot, Named, components, target, entry}
use Rattle.pf_machine.specs.FileCalls.{Place as EntryPlace}
use Rattle.pf_base.specs.declared.cred.Cred.{Cred}
use Rattle.pf_base.specs.declared.errno.Errno.{Errno}
use Rattle.pf_base.specs.declared.meta.File.{File}
use Rattle.pf_tree.specs.Subtrees.{path_of}
use Rattle.pf_walk.specs.declared.calls.Place.{Place}
use Rattle.pf_walk.specs.declared.words.Words.{Words}
use Rattle.pf_walk.specs.declared.words.Way.{Way}
use Rattle.pf_walk.specs.declared.words.Way.TheVariants.{Plain, Kept}
use Rattle.pf_walk.specs.declared.resolution.Last.{Last}
use Rattle.pf_walk.specs.declared.resolution.Last.TheVariants.{Nothing as NoLast, Dot as LastDot, DotDot as LastDotDot, Name as LastName}
use Rattle.pf_walk.specs.declared.resolution.Purpose.{Purpose}
use Rattle.pf_walk.specs.declared.resolution.Purpose.TheVariants.{Target, Entry}
use Rattle.pf_walk.specs.declared.resolution.Resolved.{Resolved}
use Rattle.pf_walk.specs.declared.resolution.Arrival.{Arrival}
use Rattle.pf_walk.specs.declared.resolution.Found.{Found}

abbrev pub words : Words → PathWords
words w = record { names = path_of w.names.items; slash = w.slash }

abbrev pub last : Last → PathLast
last NoLast = Nothing
last LastDot = Dot
last LastDotDot = DotDot
last (LastName n) = Named n.now

abbrev pub resolved : Resolved → PathResolved
resolved r = record { path = path_of r.path.items; file = r.file; last = last r.last; slash = r.slash }

-- the names of a way
abbrev pub way : Way → Path
way (Plain bs) = components bs.now
way (Kept ns) = path_of ns.items

abbrev pub found : {A : Type 0} → Found A → PathResolved
found f = record { path = way f.way; file = f.file; last = Nothing; slash = f.slash }

abbrev pub placed : Place → EntryPlace
placed l = record { path = way l.way; directory = l.directory; slash = l.slash }

-- what is resolved, beside its node
abbrev pub node_resolved : {N : Type 0} → Resolved × N → PathResolved
node_resolved r = resolved r.0

abbrev pub arrived : {A : Type 0} → Arrival A → Path × File
arrived r = (path_of r.path.items, r.file)

-- where a target is arrived at, beside whether a slash stands behind it
abbrev pub target_arrived : {A : Type 0} → Arrival A × Bool → PathResolved
target_arrived r = record { path = path_of r.0.path.items; file = r.0.file; last = Nothing; slash = r.1 }

abbrev pub resolution : Purpose → Files → Cred → List ℕ → Result PathResolved Errno
resolution Target files c bs = target files c bs
resolution Entry files c bs = entry files c bs
