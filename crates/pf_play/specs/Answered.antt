-- The answers of a run, as they are kept.

use Rattle.std.specs.Prelude.{ℕ, ◌≡◌, ◌<◌, ◌≤◌, List, length, map, slice_index_or, Option, Some, None}
use Rattle.std.specs.Vec.{vec_capacity}
use Rattle.std.specs.declared.alloc.Global.{Global}
use Rattle.std.specs.declared.vec.Vec.{Vec}
use Rattle.pf_base.specs.declared.admission.EventAnswer.{EventAnswer}
use Rattle.pf_script.specs.declared.told.Told.{Told}
use Rattle.pf_script.specs.Places.{lines_of}
use Rattle.pf_script.specs.Script.{Draft}
use Rattle.pf_script.specs.Text.{AreApart, IsAnswered}
use Rattle.pf_play.specs.declared.answered.Answered.{Answered}
use Rattle.pf_play.specs.declared.answered.Answered.TheVariants as forms
use Rattle.pf_play.specs.Plays.{IsPlayedFor}

-- there are answers of each name, and they are those to its own lines
abbrev pub AreAllApart : Draft → List EventAnswer → List (List EventAnswer) → Type 0
AreAllApart script answers own =
    (length own ≡ length script.spaces) × (length answers ≡ length script.steps) × AreApart script answers own

-- there is room for the answers to each name's lines
abbrev pub HaveRoom : Draft → List (Vec Told Global) → Type 0
HaveRoom script own = (n : ℕ) (d : Vec Told Global) → n < length script.spaces →
    length (lines_of script.steps n) ≤ vec_capacity (slice_index_or own n d)

-- these answers to all lines, or to those of the name that is chosen, are kept so
abbrev pub Holds : Draft → Answered → Option ℕ → List EventAnswer → Type 0
Holds script (forms.All own) None answers = AreAllApart script answers (map (λ v. v.items) own.items)
Holds script (forms.All own) (Some n) answers = ⊥
Holds script (forms.Alone n own) None answers = ⊥
Holds script (forms.Alone n own) (Some m) answers = (n ≡ m) × (own.items ≡ answers) × IsAnswered script answers (Some m)

-- they are the answers to a script's lines, or with one name chosen to its lines run alone
abbrev pub IsRun : Draft → Option ℕ → Answered → Type 0
IsRun script only answered =
    (answers : List EventAnswer) × Holds script answered only answers × IsPlayedFor script only answers
