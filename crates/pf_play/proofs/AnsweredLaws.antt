-- Each line that is run has its answer.

use Rattle.std.proofs.Common.{◌≡◌, ℕ, Bool, true, false, List, [], ◌∷◌, length, refl, ap, sym, ◌∙◌}
use Rattle.std.proofs.Common.{suc}
use Rattle.std.specs.Prelude.{Option, Some, None}
use Rattle.std.proofs.lemmas.List.{length-map}
use Rattle.pf_base.specs.declared.admission.EventAnswer.{EventAnswer}
use Rattle.pf_base.specs.declared.admission.EventAnswer.TheVariants as told
use Rattle.pf_machine.specs.Events.{mine}
use Rattle.pf_machine.specs.Houses.{House, Event}
use Rattle.pf_script.specs.Places.{lines_of}
use Rattle.pf_script.specs.Script.{Draft}
use Rattle.pf_script.specs.Text.{IsAnswered}
use Rattle.pf_script.specs.declared.line.Line.{Line}
use Rattle.pf_script.specs.declared.line.Line.TheVariants as lines
use Rattle.pf_play.specs.Houses.{Fall, alone, events_of, first_house, said}
use Rattle.pf_play.specs.Played.{IsChosen, comes_and_goes, steps_of}
use Rattle.pf_play.specs.Plays.{IsPlayedFor, IsPlayedWhere}
use Rattle.pf_play.proofs.MergeLaws.{many_steps}
use Rattle.pf_play.proofs.WorkLaws.{lines_mine}

pub fall_many : (old new : House) (es : List Event) (answers : List EventAnswer) → Fall old es answers new →
    length answers ≡ length es
fall_many old new [] [] falls = refl
fall_many old new [] (a ∷ answers) falls = absurd falls
fall_many old new (e ∷ es) [] falls = absurd falls
fall_many old new (e ∷ es) (a ∷ answers) falls = ap suc (fall_many falls.0 new es answers falls.2)

housed_answered : (script : Draft) (only : Option ℕ) (answers : List EventAnswer) → IsChosen script only →
    IsPlayedWhere true script only answers → IsAnswered script answers only
housed_answered script None answers chosen housed =
    fall_many (first_house script) housed.end (events_of script) answers housed.fall
    ∙ length-map script.steps (said script.spaces)
housed_answered script (Some n) answers low housed = (
  low,
  fall_many (first_house (alone script n)) housed.end (events_of (alone script n)) answers housed.fall
      ∙ length-map (alone script n).steps (said (alone script n).spaces)
      ∙ length-map (lines_of script.steps n) (λ line. (0, line)),
)

plain_answered : (script : Draft) (only : Option ℕ) (answers : List EventAnswer) → comes_and_goes script ≡ false →
    IsChosen script only → IsPlayedWhere false script only answers → IsAnswered script answers only
plain_answered script None answers none chosen played =
    ap (λ (xs : List EventAnswer). length xs) played.1 ∙ length-map played.0 (λ a. told.Answer a) ∙ played.2.0
    ∙ many_steps script.steps none
plain_answered script (Some n) answers none low played = (
  low,
  ap (λ (xs : List EventAnswer). length xs) played.1 ∙ length-map played.0 (λ a. told.Answer a) ∙ played.2.0
      ∙ sym (length-map (mine (steps_of script) n) (λ s. lines.Step s))
      ∙ ap (λ (xs : List Line). length xs) (sym (lines_mine script.steps n none)),
)

pub answered : (script : Draft) (only : Option ℕ) (answers : List EventAnswer) → IsChosen script only →
    IsPlayedFor script only answers → IsAnswered script answers only
answered script only answers chosen played = by (comes_and_goes script) refl played
  where
    by : (b : Bool) → comes_and_goes script ≡ b → IsPlayedWhere b script only answers → IsAnswered script answers only
    by true is played = housed_answered script only answers chosen played
    by false is played = plain_answered script only answers is chosen played
