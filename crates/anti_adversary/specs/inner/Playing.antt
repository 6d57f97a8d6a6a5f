-- What the code knows of a run that it plays.
use Rattle.std.specs.Prelude.{IsTrue, List, [], ◌∷◌, ◌++◌, All, Option, None, Some}
use Rattle.anti_kind.specs.declared.entry.Entry.{Entry}
use Rattle.anti_app.specs.declared.app.App.{App}
use Rattle.anti_app.specs.declared.app.Choice.{Choice}
use Rattle.anti_app.specs.Sound.{is_sound_choice}
use Rattle.anti_trace.specs.declared.mark.Mark.{Mark}
use Rattle.anti_play.specs.inner.Standing.{WorldStands}
use Rattle.anti_adversary.specs.Runs.{IsPlayedWhole, MakesMarks}
use Rattle.anti_adversary.specs.declared.player.Player.{Player}

-- these choices were made, each of which made an entry
pub record HasMade (app : App) (player : Player) (choices : List Choice) : Type 0 where
  pub trace : List Entry
  pub stands : WorldStands app player.world trace
  pub sound : All (λ choice. IsTrue (is_sound_choice app choice)) choices
  pub made : MakesMarks app [] choices player.marks.items trace

-- some choices were made
pub record IsPlayer (app : App) (player : Player) : Type 0 where
  pub choices : List Choice
  pub made : HasMade app player choices

-- with the choice behind the others, where it made an entry
abbrev pub with_made : Option Mark → Choice → List Choice → List Choice
with_made None choice choices = choices
with_made (Some mark) choice choices = choices ++ choice ∷ []

-- some choices were played whole, and this is the trace
pub record IsWhole (app : App) (trace : List Entry) : Type 0 where
  pub choices : List Choice
  pub whole : IsPlayedWhole app choices trace
