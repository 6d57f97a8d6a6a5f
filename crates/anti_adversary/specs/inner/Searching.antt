-- What is known while one schedule after another is tried.
use Rattle.std.specs.Prelude.{IfSome}
use Rattle.anti_app.specs.declared.app.App.{App}
use Rattle.anti_adversary.specs.Verdicts.{AreTriedInVain, IsLong}
use Rattle.anti_adversary.specs.declared.searching.Searched.{Searched}

-- so many runs missed nothing, and one that is noted missed something
pub record IsSearched (app : App) (searched : Searched) : Type 0 where
  pub runs : AreTriedInVain app searched.runs
  pub long : IfSome searched.long (λ missed. IsLong app missed.entries missed.span)
