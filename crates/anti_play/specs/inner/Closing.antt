-- The beginning and the end of a run: an object on which nothing has happened yet, the choices that were made so far, and the world when all
-- is over.
use Rattle.std.specs.Prelude.{◌≡◌, ℕ, Bool, cond, List, [], ◌∷◌, ◌++◌, map, take}
use Rattle.anti_ids.specs.List.{Listed, plain}
use Rattle.anti_app.specs.declared.app.App.{App}
use Rattle.anti_app.specs.declared.app.Choice.{Choice}
use Rattle.anti_kind.specs.declared.entry.Entry.{Entry}
use Rattle.anti_kind.specs.Records.{Record}
use Rattle.anti_object.specs.declared.object.Object.{Object}
use Rattle.anti_play.specs.declared.world.World.{World}
use Rattle.anti_play.specs.Schedule.{Run, stepped, run_from}
use Rattle.anti_play.specs.inner.Standing.{WorldStands}

-- an object on which nothing has happened yet
abbrev pub at_first : Object → Record Object
at_first object = record { machine = object; history = [] }

-- the run of so many of the first choices
abbrev pub run_until : App → ℕ → Run
run_until app count = run_from app (record { trace = []; waits = [] }) 1 (take count app.choices.items)

-- what a choice made of a world that stood for the trace of a run, and whether it was no wait
pub record Steps (app : App) (run : Run) (number : ℕ) (choice : Choice) (made : Bool) (w : World) : Type 0 where
  pub world : WorldStands app w (stepped app run number choice).trace
  pub waits_are : (stepped app run number choice).waits ≡ cond made run.waits (run.waits ++ number ∷ [])

-- the world after so many choices, and the numbers of those that were waits
pub record HasPlayed (app : App) (count : ℕ) (w : World) (waits : Listed ℕ) : Type 0 where
  pub world : WorldStands app w (run_until app count).trace
  pub waits_are : waits ≡ plain (run_until app count).waits

-- the histories of some objects
abbrev pub histories_of : List (Record Object) → List (List Entry)
histories_of objects = map (λ r. r.history) objects
