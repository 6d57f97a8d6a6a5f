-- The objects of an application after all that happened in a trace.
use Rattle.std.specs.Prelude.{◌≡◌, ℕ, ◌<◌, List, [], length, Some, slice_index_or}
use Rattle.anti_kind.specs.declared.entry.Entry.{Entry}
use Rattle.anti_kind.specs.Objects.{Start, Follows}
use Rattle.anti_app.specs.declared.app.App.{App}
use Rattle.anti_app.specs.Objects.{object_count}
use Rattle.anti_object.specs.declared.object.Object.{Object}
use Rattle.anti_object.specs.Standing.{object_start, ObjectAt}
use Rattle.anti_object.specs.Starts.{start_of}
use Rattle.anti_trace.specs.Traces.{entries_on}

-- the object with a number, after its history in the trace
pub record IsAfter (app : App) (trace : List Entry) (o : ℕ) (x : Object) : Type 0 where
  pub start : start_of app o ≡ Some (object_start x)
  pub stands : ObjectAt x (entries_on o trace)

-- the objects of the application, each after its history in the trace
pub record AreAfter (app : App) (trace : List Entry) (objects : List Object) : Type 0 where
  pub many : length objects ≡ object_count app
  pub each : (o : ℕ) (d : Object) → o < length objects → IsAfter app trace o (slice_index_or objects o d)

-- the objects stand for what comes before an entry, which may come next at its object
pub record AreBefore (app : App) (before : List Entry) (e : Entry) (objects : List Object) : Type 0 where
  pub are : AreAfter app before objects
  pub there : e.object < object_count app
  pub follows : (start : Start) → start_of app e.object ≡ Some start → Follows start (entries_on e.object before) e

-- they do so for some application and some trace
abbrev pub AreBeforeSome : Entry → List Object → Type 0
AreBeforeSome e objects = (app : App) × ((before : List Entry) × AreBefore app before e objects)

-- the first objects of an application, so many of them, on which nothing has happened yet
pub record AreFirst (app : App) (count : ℕ) (objects : List Object) : Type 0 where
  pub many : length objects ≡ count
  pub each : (o : ℕ) (d : Object) → o < length objects → IsAfter app [] o (slice_index_or objects o d)
