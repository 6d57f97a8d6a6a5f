-- Objects that were closed, each with the calls that were made on it, and how they become those of a world.
use Rattle.std.specs.Prelude.{◌≡◌, ℕ, List, ◌++◌, [], length, All, Option, None, Some, slice_get, slice_set}
use Rattle.anti_ids.specs.List.{Listed, empty}
use Rattle.anti_ids.specs.ListCalls.{pushed}
use Rattle.anti_kind.specs.declared.entry.Entry.{Entry}
use Rattle.anti_kind.specs.Records.{Record}
use Rattle.anti_app.specs.declared.app.App.{App}
use Rattle.anti_app.specs.Objects.{object_count}
use Rattle.anti_object.specs.declared.object.Object.{Object}
use Rattle.anti_object.specs.Standing.{ObjectAt, object_start}
use Rattle.anti_object.specs.Starts.{start_of}
use Rattle.anti_trace.specs.Traces.{entries_on}

-- an object, and the calls that were made on it
abbrev pub Kept : Type 0
Kept = Object × Listed Entry

-- The object of a number of the application stands for its history, whose calls were made on it.
pub record IsKeptAt (app : App) (o : ℕ) (kept : Kept) : Type 0 where
  pub start : start_of app o ≡ Some (object_start kept.0)
  pub stands : ObjectAt kept.0 kept.1.items
  pub own : All (λ e. e.object ≡ o) kept.1.items

-- What is kept is that of the objects of the application, in the order of their numbers.
pub record AreKept (app : App) (kepts : List Kept) : Type 0 where
  pub count : length kepts ≡ object_count app
  pub each : (o : ℕ) (kept : Kept) → slice_get kepts o ≡ Some kept → IsKeptAt app o kept

abbrev pub history_of : Option Kept → List Entry
history_of None = []
history_of (Some kept) = kept.1.items

-- the history of the object of a number: none where there is no object
abbrev pub history_at : List Kept → ℕ → List Entry
history_at kepts o = history_of (slice_get kepts o)

-- The history of each object in the trace is what is kept of it.
abbrev pub HasHistories : List Entry → List Kept → Type 0
HasHistories trace kepts = (o : ℕ) → entries_on o trace ≡ history_at kepts o

-- ---- the histories are taken, and given back by a trace

abbrev pub taken : Kept → Listed Entry
taken kept = kept.1

abbrev pub bare : Kept → Kept
bare kept = (kept.0, empty)

-- The object of a number stands for its history in the trace, and nothing is kept with it.
pub record IsBareAt (app : App) (trace : List Entry) (o : ℕ) (kept : Kept) : Type 0 where
  pub start : start_of app o ≡ Some (object_start kept.0)
  pub stands : ObjectAt kept.0 (entries_on o trace)
  pub none : kept.1.items ≡ []

pub record AreBare (app : App) (trace : List Entry) (kepts : List Kept) : Type 0 where
  pub count : length kepts ≡ object_count app
  pub each : (o : ℕ) (kept : Kept) → slice_get kepts o ≡ Some kept → IsBareAt app trace o kept

-- the entry stands behind the history of its object
abbrev pub with_entry : Entry → Kept → Kept
with_entry e kept = (kept.0, pushed kept.1 e)

pub record IsBackAt (was : List Kept) (e : Entry) (now : List Kept) : Type 0 where
  pub kept : Kept
  pub there : slice_get was e.object ≡ Some kept
  pub now_are : now ≡ slice_set was e.object (with_entry e kept)

-- An object is what it was, and its entries stand behind the history that it had.
pub record IsWith (kept : Kept) (more : List Entry) (now : Option Kept) : Type 0 where
  pub history : Listed Entry
  pub now_is : now ≡ Some (kept.0, history)
  pub entries : history.items ≡ kept.1.items ++ more

pub record AreBack (was : List Kept) (entries : List Entry) (now : List Kept) : Type 0 where
  pub count : length now ≡ length was
  pub each : (o : ℕ) (kept : Kept) → slice_get was o ≡ Some kept → IsWith kept (entries_on o entries) (slice_get now o)

-- ---- in a world

abbrev pub at_last : Kept → Record Object
at_last kept = record { machine = kept.0; history = kept.1.items }
