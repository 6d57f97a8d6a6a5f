-- What is kept of the objects that were shared.
use Rattle.std.specs.Prelude.{◌≡◌, ℕ, ◌+◌, ◌<◌, List, [], ◌++◌, length, reverse, All, Some, slice_get, slice_index_or}
use Rattle.std.specs.List.{AllZip}
use Rattle.anti_kind.specs.declared.entry.Entry.{Entry}
use Rattle.anti_app.specs.declared.app.App.{App}
use Rattle.anti_app.specs.Objects.{object_count}
use Rattle.anti_object.specs.declared.object.Object.{Object}
use Rattle.anti_object.specs.Standing.{ObjectAt, object_start}
use Rattle.anti_object.specs.Starts.{start_of}
use Rattle.anti_shared.specs.Passes.{IsPass, PassView, SharedView, numbers_of}
use Rattle.anti_shared.specs.Passes as passes
use Rattle.anti_turn.specs.Lists.{times}
use Rattle.anti_play.specs.inner.Kepts.{Kept}
use Rattle.anti_work.specs.inner.Knowing.{KnowsCalls}

-- The object of a pass was closed by it.
pub record IsClosedBy (pass : PassView Object) (kept : Kept) : Type 0 where
  pub history_is : kept.1.items ≡ pass.seen
  pub own : All (λ e. 0 < times e.seat (numbers_of pass)) kept.1.items
  pub knows : IsPass object_start pass
  pub objects : All (λ e. e.object ≡ pass.id.object) kept.1.items
  pub start : passes.start_of object_start pass.id ≡ Some (object_start kept.0)
  pub stands : ObjectAt kept.0 kept.1.items

-- Each object was closed by the pass at its place.
abbrev pub AreClosedBy : List (PassView Object) → List Kept → Type 0
AreClosedBy firsts kepts = AllZip IsClosedBy firsts kepts

-- the pass is of the shared object
abbrev pub IsOfShared : SharedView Object → PassView Object → Type 0
IsOfShared s pass = pass.id ≡ s.id

-- These objects and their passes are left, the last one first, and those before them were closed.
pub record AreClosing (firsts : List (PassView Object)) (shared : List (SharedView Object)) (left : List (PassView Object)) (kepts : List Kept) : Type 0 where
  pub gone : List (PassView Object)
  pub whole : gone ++ reverse left ≡ firsts
  pub same : AllZip IsOfShared (reverse shared) (reverse left)
  pub closed : AreClosedBy gone kepts

-- The shared objects are those of the application, each with the start of its number.
pub record AreSharedBy (app : App) (shared : List (SharedView Object)) : Type 0 where
  pub count : length shared ≡ object_count app
  pub each : (o : ℕ) (s : SharedView Object) → slice_get shared o ≡ Some s → passes.start_of object_start s.id ≡ start_of app o

-- The passes of each worker know its calls.
abbrev pub KnowAll : App → List (List (PassView Object)) → (ℕ → List Entry) → Type 0
KnowAll app all works = (w : ℕ) → w < length all → KnowsCalls app (w + 1) (slice_index_or all w []) (works w)
