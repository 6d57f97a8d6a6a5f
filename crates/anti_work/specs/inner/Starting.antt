-- What each worker begins with, and what it gives back.
use Rattle.std.specs.Prelude.{ℕ, ◌⊎◌, List, []}
use Rattle.std.specs.List.{Contains}
use Rattle.anti_kind.specs.declared.entry.Entry.{Entry}
use Rattle.anti_app.specs.declared.app.App.{App}
use Rattle.anti_object.specs.declared.object.Object.{Object}
use Rattle.anti_shared.specs.Passes.{SharedView}
use Rattle.anti_work.specs.declared.done.Done.{Done}
use Rattle.anti_work.specs.declared.start.Start.{Start}
use Rattle.anti_work.specs.inner.Joining.{passes_of}
use Rattle.anti_work.specs.inner.Knowing.{AreOf, KnowsCalls}
use Rattle.anti_work.specs.inner.Trying.{AllRefused, StartItsOwn}
use Rattle.anti_work.specs.inner.Working.{IsForeign}

-- A worker begins with a pass of each shared object, by which it has made no call yet.
pub record MayWork (app : App) (shared : List (SharedView Object)) (start : Start) : Type 0 where
  pub of : AreOf shared start.passes.items
  pub knows : KnowsCalls app start.number start.passes.items []

-- some entry is not of the application
abbrev pub HasForeign : App → List Entry → Type 0
HasForeign app calls = (e : Entry) × Contains calls e × IsForeign app e

-- What came of the rounds of a worker: its passes know its calls, and each process that it started is its own. All that it tries was refused,
-- or it met what is not of the application.
pub record HasWorked (app : App) (shared : List (SharedView Object)) (number : ℕ) (done : Done) : Type 0 where
  pub of : AreOf shared (passes_of done)
  pub calls : List Entry
  pub knows : KnowsCalls app number (passes_of done) calls
  pub own : StartItsOwn app number calls
  pub ended : AllRefused app number (passes_of done) calls ⊎ HasForeign app calls
