-- The objects of an application are shared, each with its first pass, and further passes are split off, one of each object for each worker.
use Rattle.std.specs.Prelude.{◌≡◌, ℕ, suc, ◌+◌, ◌-◌, ◌^◌, ◌≤◌, List, [], ◌∷◌, length, reverse, Some, Result, Ok, slice_get, slice_set}
use Rattle.anti_ids.specs.declared.memory.NoMemory.{NoMemory}
use Rattle.anti_app.specs.declared.app.App.{App}
use Rattle.anti_app.specs.Objects.{object_count}
use Rattle.anti_object.specs.declared.object.Object.{Object}
use Rattle.anti_object.specs.Standing.{object_start}
use Rattle.anti_object.specs.Starts.{start_of}
use Rattle.anti_shared.specs.Passes.{IsSplit, PassView, SharedView, first_pass}
use Rattle.anti_shared.specs.Passes as passes
use Rattle.anti_trace.specs.inner.After.{AreFirst}
use Rattle.anti_work.specs.declared.done.Done.{Done}
use Rattle.anti_work.specs.declared.start.Start.{Start}
use Rattle.anti_work.specs.inner.Knowing.{AreOf}
use Rattle.anti_work.specs.inner.Starting.{HasWorked, MayWork}

-- ---- the objects are shared

-- An object was shared under a number, and this is its first pass.
pub record IsSharedOf (number : ℕ) (object : Object) (made : SharedView Object × PassView Object) : Type 0 where
  pub object_is : made.0.id.object ≡ number
  pub first_is : made.0.id.first ≡ Some object
  pub pass_is : made.1 ≡ first_pass made.0.id

-- The object of a number of the application was shared, and this is its first pass.
pub record IsSharedAt (app : App) (number : ℕ) (one : SharedView Object) (first : PassView Object) : Type 0 where
  pub object_is : one.id.object ≡ number
  pub start_is : passes.start_of object_start one.id ≡ start_of app number
  pub pass_is : first ≡ first_pass one.id

-- those from a number on were, in the order of their numbers
abbrev pub AreSharedFrom : App → ℕ → List (SharedView Object) → List (PassView Object) → Type 0
AreSharedFrom app number [] [] = Unit {0}
AreSharedFrom app number [] (first ∷ firsts) = ⊥
AreSharedFrom app number (one ∷ shared) [] = ⊥
AreSharedFrom app number (one ∷ shared) (first ∷ firsts) = IsSharedAt app number one first × AreSharedFrom app (suc number) shared firsts

-- Of the objects of the application these are left. Those behind them were shared, the last one first.
pub record AreSharing (app : App) (left : List Object) (shared : List (SharedView Object)) (firsts : List (PassView Object)) : Type 0 where
  pub many : length left + length shared ≡ object_count app
  pub first : AreFirst app (length left) left
  pub behind : AreSharedFrom app (length left) (reverse shared) (reverse firsts)

-- ---- further passes are split off

-- a first pass that has seen nothing yet, and has room for so many further ones
pub record MaySplit (more : ℕ) (pass : PassView Object) : Type 0 where
  pub room : 2 ^ more ≤ pass.room
  pub seen : pass.seen ≡ []
  pub mine : pass.mine ≡ []
  pub ended : pass.ended ≡ []

abbrev pub AllMaySplit : ℕ → List (PassView Object) → Type 0
AllMaySplit more firsts = (o : ℕ) (pass : PassView Object) → slice_get firsts o ≡ Some pass → MaySplit more pass

-- A pass was split off the one at a place.
pub record IsSplitAt (o : ℕ) (old rest : List (PassView Object)) (new : PassView Object) : Type 0 where
  pub pass : PassView Object
  pub after : PassView Object
  pub was : slice_get old o ≡ Some pass
  pub split : IsSplit pass after new
  pub is : rest ≡ slice_set old o after

-- So many passes were split off, each off the one at its place. The others are as they were.
pub record AreSplit (shared : List (SharedView Object)) (old rest new : List (PassView Object)) : Type 0 where
  pub few : length new ≤ length shared
  pub of : AreOf shared rest
  pub split : (o : ℕ) (pass after more : PassView Object) → slice_get old o ≡ Some pass → slice_get rest o ≡ Some after → slice_get new o ≡ Some more → IsSplit pass after more
  pub others : (o : ℕ) (pass : PassView Object) → length new ≤ o → slice_get rest o ≡ Some pass → slice_get old o ≡ Some pass

-- ---- workers begin, and give back

-- They are numbered from 1.
pub record IsStartOf (app : App) (shared : List (SharedView Object)) (w : ℕ) (start : Start) : Type 0 where
  pub number_is : start.number ≡ w + 1
  pub may : MayWork app shared start

abbrev pub AreStartsOf : App → List (SharedView Object) → List Start → Type 0
AreStartsOf app shared all = (w : ℕ) (start : Start) → slice_get all w ≡ Some start → IsStartOf app shared w start

-- What these begin with was made, and the first passes have room for those of the workers that are left.
pub record AreStarting (app : App) (shared : List (SharedView Object)) (all : List Start) (firsts : List (PassView Object)) : Type 0 where
  pub few : length all ≤ app.workers
  pub of : AreOf shared firsts
  pub room : AllMaySplit (app.workers - length all) firsts
  pub starts : AreStartsOf app shared all

-- Each worker has worked, under the number of its place.
abbrev pub HaveWorked : App → List (SharedView Object) → List Done → Type 0
HaveWorked app shared all = (w : ℕ) (done : Done) → slice_get all w ≡ Some done → HasWorked app shared (w + 1) done

-- what a worker answers that had memory
abbrev pub given : Done → Result Done NoMemory
given done = Ok done
