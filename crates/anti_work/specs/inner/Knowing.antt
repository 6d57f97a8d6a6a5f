-- What a worker knows by its passes, of which it has one for each object.
use Rattle.std.specs.Prelude.{◌≡◌, ℕ, ◌-◌, ◌^◌, ◌≤◌, ◌⊎◌, max, false, List, [], ◌++◌, length, All, Option, None, Some, slice_get, slice_set}
use Rattle.anti_kind.specs.declared.asking.Asking.{Asking}
use Rattle.anti_kind.specs.declared.entry.Entry.{Entry}
use Rattle.anti_kind.specs.declared.port.Answer.{Answer}
use Rattle.anti_kind.specs.Objects.{Start, fits, last_stamp, ready}
use Rattle.anti_kind.specs.Ports.{Answered}
use Rattle.anti_app.specs.declared.app.App.{App}
use Rattle.anti_app.specs.Objects.{object_count}
use Rattle.anti_object.specs.Starts.{start_of}
use Rattle.anti_object.specs.Standing.{object_start}
use Rattle.anti_object.specs.declared.object.Object.{Object}
use Rattle.anti_shared.specs.Passes.{IsPass, PassView, SharedView, calls_of, view_of}
use Rattle.anti_shared.specs.Passes as passes
use Rattle.anti_trace.specs.Traces.{entries_on}
use Rattle.anti_turn.specs.Lists.{IsFront}
use Rattle.anti_work.specs.inner.Works.{IsWork}

-- ---- the pass of an object: what it has seen, its calls, its number

abbrev pub seen_by : Option (PassView Object) → List Entry
seen_by None = []
seen_by (Some pass) = pass.seen

abbrev pub mine_of : Option (PassView Object) → List Entry
mine_of None = []
mine_of (Some pass) = pass.mine

abbrev pub number_of : Option (PassView Object) → ℕ
number_of None = 0
number_of (Some pass) = pass.number

abbrev pub seen_at : List (PassView Object) → ℕ → List Entry
seen_at all o = seen_by (slice_get all o)

abbrev pub mine_at : List (PassView Object) → ℕ → List Entry
mine_at all o = mine_of (slice_get all o)

abbrev pub number_at : List (PassView Object) → ℕ → ℕ
number_at all o = number_of (slice_get all o)

-- a pass of an object of the application, into which none was joined
pub record IsPassAt (app : App) (o : ℕ) (pass : PassView Object) : Type 0 where
  pub object : pass.id.object ≡ o
  pub start : passes.start_of object_start pass.id ≡ start_of app o
  pub single : pass.ended ≡ []
  pub knows : IsPass object_start pass

-- one for each object
pub record ArePasses (app : App) (all : List (PassView Object)) : Type 0 where
  pub count : length all ≡ object_count app
  pub each : (o : ℕ) (pass : PassView Object) → slice_get all o ≡ Some pass → IsPassAt app o pass

-- They are of these shared objects, each of the one that stands at its place.
pub record AreOf (shared : List (SharedView Object)) (all : List (PassView Object)) : Type 0 where
  pub count : length all ≡ length shared
  pub each : (o : ℕ) (s : SharedView Object) (pass : PassView Object) → slice_get shared o ≡ Some s → slice_get all o ≡ Some pass → pass.id ≡ s.id
  pub numbered : (o : ℕ) (pass : PassView Object) → slice_get all o ≡ Some pass → pass.id.object ≡ o

-- The pass of an object was used. It is still that pass, with all that it had seen.
pub record IsUsedAt (old new : List (PassView Object)) (object : ℕ) : Type 0 where
  pub pass : PassView Object
  pub after : PassView Object
  pub was : slice_get old object ≡ Some pass
  pub is : new ≡ slice_set old object after
  pub id_is : after.id ≡ pass.id
  pub number_is : after.number ≡ pass.number
  pub ended_is : after.ended ≡ pass.ended
  pub front : IsFront pass.seen after.seen
  pub knows : IsPass object_start after

-- One call was asked, by the pass of its object, and answered.
pub record IsAskedBy (old new : List (PassView Object)) (q : Asking) (answer : Answer) : Type 0 where
  pub used : IsUsedAt old new q.object
  pub answered : Answered (passes.start_of object_start used.pass.id) q (view_of used.pass) (view_of used.after) answer

-- The pass of an object was told of a region. It notes that, and all else is as it was.
pub record IsToldBy (old new : List (PassView Object)) (object : ℕ) : Type 0 where
  pub used : IsUsedAt old new object
  pub after_is : used.after ≡ record used.pass { loaded = used.after.loaded; loads = used.after.loads }

-- ---- what all of them know

-- The passes know all calls of the worker of a number, and of each its place.
pub record KnowsCalls (app : App) (number : ℕ) (all : List (PassView Object)) (calls : List Entry) : Type 0 where
  pub are : ArePasses app all
  pub mine : (o : ℕ) → mine_at all o ≡ entries_on o calls
  pub placed : All (λ e. e.place ≤ length (seen_at all e.object)) calls
  pub work : IsWork app (seen_at all) number calls

-- What is asked was refused, at a front of what the pass of its object has seen, which has all calls that the worker made there: it was not
-- ready, did not fit, or there was no stamp left.
pub record WasRefused (app : App) (all : List (PassView Object)) (calls : List Entry) (q : Asking) : Type 0 where
  pub start : Start
  pub there : start_of app q.object ≡ Some start
  pub seen : List Entry
  pub later : List Entry
  pub front : seen_at all q.object ≡ seen ++ later
  pub own : calls_of (number_at all q.object) seen ≡ entries_on q.object calls
  pub cause : (ready start seen q.call ≡ false) ⊎ ((fits start seen q.call ≡ false) ⊎ (max q.clock (last_stamp seen) ≡ 2 ^ 64 - 1))
