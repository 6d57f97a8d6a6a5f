-- The passes of all workers when they have returned: each is joined into the first pass of its object, and the objects are closed.
use Rattle.std.specs.Prelude.{◌≡◌, ℕ, ◌+◌, ◌<◌, ◌≤◌, List, [], length, map, All, slice_index_or}
use Rattle.anti_turn.specs.Lists.{IsFront, times}
use Rattle.anti_kind.specs.declared.entry.Entry.{Entry}
use Rattle.anti_app.specs.declared.app.App.{App}
use Rattle.anti_app.specs.Objects.{object_count}
use Rattle.anti_object.specs.Starts.{start_of}
use Rattle.anti_object.specs.Standing.{object_start}
use Rattle.anti_object.specs.declared.object.Object.{Object}
use Rattle.anti_shared.specs.Passes.{IsPass, PassView, numbers_of}
use Rattle.anti_shared.specs.Passes as passes
use Rattle.anti_work.specs.inner.Knowing.{KnowsCalls, mine_at, number_at, seen_at}

-- the number and the calls of a worker's pass of an object
abbrev pub pair_at : ℕ → List (PassView Object) → ℕ × List Entry
pair_at o all = (number_at all o, mine_at all o)

-- Into the pass of an object those of all these workers were joined, in this order. It made no call itself.
pub record HasJoined (o : ℕ) (all : List (List (PassView Object))) (pass : PassView Object) : Type 0 where
  pub none : pass.mine ≡ []
  pub ended : pass.ended ≡ map (pair_at o) all
  pub fronts : All (λ ps. IsFront (seen_at ps o) pass.seen) all

-- The object was closed by such a pass, with this history.
pub record IsEndOf (app : App) (all : List (List (PassView Object))) (o : ℕ) (history : List Entry) : Type 0 where
  pub pass : PassView Object
  pub joined : HasJoined o all pass
  pub history_is : history ≡ pass.seen
  pub own : All (λ e. 0 < times e.seat (numbers_of pass)) history
  pub knows : IsPass object_start pass
  pub start : passes.start_of object_start pass.id ≡ start_of app o
  pub objects : All (λ e. e.object ≡ o) history

-- All objects were closed, with these histories, and each worker knows its calls.
pub record HaveEnded (app : App) (all : List (List (PassView Object))) (histories : ℕ → List Entry) (works : ℕ → List Entry) : Type 0 where
  pub ends : (o : ℕ) → o < object_count app → IsEndOf app all o (histories o)
  pub none : (o : ℕ) → object_count app ≤ o → histories o ≡ []
  pub knows : (w : ℕ) → w < length all → KnowsCalls app (w + 1) (slice_index_or all w []) (works w)
