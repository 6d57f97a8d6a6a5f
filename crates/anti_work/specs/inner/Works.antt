-- What workers did: the list of the calls of each, in the order in which it made them, beside the histories of the objects.
use Rattle.std.specs.Prelude.{◌≡◌, ℕ, ◌+◌, ◌-◌, ◌<◌, ◌≤◌, max, List, [], ◌∷◌, ◌++◌, All, Some, take}
use Rattle.anti_kind.specs.declared.actor.Actor.{Actor}
use Rattle.anti_kind.specs.declared.actor.Actor.TheVariants.{Carrier}
use Rattle.anti_kind.specs.declared.entry.Entry.{Entry}
use Rattle.anti_kind.specs.Objects.{Start, IsLegal, last_stamp}
use Rattle.anti_app.specs.declared.app.App.{App}
use Rattle.anti_app.specs.Objects.{object_count}
use Rattle.anti_object.specs.Starts.{start_of}
use Rattle.anti_shared.specs.Passes.{calls_of}
use Rattle.anti_trace.specs.Legal.{IsOfActor}
use Rattle.anti_trace.specs.Traces.{entries_by, entries_on}

-- the last stamp on an object before a place of its history
abbrev pub stamp_before : List Entry → ℕ → ℕ
stamp_before history place = last_stamp (take (place - 1) history)

-- The stamp of each call is one more than the greater of two: the last stamp before it of its actor, and that on its object.
abbrev pub AreStampsOf : (ℕ → List Entry) → List Entry → Type 0
AreStampsOf histories calls =
    (before : List Entry) (e : Entry) (after : List Entry) → calls ≡ before ++ e ∷ after
    → e.stamp ≡ max (last_stamp (entries_by e.actor before)) (stamp_before (histories e.object) e.place) + 1

-- The calls of the worker of a number: each of its actors did what it may, and of the carriers only its own shipped.
pub record IsWork (app : App) (histories : ℕ → List Entry) (number : ℕ) (calls : List Entry) : Type 0 where
  pub actors : (a : Actor) → IsOfActor app a (entries_by a calls)
  pub stamps : AreStampsOf histories calls
  pub carrier : (n : ℕ) → (n ≡ number → ⊥) → entries_by (Carrier n) calls ≡ []

-- So many workers made the histories, each by a pass of its own for each object: `seat w o` is the number of the pass of worker w, counted
-- from 0, of object o.
pub record AreMadeBy (app : App) (histories : ℕ → List Entry) (seat : ℕ → ℕ → ℕ) (count : ℕ) (works : ℕ → List Entry) : Type 0 where
  pub legal : (o : ℕ) (start : Start) → start_of app o ≡ Some start → IsLegal start (histories o)
  pub own : (o : ℕ) → All (λ e. e.object ≡ o) (histories o)
  pub there : (o : ℕ) → object_count app ≤ o → histories o ≡ []
  pub work_is : (w : ℕ) → w < count → IsWork app histories (w + 1) (works w)
  pub made : (w o : ℕ) → w < count → calls_of (seat w o) (histories o) ≡ entries_on o (works w)
  pub each : (o : ℕ) → All (λ e. (w : ℕ) × ((w < count) × (e.seat ≡ seat w o))) (histories o)
  pub apart : (o v w : ℕ) → o < object_count app → v < count → w < count → seat v o ≡ seat w o → v ≡ w
