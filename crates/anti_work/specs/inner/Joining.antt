-- How the passes that workers gave back are joined into the first passes of the objects.
use Rattle.std.specs.Prelude.{◌≡◌, ℕ, ◌≤◌, List, [], ◌++◌, length, map, reverse, All, Some, slice_get, slice_set, ◌<◌}
use Rattle.anti_object.specs.declared.object.Object.{Object}
use Rattle.anti_shared.specs.Passes.{IsJoined, PassView, SharedView}
use Rattle.anti_work.specs.declared.done.Done.{Done}
use Rattle.anti_work.specs.inner.Gathering.{HasJoined}
use Rattle.anti_work.specs.inner.Knowing.{AreOf}

abbrev pub passes_of : Done → List (PassView Object)
passes_of done = done.passes.items

-- a pass of the shared object at a place
abbrev pub IsOfPlace : List (SharedView Object) → ℕ → PassView Object → Type 0
IsOfPlace shared o pass = (s : SharedView Object) → slice_get shared o ≡ Some s → pass.id ≡ s.id

-- What a worker gave back: a pass of each object, into which none was joined.
pub record IsDoneOf (shared : List (SharedView Object)) (done : Done) : Type 0 where
  pub of : AreOf shared (passes_of done)
  pub single : (o : ℕ) (pass : PassView Object) → slice_get (passes_of done) o ≡ Some pass → pass.ended ≡ []

-- The pass at a place has taken another in.
pub record IsTaken (o : ℕ) (from : PassView Object) (old new : List (PassView Object)) : Type 0 where
  pub into : PassView Object
  pub after : PassView Object
  pub was : slice_get old o ≡ Some into
  pub joined : IsJoined into from after
  pub is : new ≡ slice_set old o after

-- At each place from one on the pass has taken in the one of another list.
abbrev pub HaveTakenFrom : ℕ → List (PassView Object) → List (PassView Object) → List (PassView Object) → Type 0
HaveTakenFrom least old from new =
    (o : ℕ) (into pass after : PassView Object) → least ≤ o → slice_get old o ≡ Some into → slice_get from o ≡ Some pass → slice_get new o ≡ Some after → IsJoined into pass after

abbrev pub HaveTaken : List (PassView Object) → List (PassView Object) → List (PassView Object) → Type 0
HaveTaken old from new = HaveTakenFrom 0 old from new

-- Of the passes to be joined these are left, and the others were.
pub record AreTaking (shared : List (SharedView Object)) (old from left new : List (PassView Object)) : Type 0 where
  pub rest : List (PassView Object)
  pub whole : from ≡ left ++ rest
  pub of : AreOf shared new
  pub before : (o : ℕ) (pass : PassView Object) → o < length left → slice_get new o ≡ Some pass → slice_get old o ≡ Some pass
  pub taken : HaveTakenFrom (length left) old from new

-- Into each of these passes those of all these workers were joined.
abbrev pub HaveJoined : List (List (PassView Object)) → List (PassView Object) → Type 0
HaveJoined all firsts = (o : ℕ) (pass : PassView Object) → slice_get firsts o ≡ Some pass → HasJoined o all pass

-- What some workers gave back was joined. What the others did is left, the last worker's first.
pub record AreJoining (shared : List (SharedView Object)) (all left : List Done) (firsts : List (PassView Object)) : Type 0 where
  pub joined : List (List (PassView Object))
  pub whole : joined ++ map passes_of (reverse left) ≡ map passes_of all
  pub of : AreOf shared firsts
  pub have : HaveJoined joined firsts
  pub done : All (IsDoneOf shared) left
