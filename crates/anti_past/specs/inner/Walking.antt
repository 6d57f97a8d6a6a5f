-- What is known of an entry to which a walk along a trace has come, and what is told of those before it.
use Rattle.std.specs.Prelude.{ℕ, ◌≡◌, ◌+◌, true, false, IsTrue, List, Option, Some, None, length, slice_get, take}
use Rattle.anti_ids.specs.declared.id.WriteId.{WriteId}
use Rattle.anti_kind.specs.declared.entry.Entry.{Entry}
use Rattle.anti_app.specs.declared.app.App.{App}
use Rattle.anti_app.specs.Sound.{is_sound}
use Rattle.anti_proc.specs.Trees.{Ask}
use Rattle.anti_trace.specs.Legal.{IsLegalTrace}
use Rattle.anti_trace.specs.declared.processes.AtObject.{AtObject}
use Rattle.anti_trace.specs.inner.Living.{AreProcessesOf}
use Rattle.law_causal.specs.Words.{hands_all}
use Rattle.law_causal.specs.Carried.{IsLossless, ask_at, carried_at}
use Rattle.anti_past.specs.Losses.{LosesFirst}
use Rattle.anti_past.specs.Pasts.{ArePastsOf, IsPastOf}
use Rattle.anti_past.specs.declared.before_reads.Past.{Past}
use Rattle.anti_past.specs.declared.course.Course.{Course}
use Rattle.anti_past.specs.declared.course.Course.TheVariants.{Loss, NoLoss}
use Rattle.anti_past.specs.declared.walk.Step.{Step}
use Rattle.anti_past.specs.declared.walk.Step.TheVariants as steps
use Rattle.anti_past.specs.declared.walk.Walk.{Walk}
use Rattle.anti_past.specs.inner.Came.{IsKnown, NoneLoses}
use Rattle.anti_past.specs.inner.Found.{AreFound}
use Rattle.anti_past.specs.inner.Cursors.{IsCursorAt}

-- The entry e is at place j of a legal trace, and the processes stand for what comes before it.
pub record IsNextAt (app : App) (trace : List Entry) (j : ℕ) (processes : List AtObject) (e : Entry) : Type 0 where
  pub sound : IsTrue (is_sound app)
  pub legal : IsLegalTrace app trace
  pub there : slice_get trace j ≡ Some e
  pub are : AreProcessesOf app processes (take j trace)

-- and it is what its process asks for
pub record IsAskedNext (app : App) (trace : List Entry) (j : ℕ) (processes : List AtObject) (e : Entry) : Type 0 where
  pub next : IsNextAt app trace j processes e
  pub ask : Ask
  pub asked : ask_at app trace j e ≡ Some ask

-- what is handed at the entry e, at place j: all that its process carries, where it is to carry all that came, and else nothing
abbrev pub IsHanded : App → List Entry → ℕ → Entry → Option (List WriteId) → Type 0
IsHanded app trace j e None = hands_all e.call ≡ false
IsHanded app trace j e (Some ids) = (hands_all e.call ≡ true) × (ids ≡ carried_at app trace j e)

-- The walk has come to place k of a legal trace: how far it is in the trail, what came to the spans before, and what the looks found is
-- known, and no entry lost an id.
pub record HasCome (app : App) (trace : List Entry) (k : ℕ) (w : Walk) : Type 0 where
  pub sound : IsTrue (is_sound app)
  pub legal : IsLegalTrace app trace
  pub cursor : IsCursorAt app trace k w.cursor
  pub known : IsKnown app trace k w.came
  pub none : NoneLoses app trace k
  pub found : AreFound (take k trace) w.found

-- What a walk that has come to place k tells of the entry there: that it is the first that loses an id, or its past, and then the walk has
-- come to the next place.
abbrev pub IsStep : App → List Entry → ℕ → Walk → Step → Type 0
IsStep app trace k w (steps.Loss mark) = LosesFirst app trace mark
IsStep app trace k w (steps.Goes past) =
    HasCome app trace (k + 1) w × ((e : Entry) → slice_get trace k ≡ Some e → IsPastOf app trace k e past)

-- what is told of each entry before place k
pub record ArePastsBefore (app : App) (trace : List Entry) (k : ℕ) (pasts : List (Option Past)) : Type 0 where
  pub count : length pasts ≡ k
  pub each : (j : ℕ) (e : Entry) (past : Option Past) → slice_get trace j ≡ Some e → slice_get pasts j ≡ Some past → IsPastOf app trace j e past

-- the first entry that loses an id, or that there is none and the pasts of the reads
abbrev pub IsCourseOf : App → List Entry → Course → Type 0
IsCourseOf app trace (Loss mark) = LosesFirst app trace mark
IsCourseOf app trace (NoLoss pasts) = IsLossless app trace × ArePastsOf app trace pasts.items
