-- How the objects and the processes of a world stand for a trace.
use Rattle.std.specs.Prelude.{◌≡◌, ℕ, ◌+◌, ◌<◌, Bool, true, false, List, length, slice_index_or, Option, None, Some, IsTrue, position, Result, Ok, Err, MatchResult}
use Rattle.anti_kind.specs.declared.asking.Asking.{Asking}
use Rattle.anti_kind.specs.declared.actor.Actor.{Actor}
use Rattle.anti_kind.specs.declared.actor.Actor.TheVariants.{Carrier, Process as Acting, Newborn}
use Rattle.anti_kind.specs.declared.actor.Birth.{Birth}
use Rattle.anti_kind.specs.declared.call.Call.{Call}
use Rattle.anti_kind.specs.declared.entry.Entry.{Entry}
use Rattle.anti_kind.specs.declared.refusal.Refusal.{Refusal}
use Rattle.anti_kind.specs.declared.refusal.Refusal.TheVariants.{NotYet, Full, Spent}
use Rattle.anti_kind.specs.Objects.{Start, last_stamp, need, owed}
use Rattle.anti_kind.specs.Ports.{IsFull}
use Rattle.anti_kind.specs.Records.{Record}
use Rattle.anti_app.specs.declared.app.App.{App}
use Rattle.anti_app.specs.declared.app.Choice.{Choice}
use Rattle.anti_app.specs.declared.app.Choice.TheVariants.{Go}
use Rattle.anti_app.specs.Sound.{is_sound}
use Rattle.anti_trace.specs.Traces.{entries_on, entries_by, put}
use Rattle.anti_proc.specs.declared.process.Process.{Process}
use Rattle.anti_proc.specs.Meaning.{process_after}
use Rattle.anti_proc.specs.Trees.{Make, want_of}
use Rattle.anti_proc.specs.inner.Standing as standing
use Rattle.anti_ids.specs.declared.memory.NoMemory.{NoMemory}
use Rattle.anti_object.specs.Starts.{start_of}
use Rattle.anti_object.specs.declared.object.Object.{Object}
use Rattle.anti_object.specs.Standing.{object_start}
use Rattle.anti_trace.specs.declared.processes.AtObject.{AtObject}
use Rattle.anti_trace.specs.inner.Living.{AreProcessesOf, Grows, born_at, is_named, lists}
use Rattle.anti_trace.specs.inner.Trails.{IsTrailIfKept}
use Rattle.anti_play.specs.declared.world.World.{World}
use Rattle.anti_play.specs.declared.world.DueEntry.{DueEntry}
use Rattle.anti_play.specs.Schedule.{asking_at, made_at, next_call}
use Rattle.anti_app.specs.Objects.{object_count}
use Rattle.anti_trace.specs.Legal.{IsLegalTrace, bears, carries}

-- ---- what is asked

-- A carrier may ask to ship and to deliver again, in no span; a process for its next call; and one that is yet to be born for a call by which
-- it is born, in its first span.
abbrev pub MayAsk : App → List Entry → Actor → ℕ → ℕ → Call → Type 0
MayAsk app trace (Carrier number) object span call = (carries call ≡ true) × (span ≡ 0)
MayAsk app trace (Acting b) object span call = want_of (process_after app (entries_by (Acting b) trace)) ≡ Make object span call
MayAsk app trace Newborn object span call = (bears call ≡ true) × (span ≡ 1)

abbrev pub IsAsked : App → List Entry → Asking → Type 0
IsAsked app trace q = MayAsk app trace q.actor q.object q.span q.call

-- what is asked, with the clock that its actor has in the trace
abbrev pub asked_in : List Entry → Asking → Asking
asked_in trace q = asking_at trace q.object q.actor q.span q.call

-- at its object, with the history that this has in the trace, the call is ready and does not fit
pub record IsFullAt (app : App) (trace : List Entry) (q : Asking) : Type 0 where
  pub start : Start
  pub there : start_of app q.object ≡ Some start
  pub held_units : ℕ
  pub owed_units : ℕ
  pub need_units : ℕ
  pub full : IsFull start (entries_on q.object trace) q.call held_units owed_units need_units

-- what comes of it: the entry that the schedule states, or none, since the call is not ready or does not fit
abbrev pub IsOutcome : App → List Entry → Asking → Result Entry Refusal → Type 0
IsOutcome app trace q (Ok e) = made_at app trace q ≡ Some e
IsOutcome app trace q (Err NotYet) = (made_at app trace q ≡ None) × (IsFullAt app trace q → ⊥)
IsOutcome app trace q (Err (Full a b n)) = (made_at app trace q ≡ None) × IsFullAt app trace q
IsOutcome app trace q (Err (Spent clock)) = ⊥

-- the entry that is due
abbrev pub outcome_entry : Result DueEntry Refusal → Result Entry Refusal
outcome_entry (Ok due) = Ok due.entry
outcome_entry (Err refusal) = Err refusal

-- the room that the history of its object wants, where the call of the entry is made
abbrev pub WantsRoom : List (Record Object) → DueEntry → Type 0
WantsRoom objects due = (r : Record Object) → r ≡ slice_index_or objects due.entry.object r
    → due.room ≡ owed (object_start r.machine) r.history + need (object_start r.machine) r.history due.entry.call

-- ---- worlds

-- the object of a number, at its start or after some calls, with its history in the trace
pub record IsObject (app : App) (o : ℕ) (r : Record Object) (h : List Entry) : Type 0 where
  pub start : start_of app o ≡ Some (object_start r.machine)
  pub history : r.history ≡ h

pub record AllStand (app : App) (objects : List (Record Object)) (trace : List Entry) : Type 0 where
  pub count : length objects ≡ object_count app
  pub each : (o : ℕ) (d : Record Object) → o < length objects → IsObject app o (slice_index_or objects o d) (entries_on o trace)

-- the world stands for the trace
pub record WorldStands (app : App) (w : World) (trace : List Entry) : Type 0 where
  pub run : IsLegalTrace app trace
  pub objects : AllStand app w.objects.items trace
  pub processes : AreProcessesOf app (lists w.processes) trace
  pub trail : IsTrailIfKept app trace w.trail
  pub carrier : w.carrier ≡ last_stamp (entries_by (Carrier 0) trace)

-- its objects are those of the application after the trace
abbrev pub WorldIsAfter : World → App → List Entry → Type 0
WorldIsAfter w app trace = AllStand app w.objects.items trace

-- for some trace
pub record IsWorldOf (app : App) (w : World) : Type 0 where
  pub trace : List Entry
  pub stands : WorldStands app w trace

-- for some trace of some sound application
pub record IsSoundWorld (w : World) : Type 0 where
  pub app : App
  pub trace : List Entry
  pub sound : IsTrue (is_sound app)
  pub stands : WorldStands app w trace

-- the process is ended, since its next call did not fit
abbrev pub IsStopped : List Process → Option ℕ → Type 0
IsStopped ps None = ⊥
IsStopped ps (Some i) = (d : Process) → (at : ℕ) × (standing.full_of (slice_index_or ps i d) ≡ Some at)

-- A process whose next call is ready and does not fit is ended.
abbrev pub Stops : App → List Entry → Birth → List AtObject → Type 0
Stops app trace b all =
    (q : Asking) → next_call app trace b ≡ Some q → IsFullAt app trace q
    → IsStopped (born_at all b.object) (position (is_named b) (born_at all b.object))

-- the process that a choice names, where it names one
abbrev pub StopsBy : App → List Entry → Choice → List AtObject → Type 0
StopsBy app trace (Go object place) all = Stops app trace (record { object = object; place = place }) all
StopsBy app trace _ all = Unit {0}

-- What a choice made of the world: the entry that the schedule states, or none. Want of memory leaves what there was.
abbrev pub Chose : App → List Entry → Option Entry → Result Bool NoMemory → World → Type 0
Chose app trace None result w = MatchResult result (λ made. (made ≡ false) × WorldStands app w trace) (λ _. WorldStands app w trace)
Chose app trace (Some e) result w = MatchResult result (λ made. (made ≡ true) × WorldStands app w (put e trace)) (λ _. WorldStands app w trace)

-- the objects stand for a trace that grows by the entry
pub record MayGrow (objects : List (Record Object)) (e : Entry) : Type 0 where
  pub app : App
  pub before : List Entry
  pub after : List Entry
  pub stand : AllStand app objects before
  pub grows : Grows app before after e
  pub known : e.object < length objects
