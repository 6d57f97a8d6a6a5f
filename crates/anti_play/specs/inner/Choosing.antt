-- What the code takes a choice to ask for, and what comes of a process that is to go on.
use Rattle.std.specs.Prelude.{◌≡◌, ℕ, true, List, Option, None, Some, option_and_then, slice_get, slice_index_or, Result, Bool, OnOk}
use Rattle.anti_ids.specs.declared.memory.NoMemory.{NoMemory}
use Rattle.anti_kind.specs.declared.actor.Actor.TheVariants.{Process as Acting}
use Rattle.anti_kind.specs.declared.actor.Birth.{Birth}
use Rattle.anti_kind.specs.declared.asking.Asking.{Asking}
use Rattle.anti_kind.specs.declared.entry.Entry.{Entry}
use Rattle.anti_kind.specs.Records.{Record}
use Rattle.anti_kind.specs.Shipments.{next_ship}
use Rattle.anti_object.specs.declared.object.Object.{Object}
use Rattle.anti_object.specs.Standing.{object_start}
use Rattle.anti_app.specs.declared.app.App.{App}
use Rattle.anti_app.specs.declared.app.Choice.{Choice}
use Rattle.anti_app.specs.declared.app.Choice.TheVariants.{Go}
use Rattle.anti_proc.specs.Trees.{Make, want_of}
use Rattle.anti_proc.specs.declared.process.Process.{Process}
use Rattle.anti_proc.specs.inner.Standing as standing
use Rattle.anti_trace.specs.Legal.{bears, carries}
use Rattle.anti_trace.specs.declared.processes.AtObject.{AtObject}
use Rattle.anti_trace.specs.inner.Living.{born_at, lists}
use Rattle.anti_play.specs.declared.choice_call.ChoiceCall.{ChoiceCall}
use Rattle.anti_play.specs.declared.choice_call.ChoiceCall.TheVariants.{Bears, Carries, GoesOn}
use Rattle.anti_play.specs.declared.world.World.{World}
use Rattle.anti_play.specs.Schedule.{asked, asking_at, bearing, carrying, chosen, made_at}
use Rattle.anti_play.specs.inner.Standing.{Chose, Stops, StopsBy, WorldStands}

-- by the schedule it asks for this, and not for a process to go on
pub record IsAskedAs (app : App) (choice : Choice) (asking : List Entry → Asking) : Type 0 where
  pub asks : (trace : List Entry) → asked app trace choice ≡ Some (asking trace)
  pub stops_none : (trace : List Entry) (all : List AtObject) → StopsBy app trace choice all

abbrev pub AsksFor : App → Choice → ChoiceCall → Type 0
AsksFor app choice (Bears object call) = (bears call ≡ true) × IsAskedAs app choice (λ trace. bearing trace object call)
AsksFor app choice (Carries object call) = (carries call ≡ true) × IsAskedAs app choice (λ trace. carrying trace object call)
AsksFor app choice (GoesOn birth) = choice ≡ Go birth.object birth.place

-- it is what the process at a place among those of its object asks for next, and the process is not ended
pub record IsNextOf (w : World) (b : Birth) (i : ℕ) (q : Asking) : Type 0 where
  pub process : Process
  pub there : slice_get (born_at (lists w.processes) b.object) i ≡ Some process
  pub going : standing.full_of process ≡ None
  pub asks : (app : App) → want_of (standing.process_of app process) ≡ Make q.object q.span q.call
  pub actor : q.actor ≡ Acting b
  pub clock : q.clock ≡ standing.clock_of process

-- the entry is made of what such a process asks for
pub record IsNextEntry (app : App) (w : World) (b : Birth) (i : ℕ) (e : Entry) : Type 0 where
  pub asking : Asking
  pub next : IsNextOf w b i asking
  pub made : (trace : List Entry) → WorldStands app w trace → made_at app trace (asking_at trace asking.object (Acting b) asking.span asking.call) ≡ Some e

-- it is the next shipment of the object of a number to a region
pub record IsNextShipment (objects : List (Record Object)) (o region version part : ℕ) : Type 0 where
  pub recorded : Record Object
  pub at : recorded ≡ slice_index_or objects o recorded
  pub next : next_ship (object_start recorded.machine) recorded.history region ≡ Some (version, part)

-- A process was to go on: the entry of its choice was made, or none;
abbrev pub MakesNext : App → World → Birth → Result Bool NoMemory → World → Type 0
MakesNext app w b result n =
    (trace : List Entry) → WorldStands app w trace → Chose app trace (chosen app trace (Go b.object b.place)) result n

-- and it is ended, if its call was ready and did not fit.
abbrev pub StopsUnfit : App → World → Birth → Result Bool NoMemory → World → Type 0
StopsUnfit app w b result n = (trace : List Entry) → WorldStands app w trace → OnOk result (Stops app trace b (lists n.processes))

-- a call is asked for at this object
abbrev pub AsksAt : Option Asking → ℕ → Type 0
AsksAt asks object = (q : Asking) × (asks ≡ Some q) × (q.object ≡ object)

-- what is asked for, if anything is, makes no entry
abbrev pub MakesNone : App → List Entry → Option Asking → Type 0
MakesNone app trace asks = option_and_then (made_at app trace) asks ≡ None
