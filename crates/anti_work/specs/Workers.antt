-- What a run by workers is: which calls are whose, and that no worker left undone what it could do.
use Rattle.std.specs.Prelude.{◌≡◌, ℕ, ◌+◌, ◌%◌, ◌<◌, ◌≤◌, ◌↔◌, ◌⊎◌, false, List, [], ◌∷◌, ◌++◌, length, All, Option, None, Some, slice_get, option_map}
use Rattle.std.specs.List.{Contains}
use Rattle.anti_kind.specs.declared.actor.Actor.{Actor}
use Rattle.anti_kind.specs.declared.actor.Actor.TheVariants.{Carrier, Process, Newborn}
use Rattle.anti_kind.specs.declared.actor.Birth.{Birth}
use Rattle.anti_kind.specs.declared.asking.Asking.{Asking}
use Rattle.anti_kind.specs.declared.call.Call.{Call}
use Rattle.anti_kind.specs.declared.call.Call.TheVariants.{Pull, Ship, Take}
use Rattle.anti_kind.specs.declared.entry.Entry.{Entry}
use Rattle.anti_kind.specs.Objects.{Start, fits, ready}
use Rattle.anti_app.specs.declared.app.App.{App}
use Rattle.anti_app.specs.declared.app.StoreDef.{StoreDef}
use Rattle.anti_app.specs.declared.app.SubDef.{SubDef}
use Rattle.anti_app.specs.Objects.{inbox_number}
use Rattle.anti_app.specs.Subs.{position_on}
use Rattle.anti_object.specs.Starts.{start_of}
use Rattle.anti_proc.specs.Tasks.{role_of}
use Rattle.anti_trace.specs.Legal.{IsLegalTrace}
use Rattle.anti_trace.specs.Traces.{entries_by, entries_on}
use Rattle.anti_play.specs.Schedule.{next_call}

-- Workers are numbered from 1. The services and the stores are dealt to them in turn.
abbrev pub worker_at : App → ℕ → ℕ
worker_at app number = number % app.workers + 1

-- the service whose handler a process runs, by what it did
abbrev pub service_of : App → List Entry → Option ℕ
service_of app [] = None
service_of app (birth ∷ later) = option_map (λ role. role.service) (role_of app birth)

-- the worker of an actor: carrier n is worker n, and a process is the worker's to which its service was dealt
abbrev pub worker_of : App → List Entry → Actor → Option ℕ
worker_of app trace (Carrier n) = Some n
worker_of app trace (Process b) = option_map (worker_at app) (service_of app (entries_by (Process b) trace))
worker_of app trace Newborn = None

-- A worker left a call undone for a reason: at some moment after the last that it did on the object, the call was not ready or did not fit.
pub record IsLeft (app : App) (trace : List Entry) (w object : ℕ) (call : Call) : Type 0 where
  pub start : Start
  pub there : start_of app object ≡ Some start
  pub before : List Entry
  pub after : List Entry
  pub history : entries_on object trace ≡ before ++ after
  pub none : All (λ e. worker_of app trace e.actor ≡ Some w → ⊥) after
  pub blocked : (ready start before call ≡ false) ⊎ (fits start before call ≡ false)

-- carrier w has shipped the first part of a version to a region
abbrev pub ShipsFirst : ℕ → ℕ → List Entry → ℕ → Type 0
ShipsFirst w region history version =
    (e : Entry) × Contains history e × (e.actor ≡ Carrier w) × (e.call ≡ Ship region version 1)

-- the lowest version of which a carrier has not shipped the first part to a region
pub record IsNextVersion (w region : ℕ) (history : List Entry) (version : ℕ) : Type 0 where
  pub some : 1 ≤ version
  pub not : ShipsFirst w region history version → ⊥
  pub lower : (v : ℕ) → 1 ≤ v → v < version → ShipsFirst w region history v

-- What a worker tries: the next call of each of its processes, the first delivery of each of its inboxes, the pull of each of its
-- subscriptions, and the first part of the next version to each replica of its stores. Each of these was left for a reason.
pub record HasTried (app : App) (trace : List Entry) (w : ℕ) : Type 0 where
  pub processes : (b : Birth) (q : Asking) → worker_of app trace (Process b) ≡ Some w → next_call app trace b ≡ Some q → IsLeft app trace w q.object q.call
  pub takes : (s : ℕ) → s < length app.services.items → worker_at app s ≡ w → IsLeft app trace w (inbox_number app s) (Take 1)
  pub pulls : (n : ℕ) (sub : SubDef) → slice_get app.subs.items n ≡ Some sub → worker_at app sub.service ≡ w
      → IsLeft app trace w sub.store (Pull (position_on app sub.store n))
  pub ships : (o : ℕ) (s : StoreDef) (region version : ℕ) → slice_get app.stores.items o ≡ Some s → worker_at app o ≡ w → Contains s.replicas.items region
      → IsNextVersion w region (entries_on o trace) version → IsLeft app trace w o (Ship region version 1)

-- The workers made a legal trace: each entry is of one of them, and by a pass. Two entries of an object have the same seat just where they are of the same worker.
pub record IsWorkersRun (app : App) (trace : List Entry) : Type 0 where
  pub legal : IsLegalTrace app trace
  pub seats : All (λ e. 0 < e.seat) trace
  pub known : All (λ e. (w : ℕ) × (1 ≤ w) × (w ≤ app.workers) × (worker_of app trace e.actor ≡ Some w)) trace
  pub same : All (λ d. All (λ e. d.object ≡ e.object → (d.seat ≡ e.seat) ↔ (worker_of app trace d.actor ≡ worker_of app trace e.actor)) trace) trace
  pub tried : (w : ℕ) → 1 ≤ w → w ≤ app.workers → HasTried app trace w
