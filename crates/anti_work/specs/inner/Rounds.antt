-- The rounds of a worker: what comes of many tries, one after another, and what each of them was refused.
use Rattle.std.specs.Prelude.{◌≡◌, ℕ, ◌<◌, Bool, true, List, [], ◌∷◌, ◌++◌, All, map, OnOk, Some, slice_get, Result}
use Rattle.std.specs.List.{Contains}
use Rattle.anti_kind.specs.declared.actor.Actor.TheVariants.{Carrier}
use Rattle.anti_kind.specs.declared.call.Call.TheVariants.{Pull, Ship, Take}
use Rattle.anti_kind.specs.declared.entry.Entry.{Entry}
use Rattle.anti_app.specs.declared.app.App.{App}
use Rattle.anti_app.specs.declared.app.StoreDef.{StoreDef}
use Rattle.anti_app.specs.declared.app.SubDef.{SubDef}
use Rattle.anti_app.specs.Objects.{inbox_number}
use Rattle.anti_app.specs.Subs.{position_on}
use Rattle.anti_object.specs.declared.object.Object.{Object}
use Rattle.anti_shared.specs.Passes.{SharedView}
use Rattle.anti_trace.specs.Traces.{entries_on}
use Rattle.anti_trace.specs.inner.Living.{lists}
use Rattle.anti_play.specs.Schedule.{asking_at, bearing}
use Rattle.anti_work.specs.declared.start.Start.{Start}
use Rattle.anti_work.specs.declared.worker.Route.{Route}
use Rattle.anti_work.specs.declared.worker.Stop.{Stop}
use Rattle.anti_work.specs.declared.worker.Worker.{Worker}
use Rattle.anti_work.specs.Workers.{IsNextVersion, worker_at}
use Rattle.anti_work.specs.inner.Knowing.{AreOf}
use Rattle.anti_work.specs.inner.Trying.{AllRefused}
use Rattle.anti_work.specs.inner.Tries.{IsGoRefused, IsWorkerOf}
use Rattle.anti_work.specs.inner.Working.{ComesOf, IsRefusedAt, WorkerStands}

-- ---- many tries

-- the store and the region of a route
abbrev pub ends_of : Route → ℕ × ℕ
ends_of route = (route.store, route.region)

-- A worker has become another by tries. Its passes are of the shared objects, and its number is what it was. Where it goes on its routes go
-- where they went.
pub record Comes (app : App) (shared : List (SharedView Object)) (old new : Worker) (Refused : List Entry → Type 0) (result : Result Bool Stop) : Type 0 where
  pub of : AreOf shared new.passes.items
  pub number : new.number ≡ old.number
  pub routes : OnOk result (map ends_of new.routes.items ≡ map ends_of old.routes.items)
  pub came : (calls : List Entry) → WorkerStands app old calls → ComesOf app old new calls (Refused calls) result

-- each of the first so many was refused
abbrev pub FirstRefused : (ℕ → List Entry → Type 0) → ℕ → List Entry → Type 0
FirstRefused Refused count calls = (i : ℕ) → i < count → Refused i calls

-- whatever was refused
abbrev pub Anything : List Entry → Type 0
Anything calls = Unit {0}

-- it is the same worker but for which of its processes are awake
pub record IsSameWorker (old new : Worker) : Type 0 where
  pub number : new.number ≡ old.number
  pub passes : new.passes.items ≡ old.passes.items
  pub processes : lists new.processes ≡ lists old.processes
  pub clock : new.clock ≡ old.clock
  pub routes : new.routes.items ≡ old.routes.items

-- in a plain round all was refused
abbrev pub RefusedIfPlain : Bool → App → ℕ → Worker → List Entry → Type 0
RefusedIfPlain plain app number w calls = plain ≡ true → AllRefused app number w.passes.items calls

-- ---- what was refused

-- the next call of the process at an index of those that were born at an object
abbrev pub GoRefused : App → ℕ → Worker → ℕ → List Entry → Type 0
GoRefused app object w at calls = IsGoRefused app w calls object at

-- the next call of each process that was born at an object
abbrev pub GoesRefused : App → Worker → ℕ → List Entry → Type 0
GoesRefused app w object calls = (at : ℕ) → IsGoRefused app w calls object at

-- the first delivery to a service, where this was dealt to the worker of a number
abbrev pub TakeRefused : App → ℕ → Worker → ℕ → List Entry → Type 0
TakeRefused app number w service calls =
    worker_at app service ≡ number → IsRefusedAt app w calls (bearing calls (inbox_number app service) (Take 1))

-- the pull of a subscription, where its service was
abbrev pub PullRefused : App → ℕ → Worker → ℕ → List Entry → Type 0
PullRefused app number w n calls =
    (sub : SubDef) → slice_get app.subs.items n ≡ Some sub → worker_at app sub.service ≡ number
    → IsRefusedAt app w calls (bearing calls sub.store (Pull (position_on app sub.store n)))

-- the first part of the next version of a route that goes from this store to this region
abbrev pub ShipRefused : App → ℕ → List (ℕ × ℕ) → Worker → ℕ → List Entry → Type 0
ShipRefused app number ends w at calls =
    (store region version : ℕ) → slice_get ends at ≡ Some (store, region) → IsNextVersion number region (entries_on store calls) version
    → IsRefusedAt app w calls (asking_at calls store (Carrier number) 0 (Ship region version 1))

-- a worker of a number has a route to each replica of each store that was dealt to it
abbrev pub HasRoutes : App → ℕ → List (ℕ × ℕ) → Type 0
HasRoutes app number ends =
    (o : ℕ) (s : StoreDef) (region : ℕ) → slice_get app.stores.items o ≡ Some s → worker_at app o ≡ number
    → Contains s.replicas.items region → Contains ends (o, region)

-- ---- the routes of a worker

-- nothing was shipped on it
pub record IsNewRoute (route : Route) : Type 0 where
  pub next : route.next ≡ 1
  pub ahead : route.ahead.items ≡ []

-- a route more, on which nothing was shipped
pub record HasRoute (store region : ℕ) (old new : List Route) : Type 0 where
  pub route : Route
  pub is : new ≡ old ++ route ∷ []
  pub ends : ends_of route ≡ (store, region)
  pub fresh : IsNewRoute route

-- routes from a store to the first so many of these regions were added
pub record HasAdded (store : ℕ) (regions : List ℕ) (count : ℕ) (old new : List Route) : Type 0 where
  pub kept : (ends : ℕ × ℕ) → Contains (map ends_of old) ends → Contains (map ends_of new) ends
  pub added : (i region : ℕ) → i < count → slice_get regions i ≡ Some region → Contains (map ends_of new) (store, region)
  pub fresh : All IsNewRoute old → All IsNewRoute new

-- a worker's routes from the first so many stores
pub record HasRoutesTo (app : App) (number count : ℕ) (routes : List Route) : Type 0 where
  pub has : (o : ℕ) (s : StoreDef) (region : ℕ) → o < count → slice_get app.stores.items o ≡ Some s → worker_at app o ≡ number
      → Contains s.replicas.items region → Contains (map ends_of routes) (o, region)
  pub fresh : All IsNewRoute routes

-- those from all stores
pub record AreNewRoutes (app : App) (number : ℕ) (routes : List Route) : Type 0 where
  pub has : HasRoutes app number (map ends_of routes)
  pub fresh : All IsNewRoute routes

-- ---- from the start to the end of its rounds

-- what a worker is at its start
pub record IsNewWorker (app : App) (start : Start) (w : Worker) : Type 0 where
  pub number : w.number ≡ start.number
  pub passes : w.passes.items ≡ start.passes.items
  pub routes : HasRoutes app start.number (map ends_of w.routes.items)
  pub stands : WorkerStands app w []

-- A worker of a number between two rounds.
pub record IsAtWork (app : App) (shared : List (SharedView Object)) (number : ℕ) (w : Worker) : Type 0 where
  pub of : AreOf shared w.passes.items
  pub number_is : w.number ≡ number
  pub routes : HasRoutes app number (map ends_of w.routes.items)
  pub worker : IsWorkerOf app w
