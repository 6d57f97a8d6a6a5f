-- A worker: how it stands for its calls, and what a try makes of it.
use Rattle.std.specs.Prelude.{◌≡◌, ℕ, ◌<◌, ◌↔◌, ◌⊎◌, Bool, true, false, List, [], ◌∷◌, ◌++◌, All, None, Some, IfSome, Result, Ok, Err}
use Rattle.std.specs.List.{Contains}
use Rattle.anti_kind.specs.declared.actor.Actor.TheVariants.{Carrier}
use Rattle.anti_kind.specs.declared.asking.Asking.{Asking}
use Rattle.anti_kind.specs.declared.entry.Entry.{Entry}
use Rattle.anti_kind.specs.Objects.{Start, last_stamp}
use Rattle.anti_app.specs.declared.app.App.{App}
use Rattle.anti_object.specs.Starts.{start_of}
use Rattle.anti_proc.specs.Foreign.{is_foreign}
use Rattle.anti_proc.specs.Tasks.{role_of, task_of}
use Rattle.anti_proc.specs.inner.Standing.{full_of}
use Rattle.anti_trace.specs.Legal.{bears}
use Rattle.anti_trace.specs.Traces.{entries_by, entries_on}
use Rattle.anti_trace.specs.inner.Living.{AreProcessesOf, born_at, lists}
use Rattle.anti_work.specs.declared.worker.Route.{Route}
use Rattle.anti_work.specs.declared.worker.Stop.{Stop}
use Rattle.anti_work.specs.declared.worker.Stop.TheVariants as stops
use Rattle.anti_work.specs.declared.worker.Worker.{Worker}
use Rattle.anti_work.specs.Workers.{IsNextVersion, ShipsFirst, worker_at}
use Rattle.anti_work.specs.inner.Knowing.{KnowsCalls, WasRefused}

-- ---- how it stands for its calls

-- Of the versions of a route, `next` is the lowest whose first part the worker has not shipped. Of those above it has shipped just the ones
-- ahead.
pub record RouteStands (number : ℕ) (calls : List Entry) (route : Route) : Type 0 where
  pub is_next : IsNextVersion number route.region (entries_on route.store calls) route.next
  pub others : (v : ℕ) → route.next < v → ShipsFirst number route.region (entries_on route.store calls) v ↔ Contains route.ahead.items v

-- Its passes know its calls, and its processes stand for them: none of these was ended, since a worker asks again for what did not fit. Its
-- clock is that of its carrier, each process runs a handler of one of its services, and each route tells what it has shipped.
pub record WorkerStands (app : App) (w : Worker) (calls : List Entry) : Type 0 where
  pub knows : KnowsCalls app w.number w.passes.items calls
  pub processes : AreProcessesOf app (lists w.processes) calls
  pub go : (o : ℕ) → All (λ p. full_of p ≡ None) (born_at (lists w.processes) o)
  pub clock : w.clock ≡ last_stamp (entries_by (Carrier w.number) calls)
  pub ours : All (λ e. bears e.call ≡ true → IfSome (role_of app e) (λ role. worker_at app role.service ≡ w.number)) calls
  pub routes : All (RouteStands w.number calls) w.routes.items

-- What is asked was refused: all that is asked of an object that is not there is.
abbrev pub IsRefusedAt : App → Worker → List Entry → Asking → Type 0
IsRefusedAt app w calls q = (start : Start) → start_of app q.object ≡ Some start → WasRefused app w.passes.items calls q

-- ---- what a try makes of it

-- the entry's call starts no process where one should be born, or its reply is not of the application
abbrev pub IsForeign : App → Entry → Type 0
IsForeign app e = ((bears e.call ≡ true) × (task_of app e ≡ None)) ⊎ (is_foreign app e.reply ≡ true)

-- It met something foreign with its last call.
pub record StoppedAt (app : App) (w : Worker) (calls : List Entry) : Type 0 where
  pub entry : Entry
  pub knows : KnowsCalls app w.number w.passes.items (calls ++ entry ∷ [])
  pub ours : All (λ e. bears e.call ≡ true → IfSome (role_of app e) (λ role. worker_at app role.service ≡ w.number)) (calls ++ entry ∷ [])
  pub foreign : IsForeign app entry

-- No call was made: it stands for the same calls, has the same processes, and what was refused was refused.
pub record Stays (app : App) (old new : Worker) (calls : List Entry) : Type 0 where
  pub stands : WorkerStands app new calls
  pub processes : lists new.processes ≡ lists old.processes
  pub refused : (q : Asking) → WasRefused app old.passes.items calls q → WasRefused app new.passes.items calls q

-- What comes of one try or of many: whether calls were made, with what was refused if none was; or why the worker stops.
abbrev pub ComesOf : App → Worker → Worker → List Entry → Type 0 → Result Bool Stop → Type 0
ComesOf app old new calls Refused (Ok true) = (more : List Entry) × WorkerStands app new (calls ++ more)
ComesOf app old new calls Refused (Ok false) = Stays app old new calls × Refused
ComesOf app old new calls Refused (Err stops.Foreign) = (more : List Entry) × StoppedAt app new (calls ++ more)
ComesOf app old new calls Refused (Err stops.NoMemory) = Unit {0}
