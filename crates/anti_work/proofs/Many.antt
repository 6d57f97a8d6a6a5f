-- What comes of many tries, one after another.
use Rattle.std.proofs.Common.{◌≡◌, ℕ, ◌+◌, ◌||◌, ◌++◌, Bool, true, false, List, refl, sym, ◌∙◌, subst, inl, inr, arith}
use Rattle.std.specs.Prelude.{Result, Ok, Err}
use Rattle.anti_kind.specs.declared.entry.Entry.{Entry}
use Rattle.anti_app.specs.declared.app.App.{App}
use Rattle.anti_object.specs.declared.object.Object.{Object}
use Rattle.anti_shared.specs.Passes.{SharedView}
use Rattle.anti_trace.proofs.Living.{decide}
use Rattle.anti_work.specs.declared.worker.Stop.{Stop}
use Rattle.anti_work.specs.declared.worker.Stop.TheVariants as stops
use Rattle.anti_work.specs.declared.worker.Worker.{Worker}
use Rattle.anti_work.specs.inner.Knowing.{AreOf}
use Rattle.anti_work.specs.inner.Rounds.{Comes, FirstRefused}
use Rattle.anti_work.specs.inner.Tries.{IsWorkerOf}
use Rattle.anti_work.specs.inner.Working.{ComesOf, Stays, WorkerStands}
use Rattle.anti_work.proofs.Composed.{comes_then, stays_itself, stops_then}

module _ (app : App) (shared : List (SharedView Object)) where
  -- nothing was asked: what is refused then is so by itself
  pub comes_itself : (w : Worker) (Refused : List Entry → Type 0) → AreOf shared w.passes.items → ((calls : List Entry) → WorkerStands app w calls → Refused calls)
      → Comes app shared w w Refused (Ok false)
  comes_itself w Refused of refused = record {
    of = of;
    number = refl;
    routes = refl;
    came = λ calls stands. (stays_itself app w calls stands, refused calls stands);
  }

  -- of no tries
  pub comes_first : (w : Worker) (Refused : ℕ → List Entry → Type 0) → AreOf shared w.passes.items → Comes app shared w w (FirstRefused Refused 0) (Ok false)
  comes_first w Refused of = comes_itself w (FirstRefused Refused 0) of (λ calls stands i low. absurd (omega arith))

  -- what was refused so is refused otherwise
  came_as : (old new : Worker) (calls : List Entry) (First Refused : Type 0) (result : Result Bool Stop) → ComesOf app old new calls First result
      → (Stays app old new calls → First → Refused) → ComesOf app old new calls Refused result
  came_as old new calls First Refused (Ok true) came as_well = came
  came_as old new calls First Refused (Ok false) came as_well = (came.0, as_well came.0 came.1)
  came_as old new calls First Refused (Err stops.Foreign) came as_well = came
  came_as old new calls First Refused (Err stops.NoMemory) came as_well = tt

  pub comes_as : (old new : Worker) (First Refused : List Entry → Type 0) (result : Result Bool Stop) → Comes app shared old new First result
      → ((calls : List Entry) → WorkerStands app old calls → Stays app old new calls → First calls → Refused calls) → Comes app shared old new Refused result
  comes_as old new First Refused result comes as_well = record {
    of = comes.of;
    number = comes.number;
    routes = comes.routes;
    came = λ calls stands. came_as old new calls (First calls) (Refused calls) result (comes.came calls stands) (as_well calls stands);
  }

  -- it is a worker still
  still : (old new : Worker) (calls : List Entry) (Refused : Type 0) (made : Bool) → ComesOf app old new calls Refused (Ok made) → IsWorkerOf app new
  still old new calls Refused true came = (calls ++ came.0, came.1)
  still old new calls Refused false came = (calls, came.0.stands)

  pub still_worker : (old new : Worker) (Refused : List Entry → Type 0) (made : Bool) → Comes app shared old new Refused (Ok made) → IsWorkerOf app old → IsWorkerOf app new
  still_worker old new Refused made comes worker = still old new worker.0 (Refused worker.0) made (comes.came worker.0 worker.1)

  module _ (a b c : Worker) where
    -- one more try, or more of them
    pub comes_both : (First Second Refused : List Entry → Type 0) (first second : Bool) → Comes app shared a b First (Ok first) → Comes app shared b c Second (Ok second)
        → ((calls : List Entry) → Stays app a b calls → Stays app b c calls → First calls → Second calls → Refused calls)
        → Comes app shared a c Refused (Ok (first || second))
    comes_both First Second Refused first second one two adds = record {
      of = two.of;
      number = two.number ∙ one.number;
      routes = two.routes ∙ one.routes;
      came = λ calls stands.
          comes_then app a b c calls (First calls) (Refused calls) Second first second (one.came calls stands) two.came (adds calls);
    }

    pub comes_more : (Refused : Worker → ℕ → List Entry → Type 0) (count : ℕ) (first second made : Bool) → made ≡ (first || second)
        → ((i : ℕ) (calls : List Entry) → Stays app b c calls → Refused b i calls → Refused c i calls)
        → Comes app shared a b (FirstRefused (Refused b) count) (Ok first) → Comes app shared b c (Refused c count) (Ok second)
        → Comes app shared a c (FirstRefused (Refused c) (count + 1)) (Ok made)
    comes_more Refused count first second made is lasts one two =
        subst (λ (b : Bool). Comes app shared a c (FirstRefused (Refused c) (count + 1)) (Ok b)) (sym is)
        (comes_both (FirstRefused (Refused b) count) (Refused c count) (FirstRefused (Refused c) (count + 1)) first second one two
        (λ calls stays stays_then was now i low.
        elim (decide count i) as (λ _. Refused c i calls) [
          | inl same ↦ subst (λ (k : ℕ). Refused c k calls) same now
          | inr other ↦ lasts i calls stays_then (was i (omega arith))
        ]))

    -- the second stopped
    pub comes_stops : (First Second Refused : List Entry → Type 0) (first : Bool) (stop : Stop) → Comes app shared a b First (Ok first)
        → Comes app shared b c Second (Err stop) → Comes app shared a c Refused (Err stop)
    comes_stops First Second Refused first stop one two = record {
      of = two.of;
      number = two.number ∙ one.number;
      routes = tt;
      came = λ calls stands. stops_then app a b c calls (First calls) (Refused calls) Second first stop (one.came calls stands) two.came;
    }
