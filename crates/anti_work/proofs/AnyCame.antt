-- What comes of rounds of which nothing is promised but that the worker is one still.
use Rattle.std.proofs.Common.{◌≡◌, ℕ, ◌||◌, Bool, true, false, List, map, refl, sym, ap, ◌∙◌, subst}
use Rattle.std.specs.Prelude.{All, IfSome, None, Result, Ok, Err}
use Rattle.anti_kind.specs.declared.actor.Actor.TheVariants.{Carrier}
use Rattle.anti_kind.specs.declared.entry.Entry.{Entry}
use Rattle.anti_kind.specs.Objects.{last_stamp}
use Rattle.anti_app.specs.declared.app.App.{App}
use Rattle.anti_object.specs.declared.object.Object.{Object}
use Rattle.anti_proc.specs.Tasks.{role_of}
use Rattle.anti_proc.specs.inner.Standing.{full_of}
use Rattle.anti_shared.specs.Passes.{PassView, SharedView}
use Rattle.anti_trace.specs.Legal.{bears}
use Rattle.anti_trace.specs.Traces.{entries_by}
use Rattle.anti_trace.specs.declared.processes.AtObject.{AtObject}
use Rattle.anti_trace.specs.inner.Living.{AreProcessesOf, born_at}
use Rattle.anti_work.specs.declared.worker.Route.{Route}
use Rattle.anti_work.specs.declared.worker.Stop.{Stop}
use Rattle.anti_work.specs.declared.worker.Worker.{Worker}
use Rattle.anti_work.specs.Workers.{worker_at}
use Rattle.anti_work.specs.inner.Knowing.{AreOf, KnowsCalls, WasRefused}
use Rattle.anti_work.specs.inner.Rounds.{Anything, Comes, HasRoutes, IsSameWorker, RefusedIfPlain, ends_of}
use Rattle.anti_work.specs.inner.Trying.{AllRefused}
use Rattle.anti_work.specs.inner.Tries.{IsWorkerOf}
use Rattle.anti_work.specs.inner.Working.{RouteStands, WorkerStands}
use Rattle.anti_work.proofs.Many.{comes_as, comes_both, comes_itself, comes_stops}

module _ (app : App) (shared : List (SharedView Object)) where
  -- nothing was asked
  pub any_itself : (w : Worker) → AreOf shared w.passes.items → Comes app shared w w Anything (Ok false)
  any_itself w of = comes_itself app shared w Anything of (λ calls stands. tt)

  -- what is more than that
  pub any_of : (old new : Worker) (Refused : List Entry → Type 0) (result : Result Bool Stop) → Comes app shared old new Refused result → Comes app shared old new Anything result
  any_of old new Refused result comes = comes_as app shared old new Refused Anything result comes (λ calls stands stays was. tt)

  module _ (a b c : Worker) where
    pub any_more : (first second made : Bool) → made ≡ (first || second) → Comes app shared a b Anything (Ok first) → Comes app shared b c Anything (Ok second)
        → Comes app shared a c Anything (Ok made)
    any_more first second made is one two =
        subst (λ (m : Bool). Comes app shared a c Anything (Ok m)) (sym is)
        (comes_both app shared a b c Anything Anything Anything first second one two (λ calls stays then was now. tt))

    pub any_stops : (first : Bool) (stop : Stop) → Comes app shared a b Anything (Ok first) → Comes app shared b c Anything (Err stop) → Comes app shared a c Anything (Err stop)
    any_stops first stop one two = comes_stops app shared a b c Anything Anything Anything first stop one two

    -- nothing was made by the first
    none_then : (result : Result Bool Stop) → Comes app shared a b Anything (Ok false) → Comes app shared b c Anything result → Comes app shared a c Anything result
    none_then (Ok made) one two = any_more false made made refl one two
    none_then (Err stop) one two = any_stops false stop one two

    pub any_then : (first : Bool) → first ≡ false → (result : Result Bool Stop) → Comes app shared a b Anything (Ok first) → Comes app shared b c Anything result
        → Comes app shared a c Anything result
    any_then first none result one two = none_then result (subst (λ (made : Bool). Comes app shared a b Anything (Ok made)) none one) two

  -- ---- which processes are awake says nothing of a worker

  module _ (old new : Worker) (same : IsSameWorker old new) where
    same_stands : (calls : List Entry) → WorkerStands app old calls → WorkerStands app new calls
    same_stands calls stands = record {
      knows = subst (λ (n : ℕ). KnowsCalls app n new.passes.items calls) (sym same.number)
          (subst (λ (ps : List (PassView Object)). KnowsCalls app old.number ps calls) (sym same.passes) stands.knows);
      processes = subst (λ (ps : List AtObject). AreProcessesOf app ps calls) (sym same.processes) stands.processes;
      go = subst (λ (ps : List AtObject). (o : ℕ) → All (λ p. full_of p ≡ None) (born_at ps o)) (sym same.processes) stands.go;
      clock = same.clock ∙ stands.clock ∙ ap (λ (n : ℕ). last_stamp (entries_by (Carrier n) calls)) (sym same.number);
      ours = subst (λ (n : ℕ). All (λ e. bears e.call ≡ true → IfSome (role_of app e) (λ role. worker_at app role.service ≡ n)) calls) (sym same.number) stands.ours;
      routes = subst (λ (n : ℕ). All (RouteStands n calls) new.routes.items) (sym same.number)
          (subst (λ (rs : List Route). All (RouteStands old.number calls) rs) (sym same.routes) stands.routes);
    }

    pub same_worker : IsWorkerOf app old → IsWorkerOf app new
    same_worker worker = (worker.0, same_stands worker.0 worker.1)

    pub same_comes : AreOf shared old.passes.items → Comes app shared old new Anything (Ok false)
    same_comes of = record {
      of = subst (AreOf shared) (sym same.passes) of;
      number = same.number;
      routes = ap (map ends_of) same.routes;
      came = λ calls stands. (
        record {
          stands = same_stands calls stands;
          processes = same.processes;
          refused = λ q was. subst (λ (ps : List (PassView Object)). WasRefused app ps calls q) (sym same.passes) was;
        },
        tt,
      );
    }

  module _ (a b c : Worker) (same : IsSameWorker a b) (of : AreOf shared a.passes.items) where
    behind : (Refused : List Entry → Type 0) (result : Result Bool Stop) → Comes app shared b c Refused result → Comes app shared a c Refused result
    behind Refused (Ok made) comes = comes_both app shared a b c Anything Refused Refused false made (same_comes a b same of) comes (λ calls stays then was now. now)
    behind Refused (Err stop) comes = comes_stops app shared a b c Anything Refused Refused false stop (same_comes a b same of) comes

    pub plain_behind : (plain : Bool) (result : Result Bool Stop) → Comes app shared b c (AllRefused app b.number c.passes.items) result
        → Comes app shared a c (RefusedIfPlain plain app a.number c) result
    plain_behind plain result comes =
        comes_as app shared a c (AllRefused app b.number c.passes.items) (RefusedIfPlain plain app a.number c) result (behind (AllRefused app b.number c.passes.items) result comes)
        (λ calls stands stays was is. subst (λ (n : ℕ). AllRefused app n c.passes.items calls) same.number was)

    pub drawn_behind : (plain : Bool) → plain ≡ false → (result : Result Bool Stop) → Comes app shared b c Anything result → Comes app shared a c (RefusedIfPlain plain app a.number c) result
    drawn_behind plain drawn result comes =
        comes_as app shared a c Anything (RefusedIfPlain plain app a.number c) result (behind Anything result comes)
        (λ calls stands stays was is. (let both : true ≡ false = sym is ∙ drawn in absurd (cc)))

  -- the routes are those that they were
  pub same_routes : (old new : Worker) → IsSameWorker old new → HasRoutes app old.number (map ends_of old.routes.items) → HasRoutes app new.number (map ends_of new.routes.items)
  same_routes old new same has =
      subst (λ (n : ℕ). HasRoutes app n (map ends_of new.routes.items)) (sym same.number)
      (subst (λ (rs : List Route). HasRoutes app old.number (map ends_of rs)) (sym same.routes) has)
