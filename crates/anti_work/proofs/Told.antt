-- A worker that is told of a region without a turn stays as one that asked in vain.
use Rattle.std.proofs.Common.{◌≡◌, ℕ, List, map, ap}
use Rattle.std.specs.Prelude.{Ok, false}
use Rattle.anti_app.specs.declared.app.App.{App}
use Rattle.anti_object.specs.declared.object.Object.{Object}
use Rattle.anti_shared.specs.Passes.{PassView, SharedView}
use Rattle.anti_trace.specs.inner.Living.{lists}
use Rattle.anti_work.specs.declared.worker.Worker.{Worker}
use Rattle.anti_work.specs.inner.Knowing.{AreOf, IsToldBy}
use Rattle.anti_work.specs.inner.Rounds.{Anything, Comes, ends_of}
use Rattle.anti_work.proofs.Composed.{stays_used}
use Rattle.anti_work.proofs.PassCalls.{still_of}

pub told_comes : (app : App) (shared : List (SharedView Object)) (old new : Worker) (object : ℕ) → IsToldBy old.passes.items new.passes.items object
    → AreOf shared old.passes.items → new.number ≡ old.number → lists new.processes ≡ lists old.processes → new.clock ≡ old.clock
    → new.routes.items ≡ old.routes.items → Comes app shared old new Anything (Ok false)
told_comes app shared old new object told of number processes clock routes = record {
  of = still_of old.passes.items new.passes.items object told.used shared of;
  number = number;
  routes = ap (map ends_of) routes;
  came = λ calls stands. (
    stays_used app old new calls stands number processes clock routes object told.used (ap (λ (p : PassView Object). p.mine) told.after_is),
    tt,
  );
}
