use Rattle.std.proofs.Common.{ℕ, refl, subst}
use Rattle.anti_app.proofs.Runnable.{can_run}
use Rattle.anti_trace.specs.inner.Living.{NoneBorn, lists}
use Rattle.anti_work.proofs.AtWork.{new_worker}
use Rattle.anti_work.proofs.start.Start.worker.Goals as goal

pub object_count-requires : goal.object_count-requires
object_count-requires c = can_run c.args.app.now c.requires.sound

pub returns : goal.returns
returns c =
    new_worker c.args.app.now c.args.self
    (record {
      number = c.args.self.number;
      passes = c.args.self.passes;
      processes = c.in_ok-processes.processes;
      clock = 0;
      routes = c.in_ok-routes.routes;
      awake = c.new-2.result;
      alloc = c.args.self.alloc;
    })
    refl refl refl (subst (λ (n : ℕ). NoneBorn n (lists c.in_ok-processes.processes)) c.object_count.ensures c.in_ok-processes.ensures) c.in_ok-routes.ensures c.requires.knows
