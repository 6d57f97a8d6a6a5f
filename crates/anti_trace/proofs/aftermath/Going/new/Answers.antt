use Rattle.anti_app.proofs.Runnable.{can_run}
use Rattle.anti_trace.proofs.NoneBorn.{none_are}
use Rattle.anti_trace.proofs.Trails.{bare_if}
use Rattle.anti_trace.proofs.aftermath.Going.new.Goals as goal

pub object_count-count-requires : goal.object_count-count-requires
object_count-count-requires c = can_run c.args.app.now c.requires

pub returns : goal.returns
returns c = record {
  processes = none_are c.args.app.now _ _ c.in_ok-processes.ensures c.object_count-count.ensures;
  trail = bare_if c.args.app.now _ _ c.in_ok-trail.ensures.0 c.object_count-count.ensures;
  kept = c.in_ok-trail.ensures.1;
}
