use Rattle.std.proofs.Common.{arith}
use Rattle.anti_app.proofs.Runnable.{can_run}
use Rattle.anti_past.proofs.Fronts.{followed, next_of}
use Rattle.anti_past.proofs.processes_before.processes_before.Goals as goal

pub object_count-requires : goal.object_count-requires
object_count-requires c = can_run c.args.app.now c.requires.sound

pub follow-requires-clause-next : goal.follow-requires-clause-next
follow-requires-clause-next c =
    next_of c.args.app.now c.args.trace.now c.requires.legal c.loop-at.at c.at.result.now c.at.ensures _ c.loop-at.invariant

pub loop-at-preserved : goal.loop-at-preserved
loop-at-preserved c =
    followed c.args.app.now c.args.trace.now c.requires.legal c.loop-at.at c.at.result.now c.at.ensures _ c.loop-at.invariant c.follow.new.self.at.items
    c.in_ok-follow.ensures

pub returns : goal.returns
returns c = grind arith
