-- The world that workers left stands for what they did, and the finished one for what is left to do.
use Rattle.std.proofs.Common.{sym, ◌∙◌, subst}
use Rattle.anti_play.specs.Schedule.{finished}
use Rattle.anti_trace.specs.Legal.{IsLegalTrace}
use Rattle.anti_command.specs.inner.Stated.{IsPlayable}
use Rattle.anti_command.proofs.ByWorkers.{aftermath_is, by_workers}
use Rattle.anti_command.proofs.run.run_of_workers.Goals as goal

pub run_workers-requires-after_bounds : goal.run_workers-requires-after_bounds
unfolding IsPlayable
run_workers-requires-after_bounds g c κs within = c.requires

pub finish-requires-clause-sound : goal.finish-requires-clause-sound
unfolding IsPlayable
finish-requires-clause-sound g c = c.requires

pub over-requires : goal.over-requires
unfolding IsPlayable
over-requires g c =
    let begun = c.in_ok-world.ensures in
    record { app = c.args.app; trace = finished c.args.app begun.0; sound = c.requires; stands = c.in_ok-finish.ensures.finished begun.0 begun.1 }

pub legal_run-requires-clause-legal : goal.legal_run-requires-clause-legal
unfolding IsPlayable
legal_run-requires-clause-legal g c =
    let begun = c.in_ok-world.ensures in
    let stands = c.in_ok-finish.ensures.finished begun.0 begun.1 in
    subst (IsLegalTrace c.args.app) (sym (c.in_ok-trace.ensures c.args.app (finished c.args.app begun.0) c.requires stands).0) stands.run

pub returns-clause-workers : goal.returns-clause-workers
unfolding IsPlayable
returns-clause-workers g c =
    let begun = c.in_ok-world.ensures in
    let stands = c.in_ok-finish.ensures.finished begun.0 begun.1 in
    by_workers c.legal_run.result c.args.app c.legal_run.ensures.app begun.0
    (c.legal_run.ensures.trace ∙ (c.in_ok-trace.ensures c.args.app (finished c.args.app begun.0) c.requires stands).0)
    (c.legal_run.ensures.waits ∙ c.new.ensures) begun.2
    (c.finish_completes.ensures.complete c.args.app begun.0 c.requires begun.1.run) (c.finish_completes.ensures.seats c.args.app begun.0 begun.2.seats)

pub returns-clause-after : goal.returns-clause-after
unfolding IsPlayable
returns-clause-after g c =
    let begun = c.in_ok-world.ensures in
    let stands = c.in_ok-finish.ensures.finished begun.0 begun.1 in
    let over = c.in_ok-trace.ensures c.args.app (finished c.args.app begun.0) c.requires stands in
    aftermath_is c.legal_run.result c.args.app c.legal_run.ensures.app (finished c.args.app begun.0) c.in_ok-trace.after (c.legal_run.ensures.trace ∙ over.0) over.1
