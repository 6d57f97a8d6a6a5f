use Rattle.std.proofs.Common.{Err, ap, ◌∙◌}
use Rattle.anti_app.proofs.Runnable.{can_run}
use Rattle.anti_trace.proofs.process_steps.born.Goals as goal

pub born-requires : goal.born-requires
born-requires c = can_run c.args.app.now c.requires.sound

pub unreachable-requires : goal.unreachable-requires
unreachable-requires c = c.requires.starts (c.born.ensures.foreign (c.in-Err-Foreign.is ∙ ap Err c.in-Err-Foreign.field-0-is))
