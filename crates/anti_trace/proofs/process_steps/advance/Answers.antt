use Rattle.std.proofs.Common.{◌≡◌, true, false, Err, ap, sym, ◌∙◌}
use Rattle.anti_proc.proofs.Knowing.{reply_known}
use Rattle.anti_app.proofs.Runnable.{can_run}
use Rattle.anti_trace.proofs.process_steps.advance.Goals as goal

pub advance-requires-clause-app : goal.advance-requires-clause-app
advance-requires-clause-app c = can_run c.args.app.now c.requires.sound

pub unreachable-requires : goal.unreachable-requires
unreachable-requires c =
    let known = reply_known c.args.app.now c.args.entry.now.object c.args.entry.now.reply c.requires.known in
    let foreign = c.advance.ensures.foreign (c.in-Err-Foreign.is ∙ ap Err c.in-Err-Foreign.field-0-is) in
    absurd (let both : true ≡ false = sym foreign ∙ known in cc)
