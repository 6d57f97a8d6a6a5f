use Rattle.std.proofs.Common.{subst}
use Rattle.anti_past.specs.inner.Walking.{IsCourseOf}
use Rattle.anti_past.proofs.losses.first_loss.Goals as goal

pub returns-in-Loss : goal.returns-in-Loss
returns-in-Loss c = subst (IsCourseOf c.args.app.now c.args.trace.now) c.in-Loss.is c.in_ok-mark.ensures

pub returns-in-NoLoss : goal.returns-in-NoLoss
returns-in-NoLoss c = (subst (IsCourseOf c.args.app.now c.args.trace.now) c.in-NoLoss.is c.in_ok-mark.ensures).0
