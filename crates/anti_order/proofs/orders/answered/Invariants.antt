use Rattle.std.proofs.Common.{take}
use Rattle.anti_app.specs.declared.app.App.{App}
use Rattle.anti_order.specs.inner.Grounds.{AreAnswersFor, AreGroundsOf}
use Rattle.anti_order.proofs.orders.answered.Given as goal

-- the spans so far are answered
abbrev pub invariant-loop-reads : goal.invariant-loop-reads
invariant-loop-reads l = (app : App) → AreGroundsOf app l.trace l.grounds → AreAnswersFor app l.trace (take l.reads-index l.spans) l.answers.items
