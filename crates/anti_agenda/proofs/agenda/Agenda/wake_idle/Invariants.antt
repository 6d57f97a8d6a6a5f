use Rattle.std.proofs.Common.{vec_len}
use Rattle.anti_agenda.specs.inner.Waking.{WakesIdle}
use Rattle.anti_agenda.proofs.agenda.Agenda.wake_idle.Given as goal

abbrev pub invariant-loop-offer : goal.invariant-loop-offer
invariant-loop-offer l = WakesIdle l.fn.self l.self

-- fewer are idle
abbrev pub decreases-loop-offer : goal.decreases-loop-offer
decreases-loop-offer l = vec_len l.self.idle
