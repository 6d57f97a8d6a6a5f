use Rattle.std.proofs.Common.{◌≡◌}
use Rattle.anti_agenda.specs.declared.offer.Offer.TheVariants.{Pull}
use Rattle.anti_play.specs.inner.Attending.{Below, WakesAll}
use Rattle.anti_play.proofs.world_agenda.wake_subs.Given as goal

abbrev pub invariant-loop-sub : goal.invariant-loop-sub
invariant-loop-sub l = WakesAll (Below (λ sub offer. offer ≡ Pull sub) l.sub) l.fn.agenda l.agenda
