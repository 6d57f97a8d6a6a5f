use Rattle.std.proofs.Common.{◌≡◌}
use Rattle.anti_agenda.specs.declared.offer.Offer.TheVariants.{Again}
use Rattle.anti_play.specs.inner.Attending.{Below, WakesAll}
use Rattle.anti_play.proofs.world_agenda.wake_agains.Given as goal

abbrev pub invariant-loop-replica : goal.invariant-loop-replica
invariant-loop-replica l = WakesAll (Below (λ replica offer. offer ≡ Again l.store replica) l.replica) l.fn.agenda l.agenda
