use Rattle.std.proofs.Common.{◌≡◌}
use Rattle.anti_agenda.specs.declared.offer.Offer.TheVariants.{Take}
use Rattle.anti_play.specs.inner.Attending.{Below, WakesAll}
use Rattle.anti_play.proofs.world_agenda.wake_services.Given as goal

abbrev pub invariant-loop-service : goal.invariant-loop-service
invariant-loop-service l = WakesAll (Below (λ service offer. offer ≡ Take service) l.service) l.fn.agenda l.agenda
