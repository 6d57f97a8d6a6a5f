use Rattle.anti_play.specs.inner.Attending.{Below, IsCacheOf, WakesAll}
use Rattle.anti_play.proofs.world_agenda.wake_caches.Given as goal

abbrev pub invariant-loop-store : goal.invariant-loop-store
invariant-loop-store l = WakesAll (Below (IsCacheOf l.app) l.store) l.fn.agenda l.agenda
