use Rattle.anti_play.specs.inner.Attending.{Below, IsRouteOf, WakesAll}
use Rattle.anti_play.proofs.world_agenda.wake_stores.Given as goal

abbrev pub invariant-loop-store : goal.invariant-loop-store
invariant-loop-store l = WakesAll (Below (IsRouteOf l.app) l.store) l.fn.agenda l.agenda
