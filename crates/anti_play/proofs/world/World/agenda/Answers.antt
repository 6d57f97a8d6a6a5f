use Rattle.anti_play.proofs.Filling.{attends_filled}
use Rattle.anti_play.proofs.world.World.agenda.Goals as goal

pub returns : goal.returns
returns c = λ trace s.
    attends_filled c.args.app.now trace c.new-agenda.result c.wake_objects.new.agenda c.wake_services.new.agenda c.wake_subs.new.agenda c.wake_stores.new.agenda c.wake_caches.new.agenda
    c.new-agenda.ensures
    (c.in_ok-wake_objects.ensures trace s) c.in_ok-wake_services.ensures c.in_ok-wake_subs.ensures c.in_ok-wake_stores.ensures c.in_ok-wake_caches.ensures
