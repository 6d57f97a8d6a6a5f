use Rattle.std.proofs.Common.{◌≡◌, ℕ, length, arith, subst}
use Rattle.anti_app.proofs.SoundLemmas.{app_known}
use Rattle.anti_play.specs.inner.Attending.{Below, IsCacheOf, WakesAll}
use Rattle.anti_play.proofs.Filling.{all_more, all_none}
use Rattle.anti_play.proofs.world_agenda.wake_caches.Goals as goal

pub loop-store-init : goal.loop-store-init
loop-store-init c = all_none (IsCacheOf c.args.app.now) c.args.agenda.now

pub overflow_cast-store : goal.overflow_cast-store
overflow_cast-store c = omega (arith, (app_known c.args.app.now c.requires.sound).few_stores)

pub loop-store-preserved : goal.loop-store-preserved
loop-store-preserved c =
    all_more (IsCacheOf c.args.app.now) c.loop-store.store c.args.agenda.now c.loop-store.agenda c.wake_agains.new.agenda c.loop-store.invariant c.in_ok-wake_agains.ensures

pub returns : goal.returns
returns c =
    let all : c.loop-store.store ≡ length c.args.app.now.stores.items = omega arith in
    subst (λ (n : ℕ). WakesAll (Below (IsCacheOf c.args.app.now) n) c.args.agenda.now c.loop-store.agenda) all c.loop-store.invariant
