use Rattle.std.proofs.Common.{◌≡◌, ℕ, length, arith, subst}
use Rattle.anti_app.proofs.SoundLemmas.{app_known}
use Rattle.anti_agenda.specs.declared.offer.Offer.{Offer}
use Rattle.anti_agenda.specs.declared.offer.Offer.TheVariants.{Take}
use Rattle.anti_play.specs.inner.Attending.{Below, WakesAll}
use Rattle.anti_play.proofs.Filling.{all_more, all_none, all_one}
use Rattle.anti_play.proofs.world_agenda.wake_services.Goals as goal

pub loop-service-init : goal.loop-service-init
loop-service-init c = all_none (λ (n : ℕ) (offer : Offer). offer ≡ Take n) c.args.agenda.now

pub overflow_cast-service : goal.overflow_cast-service
overflow_cast-service c = omega (arith, (app_known c.args.app.now c.requires.sound).few_services)

pub loop-service-preserved : goal.loop-service-preserved
loop-service-preserved c =
    all_more (λ (n : ℕ) (offer : Offer). offer ≡ Take n) c.loop-service.service c.args.agenda.now c.loop-service.agenda c.wake.new.self c.loop-service.invariant
    (all_one (Take c.loop-service.service) c.loop-service.agenda c.wake.new.self c.in_ok-wake.ensures.ok)

pub returns : goal.returns
returns c =
    let all : c.loop-service.service ≡ length c.args.app.now.services.items = omega arith in
    subst (λ (n : ℕ). WakesAll (Below (λ service offer. offer ≡ Take service) n) c.args.agenda.now c.loop-service.agenda) all c.loop-service.invariant
