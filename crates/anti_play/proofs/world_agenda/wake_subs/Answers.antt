use Rattle.std.proofs.Common.{◌≡◌, ℕ, length, arith, subst}
use Rattle.anti_app.proofs.SoundLemmas.{app_known}
use Rattle.anti_agenda.specs.declared.offer.Offer.{Offer}
use Rattle.anti_agenda.specs.declared.offer.Offer.TheVariants.{Pull}
use Rattle.anti_play.specs.inner.Attending.{Below, WakesAll}
use Rattle.anti_play.proofs.Filling.{all_more, all_none, all_one}
use Rattle.anti_play.proofs.world_agenda.wake_subs.Goals as goal

pub loop-sub-init : goal.loop-sub-init
loop-sub-init c = all_none (λ (n : ℕ) (offer : Offer). offer ≡ Pull n) c.args.agenda.now

pub overflow_cast-sub : goal.overflow_cast-sub
overflow_cast-sub c = omega (arith, (app_known c.args.app.now c.requires.sound).few_subs)

pub loop-sub-preserved : goal.loop-sub-preserved
loop-sub-preserved c =
    all_more (λ (n : ℕ) (offer : Offer). offer ≡ Pull n) c.loop-sub.sub c.args.agenda.now c.loop-sub.agenda c.wake.new.self c.loop-sub.invariant
    (all_one (Pull c.loop-sub.sub) c.loop-sub.agenda c.wake.new.self c.in_ok-wake.ensures.ok)

pub returns : goal.returns
returns c =
    let all : c.loop-sub.sub ≡ length c.args.app.now.subs.items = omega arith in
    subst (λ (n : ℕ). WakesAll (Below (λ sub offer. offer ≡ Pull sub) n) c.args.agenda.now c.loop-sub.agenda) all c.loop-sub.invariant
