use Rattle.std.proofs.Common.{◌≡◌, ℕ, length, arith, subst}
use Rattle.anti_agenda.specs.declared.offer.Offer.{Offer}
use Rattle.anti_agenda.specs.declared.offer.Offer.TheVariants.{Ship}
use Rattle.anti_play.specs.inner.Attending.{Below, WakesAll, replicas}
use Rattle.anti_play.proofs.Filling.{all_more, all_none, all_one, all_to_regions}
use Rattle.anti_play.proofs.world_agenda.wake_routes.Goals as goal

pub loop-replica-init : goal.loop-replica-init
loop-replica-init c = all_none (λ (n : ℕ) (offer : Offer). offer ≡ Ship c.args.store n) c.args.agenda.now

pub loop-replica-preserved : goal.loop-replica-preserved
loop-replica-preserved c =
    all_more (λ (n : ℕ) (offer : Offer). offer ≡ Ship c.args.store n) c.loop-replica.replica c.args.agenda.now c.loop-replica.agenda c.wake.new.self c.loop-replica.invariant
    (all_one (Ship c.args.store c.loop-replica.replica) c.loop-replica.agenda c.wake.new.self c.in_ok-wake.ensures.ok)

pub returns : goal.returns
returns c =
    let d = c.at.result.now in
    let all : c.loop-replica.replica ≡ length d.replicas.items = omega arith in
    all_to_regions Ship replicas c.args.app.now c.args.store d c.at.ensures c.args.agenda.now c.loop-replica.agenda
    (subst (λ (n : ℕ). WakesAll (Below (λ replica offer. offer ≡ Ship c.args.store replica) n) c.args.agenda.now c.loop-replica.agenda) all c.loop-replica.invariant)
