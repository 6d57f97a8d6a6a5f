use Rattle.std.proofs.Common.{◌≡◌, ℕ, Bool, true, false, cond, [], length, sym, ap, ◌∙◌, subst, arith}
use Rattle.std.proofs.lemmas.Bool.{not-false, not-true}
use Rattle.anti_kind.specs.declared.store_kind.Facts.{Facts}
use Rattle.anti_kind.specs.Kinds.{facts_of}
use Rattle.anti_app.specs.declared.app.StoreDef.{StoreDef}
use Rattle.anti_agenda.specs.declared.offer.Offer.{Offer}
use Rattle.anti_agenda.specs.declared.offer.Offer.TheVariants.{Again}
use Rattle.anti_play.specs.inner.Attending.{Below, WakesAll, caches}
use Rattle.anti_play.proofs.Filling.{all_more, all_none, all_one, all_to_regions}
use Rattle.anti_play.proofs.world_agenda.wake_agains.Goals as goal

-- by what is told of the kind
count : (d : StoreDef) (facts : Facts) → facts ≡ facts_of d.kind → (cached : Bool) → facts.cached ≡ cached → length (caches d) ≡ length (cond cached d.replicas.items [])
count d facts told cached is = ap (λ (b : Bool). length (cond b d.replicas.items [])) (sym (ap (λ (f : Facts). f.cached) told) ∙ is)

pub returns-then-not-facts : goal.returns-then-not-facts
returns-then-not-facts c =
    let d = c.at-stored.result.now in
    let none : length (caches d) ≡ 0 = count d c.facts.result c.facts.ensures false (not-true c.facts.result.cached c.if-not-facts.true) in
    all_to_regions Again caches c.args.app.now c.args.store d c.at-stored.ensures c.args.agenda.now c.args.agenda.now
    (subst (λ (n : ℕ). WakesAll (Below (λ replica offer. offer ≡ Again c.args.store replica) n) c.args.agenda.now c.args.agenda.now) (sym none)
    (all_none (λ (n : ℕ) (offer : Offer). offer ≡ Again c.args.store n) c.args.agenda.now))

pub loop-replica-init : goal.loop-replica-init
loop-replica-init c = all_none (λ (n : ℕ) (offer : Offer). offer ≡ Again c.args.store n) c.args.agenda.now

pub loop-replica-preserved : goal.loop-replica-preserved
loop-replica-preserved c =
    all_more (λ (n : ℕ) (offer : Offer). offer ≡ Again c.args.store n) c.loop-replica.replica c.args.agenda.now c.loop-replica.agenda c.wake.new.self c.loop-replica.invariant
    (all_one (Again c.args.store c.loop-replica.replica) c.loop-replica.agenda c.wake.new.self c.in_ok-wake.ensures.ok)

pub returns : goal.returns
returns c =
    let d = c.at-stored.result.now in
    let all : c.loop-replica.replica ≡ length d.replicas.items = omega arith in
    let same : length (caches d) ≡ length d.replicas.items = count d c.facts.result c.facts.ensures true (not-false c.facts.result.cached c.if-not-facts.false) in
    all_to_regions Again caches c.args.app.now c.args.store d c.at-stored.ensures c.args.agenda.now c.loop-replica.agenda
    (subst (λ (n : ℕ). WakesAll (Below (λ replica offer. offer ≡ Again c.args.store replica) n) c.args.agenda.now c.loop-replica.agenda) (all ∙ sym same)
    c.loop-replica.invariant)
