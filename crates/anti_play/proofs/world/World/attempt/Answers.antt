use Rattle.std.proofs.Common.{◌≡◌, length, refl, sym, subst, arith}
use Rattle.anti_agenda.specs.declared.offer.Offer.{Offer}
use Rattle.anti_agenda.specs.declared.offer.Offer.TheVariants.{Again, Ship}
use Rattle.anti_play.specs.inner.Attempts.{AttendsBehind, IsCacheTo, IsRouteTo, MakesEntry, made_by}
use Rattle.anti_app.proofs.Runnable.{can_run}
use Rattle.anti_app.specs.Objects.{object_count}
use Rattle.anti_play.proofs.Trying.{again_there, cache_is, cache_there, pull_there, region_is, replica_there, ship_there, store_there, sub_store, take_there}
use Rattle.anti_play.proofs.world.World.attempt.Goals as goal
use Rattle.anti_play.proofs.world.World.attempt.Goals.{After-at-region, After-at-region-in-Again}

pub inbox_number-requires-clause-runs : goal.inbox_number-requires-clause-runs
inbox_number-requires-clause-runs c = can_run c.args.app.now c.requires.sound

pub inbox_number-requires-clause-named : goal.inbox_number-requires-clause-named
inbox_number-requires-clause-named c =
    take_there c.args.app.now c.args.self.now c.args.agenda.now c.requires.attended c.args.offer c.requires.awake c.in-Take.service c.in-Take.is

pub attempt_birth-requires-clause-object : goal.attempt_birth-requires-clause-object
attempt_birth-requires-clause-object c =
    let low = take_there c.args.app.now c.args.self.now c.args.agenda.now c.requires.attended c.args.offer c.requires.awake c.in-Take.service c.in-Take.is in
    omega (arith, low, c.inbox_number.ensures)

pub at-requires : goal.at-requires
at-requires c = pull_there c.args.app.now c.args.self.now c.args.agenda.now c.requires.attended c.args.offer c.requires.awake c.in-Pull.sub c.in-Pull.is

pub attempt_birth-requires-in-Pull-clause-object : goal.attempt_birth-requires-in-Pull-clause-object
attempt_birth-requires-in-Pull-clause-object c = sub_store c.args.app.now c.requires.sound c.in-Pull.sub c.at.result.now c.at.ensures

pub at-requires-in-Ship : goal.at-requires-in-Ship
at-requires-in-Ship c =
    store_there c.args.app.now c.in-Ship.store c.in-Ship.replica
    (ship_there c.args.app.now c.args.self.now c.args.agenda.now c.requires.attended c.args.offer c.requires.awake c.in-Ship.store c.in-Ship.replica c.in-Ship.is)

pub at-region-requires : goal.at-region-requires
at-region-requires c =
    replica_there c.args.app.now c.in-Ship.store c.in-Ship.replica
    (ship_there c.args.app.now c.args.self.now c.args.agenda.now c.requires.attended c.args.offer c.requires.awake c.in-Ship.store c.in-Ship.replica c.in-Ship.is)
    c.at-in-Ship.result.now c.at-in-Ship.ensures

pub attempt_ship-requires-clause-store : goal.attempt_ship-requires-clause-store
attempt_ship-requires-clause-store c =
    let low =
    store_there c.args.app.now c.in-Ship.store c.in-Ship.replica
    (ship_there c.args.app.now c.args.self.now c.args.agenda.now c.requires.attended c.args.offer c.requires.awake c.in-Ship.store c.in-Ship.replica c.in-Ship.is) in
    let many : length c.args.self.now.objects.items ≡ object_count c.args.app.now = c.requires.attended.stands.objects.count in
    omega (arith, low, many, c.args.self.now.objects.ok.0)

-- the route that is tried
route : (c : After-at-region) → IsRouteTo c.args.app.now (Ship c.in-Ship.store c.in-Ship.replica) c.in-Ship.store c.at-region.result.now
route c = record {
  sound = c.requires.sound;
  replica = c.in-Ship.replica;
  is = refl;
  to = region_is c.args.app.now c.in-Ship.store c.in-Ship.replica c.at-region.result.now c.at-in-Ship.result.now c.at-in-Ship.ensures c.at-region.ensures;
}

pub returns-in-Ship-clause-chose : goal.returns-in-Ship-clause-chose
returns-in-Ship-clause-chose c =
    subst (λ (x : Offer). MakesEntry c.args.app.now c.args.self.now c.args.agenda.now (made_by c.args.app.now x) c.attempt_ship.result c.attempt_ship.new.self) (sym c.in-Ship.is)
    (c.attempt_ship.ensures.chose c.args.app.now (route ((goal.at.returns-in-Ship-clause-chose c).After-at-region)))

pub returns-in-Ship-clause-attends : goal.returns-in-Ship-clause-attends
returns-in-Ship-clause-attends c =
    subst (λ (x : Offer). AttendsBehind c.args.app.now c.args.self.now c.args.agenda.now (made_by c.args.app.now x) c.attempt_ship.result c.attempt_ship.new.agenda)
    (sym c.in-Ship.is)
    (c.attempt_ship.ensures.attends c.args.app.now (route ((goal.at.returns-in-Ship-clause-attends c).After-at-region)))

pub at-requires-in-Again : goal.at-requires-in-Again
at-requires-in-Again c =
    store_there c.args.app.now c.in-Again.store c.in-Again.replica
    (cache_there c.args.app.now c.in-Again.store c.in-Again.replica
    (again_there c.args.app.now c.args.self.now c.args.agenda.now c.requires.attended c.args.offer c.requires.awake c.in-Again.store c.in-Again.replica c.in-Again.is))

pub at-region-requires-in-Again : goal.at-region-requires-in-Again
at-region-requires-in-Again c =
    replica_there c.args.app.now c.in-Again.store c.in-Again.replica
    (cache_there c.args.app.now c.in-Again.store c.in-Again.replica
    (again_there c.args.app.now c.args.self.now c.args.agenda.now c.requires.attended c.args.offer c.requires.awake c.in-Again.store c.in-Again.replica c.in-Again.is))
    c.at-in-Again.result.now c.at-in-Again.ensures

pub attempt_again-requires-clause-store : goal.attempt_again-requires-clause-store
attempt_again-requires-clause-store c =
    let low =
    store_there c.args.app.now c.in-Again.store c.in-Again.replica
    (cache_there c.args.app.now c.in-Again.store c.in-Again.replica
    (again_there c.args.app.now c.args.self.now c.args.agenda.now c.requires.attended c.args.offer c.requires.awake c.in-Again.store c.in-Again.replica c.in-Again.is)) in
    let many : length c.args.self.now.objects.items ≡ object_count c.args.app.now = c.requires.attended.stands.objects.count in
    omega (arith, low, many, c.args.self.now.objects.ok.0)

-- the cache that is tried
cache : (c : After-at-region-in-Again) → IsCacheTo c.args.app.now (Again c.in-Again.store c.in-Again.replica) c.in-Again.store c.at-region-in-Again.result.now
cache c = record {
  sound = c.requires.sound;
  replica = c.in-Again.replica;
  is = refl;
  to = cache_is c.args.app.now c.in-Again.store c.in-Again.replica c.at-region-in-Again.result.now c.at-in-Again.result.now c.at-in-Again.ensures c.at-region-in-Again.ensures
      (again_there c.args.app.now c.args.self.now c.args.agenda.now c.requires.attended c.args.offer c.requires.awake c.in-Again.store c.in-Again.replica c.in-Again.is);
}

pub returns-in-Again-clause-chose : goal.returns-in-Again-clause-chose
returns-in-Again-clause-chose c =
    subst (λ (x : Offer). MakesEntry c.args.app.now c.args.self.now c.args.agenda.now (made_by c.args.app.now x) c.attempt_again.result c.attempt_again.new.self) (sym c.in-Again.is)
    (c.attempt_again.ensures.chose c.args.app.now (cache ((goal.at.returns-in-Again-clause-chose c).After-at-region-in-Again)))

pub returns-in-Again-clause-attends : goal.returns-in-Again-clause-attends
returns-in-Again-clause-attends c =
    subst (λ (x : Offer). AttendsBehind c.args.app.now c.args.self.now c.args.agenda.now (made_by c.args.app.now x) c.attempt_again.result c.attempt_again.new.agenda)
    (sym c.in-Again.is)
    (c.attempt_again.ensures.attends c.args.app.now (cache ((goal.at.returns-in-Again-clause-attends c).After-at-region-in-Again)))
