use Rattle.std.proofs.Common.{refl, ◌≡◌, ◌<◌, List, length, true, false, sym, subst, ap, ◌∙◌, arith}
use Rattle.std.specs.Prelude.{Bool, Ok, Err, Result, OnOk}
use Rattle.std.specs.BTreeSet.{keys}
use Rattle.anti_ids.specs.declared.memory.NoMemory.{NoMemory}
use Rattle.anti_kind.specs.declared.awaited.Brought.TheVariants.{Shipped}
use Rattle.anti_kind.specs.declared.call.Call.{Call}
use Rattle.anti_kind.specs.declared.call.Call.TheVariants as calls
use Rattle.anti_kind.specs.declared.entry.Entry.{Entry}
use Rattle.anti_kind.specs.Machines.{StandsFor}
use Rattle.anti_kind.specs.Shipments.{next_ship}
use Rattle.anti_kind.specs.Records.{Record}
use Rattle.anti_app.specs.declared.app.App.{App}
use Rattle.anti_object.specs.declared.object.Object.{Object}
use Rattle.anti_object.specs.Standing.{ObjectStands, object_start}
use Rattle.anti_trace.specs.Traces.{entries_on}
use Rattle.anti_play.specs.inner.Attending.{Attends, Turned, entry_by_offer, with_entry}
use Rattle.anti_play.specs.inner.Standing.{IsObject, WorldStands}
use Rattle.anti_play.proofs.Attempting.{turned_lost, went_nowhere}
use Rattle.anti_play.proofs.MakeEntry.{by_and}
use Rattle.anti_play.proofs.Carrying.{carried_attends, carried_is, carried_lost}
use Rattle.anti_play.proofs.Shipping.{route_attends, route_turned, ships}
use Rattle.anti_play.proofs.world.World.attempt_ship.Goals as goal
use Rattle.anti_play.proofs.world.World.attempt_ship.Goals.{After-next_ship}

-- the store of the route
here : (c : After-next_ship) (app : App) (trace : List Entry) → WorldStands app c.args.self.now trace
    → IsObject app c.args.store c.index-recorded.result.now (entries_on c.args.store trace)
here c app trace s =
    let r : Record Object = c.index-recorded.result.now in
    let short : c.args.store < length c.args.self.now.objects.items = omega (arith, c.args.self.now.objects.ok.0) in
    subst (λ (x : Record Object). IsObject app c.args.store x (entries_on c.args.store trace)) (sym c.index-recorded.ensures) (s.objects.each c.args.store r short)

-- its next shipment
told : (c : After-next_ship) → c.next_ship.result ≡ next_ship (object_start c.index-recorded.result.now.machine) c.index-recorded.result.now.history c.args.region
told c =
    let r : Record Object = c.index-recorded.result.now in
    c.next_ship.ensures r.history (subst (λ (m : Object). StandsFor (object_start m) (ObjectStands m) r.history) (sym c.machine.ensures.machine) c.machine.ensures.stands)
    ∙ ap (λ (m : Object). next_ship (object_start m) r.history c.args.region) c.machine.ensures.machine

pub returns-in_default-clause-attends : goal.returns-in_default-clause-attends
returns-in_default-clause-attends c = λ app route trace s a.
    let at = (goal.at.returns-in_default-clause-attends c).After-next_ship in
    by_and c.sleep.result false c.and.result c.and.ensures
    (λ (r : Result Bool NoMemory). OnOk r (Attends app (with_entry (entry_by_offer app trace c.args.offer) trace) c.sleep.new.self))
    c.sleep.ensures.ok
    (λ put.
    route_attends app route.sound c.args.self.now trace s c.args.offer c.args.store route.replica c.args.region route.is route.to c.index-recorded.result.now (here at app trace s)
    (sym c.in_default.is ∙ told at) c.args.agenda.now c.sleep.new.self a c.requires.awake put)
    (λ lost. tt)

pub returns-in_default-clause-fewer : goal.returns-in_default-clause-fewer
returns-in_default-clause-fewer c =
    by_and c.sleep.result false c.and.result c.and.ensures
    (λ (r : Result Bool NoMemory). r ≡ Ok false → length (keys c.sleep.new.self.awake) < length (keys c.args.agenda.now.awake))
    c.sleep.ensures.ok
    (λ put same. put.left.fewer c.requires.awake)
    (λ lost same. absurd (cc))

pub ship-requires-clause-next : goal.ship-requires-clause-next
ship-requires-clause-next c = record {
  recorded = c.index-recorded.result.now;
  at = c.index-recorded.ensures;
  next = sym (sym c.in-Some.is ∙ told ((goal.at.ship-requires-clause-next c).After-next_ship));
}

pub returns-in_err-ship-clause-chose : goal.returns-in_err-ship-clause-chose
returns-in_err-ship-clause-chose c = λ app route trace s a.
    turned_lost app trace (entry_by_offer app trace c.args.offer) c.from_residual.result c.ship.new.self c.from_residual.ensures.0
    (went_nowhere app trace c.ship.new.self (c.in_err-ship.ensures.kept app trace s))

pub returns-clause-chose : goal.returns-clause-chose
returns-clause-chose c = λ app route trace s a.
    let at = (goal.at.returns-clause-chose c).After-next_ship in
    let came = c.in_ok-ship.ensures.made app trace route.sound s in
    let call : Call = calls.Ship c.args.region c.in-Some.version c.in-Some.part in
    let makes =
    ships app route.sound c.args.self.now trace s c.args.offer c.args.store route.replica c.args.region route.is route.to c.index-recorded.result.now (here at app trace s)
    c.in-Some.version c.in-Some.part (sym c.in-Some.is ∙ told at) in
    by_and c.stir.result true c.and-2.result c.and-2.ensures
    (λ (r : Result Bool NoMemory). Turned app trace (entry_by_offer app trace c.args.offer) r c.ship.new.self)
    c.stir.ensures
    (λ stirred. carried_is app route.sound c.args.self.now trace s c.args.offer c.args.store call refl makes (Ok true) c.ship.new.self came)
    (λ lost. carried_lost app route.sound c.args.self.now trace s c.args.offer c.args.store call refl makes c.ship.new.self came (Err lost) refl)

pub returns-clause-attends : goal.returns-clause-attends
returns-clause-attends c = λ app route trace s a.
    let at = (goal.at.returns-clause-attends c).After-next_ship in
    let call : Call = calls.Ship c.args.region c.in-Some.version c.in-Some.part in
    let makes =
    ships app route.sound c.args.self.now trace s c.args.offer c.args.store route.replica c.args.region route.is route.to c.index-recorded.result.now (here at app trace s)
    c.in-Some.version c.in-Some.part (sym c.in-Some.is ∙ told at) in
    by_and c.stir.result true c.and-2.result c.and-2.ensures
    (λ (r : Result Bool NoMemory). OnOk r (Attends app (with_entry (entry_by_offer app trace c.args.offer) trace) c.stir.new.self))
    c.stir.ensures
    (λ stirred.
    carried_attends app route.sound c.args.self.now trace s c.args.offer c.args.store call refl makes c.ship.new.self (c.in_ok-ship.ensures.made app trace route.sound s)
    c.args.agenda.now c.stir.new.self a (Shipped c.args.region c.in-Some.version) refl stirred)
    (λ lost. tt)

pub returns-in_default-clause-chose : goal.returns-in_default-clause-chose
returns-in_default-clause-chose c = λ app route trace s a.
    let at = (goal.at.returns-in_default-clause-chose c).After-next_ship in
    by_and c.sleep.result false c.and.result c.and.ensures
    (λ (r : Result Bool NoMemory). Turned app trace (entry_by_offer app trace c.args.offer) r c.args.self.now)
    c.sleep.ensures.ok
    (λ put.
    route_turned app route.sound c.args.self.now trace s c.args.offer c.args.store route.replica c.args.region route.is route.to c.index-recorded.result.now (here at app trace s)
    (sym c.in_default.is ∙ told at))
    (λ lost. went_nowhere app trace c.args.self.now s)
