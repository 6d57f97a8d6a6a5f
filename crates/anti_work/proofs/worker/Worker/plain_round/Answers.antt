-- What each loop refused is refused still behind the others.
use Rattle.std.proofs.Common.{◌||◌, Bool, false, List, length, map, sym, ap, ◌∙◌, subst}
use Rattle.std.specs.Prelude.{Ok}
use Rattle.anti_kind.specs.declared.entry.Entry.{Entry}
use Rattle.anti_app.specs.Objects.{object_count}
use Rattle.anti_work.specs.inner.Rounds.{Comes, FirstRefused, GoesRefused, PullRefused, ShipRefused, TakeRefused, ends_of}
use Rattle.anti_work.specs.inner.Trying.{AllRefused}
use Rattle.anti_work.proofs.AllTried.{BothRefused, ThreeRefused, round_came, three_came, two_came}
use Rattle.anti_work.proofs.Many.{comes_itself, comes_stops, still_worker}
use Rattle.anti_work.proofs.worker.Worker.plain_round.Goals as goal

pub returns-in-Err : goal.returns-in-Err
returns-in-Err g c =
    comes_stops c.args.app.now c.args.shared.now c.args.self.now c.args.self.now c.try_goes.new.self (λ (calls : List Entry). Unit {0})
    (FirstRefused (GoesRefused c.args.app.now c.try_goes.new.self) (object_count c.args.app.now)) (AllRefused c.args.app.now c.args.self.now.number c.try_goes.new.self.passes.items)
    false c.in-Err.stop (comes_itself c.args.app.now c.args.shared.now c.args.self.now (λ (calls : List Entry). Unit {0}) c.requires.of (λ calls stands. tt)) c.in-Err.ensures

pub try_takes-requires-clause-of : goal.try_takes-requires-clause-of
try_takes-requires-clause-of g c = c.in-Ok.ensures.of

pub try_takes-requires-clause-worker : goal.try_takes-requires-clause-worker
try_takes-requires-clause-worker g c = still_worker c.args.app.now c.args.shared.now c.args.self.now c.try_goes.new.self (FirstRefused (GoesRefused c.args.app.now c.try_goes.new.self) (object_count c.args.app.now)) c.in-Ok.went c.in-Ok.ensures c.requires.worker

pub returns-in-Err-try_takes : goal.returns-in-Err-try_takes
returns-in-Err-try_takes g c =
    comes_stops c.args.app.now c.args.shared.now c.args.self.now c.try_goes.new.self c.try_takes.new.self (FirstRefused (GoesRefused c.args.app.now c.try_goes.new.self) (object_count c.args.app.now)) (FirstRefused (TakeRefused c.args.app.now c.try_goes.new.self.number c.try_takes.new.self) (length c.args.app.now.services.items)) (AllRefused c.args.app.now c.args.self.now.number c.try_takes.new.self.passes.items) c.in-Ok.went c.in-Err-try_takes.stop c.in-Ok.ensures c.in-Err-try_takes.ensures

pub try_pulls-requires-clause-of : goal.try_pulls-requires-clause-of
try_pulls-requires-clause-of g c = c.in-Ok-try_takes.ensures.of

pub try_pulls-requires-clause-worker : goal.try_pulls-requires-clause-worker
try_pulls-requires-clause-worker g c =
    let first = still_worker c.args.app.now c.args.shared.now c.args.self.now c.try_goes.new.self (FirstRefused (GoesRefused c.args.app.now c.try_goes.new.self) (object_count c.args.app.now)) c.in-Ok.went c.in-Ok.ensures c.requires.worker in
    still_worker c.args.app.now c.args.shared.now c.try_goes.new.self c.try_takes.new.self (FirstRefused (TakeRefused c.args.app.now c.try_goes.new.self.number c.try_takes.new.self) (length c.args.app.now.services.items)) c.in-Ok-try_takes.took c.in-Ok-try_takes.ensures first

pub returns-in-Err-try_pulls : goal.returns-in-Err-try_pulls
returns-in-Err-try_pulls g c =
    comes_stops c.args.app.now c.args.shared.now c.args.self.now c.try_takes.new.self c.try_pulls.new.self
    (BothRefused c.args.app.now c.args.shared.now c.args.self.now c.try_goes.new.self c.try_takes.new.self c.in-Ok.went c.in-Ok-try_takes.took c.in-Ok.ensures c.in-Ok-try_takes.ensures)
    (FirstRefused (PullRefused c.args.app.now c.try_takes.new.self.number c.try_pulls.new.self) (length c.args.app.now.subs.items)) (AllRefused c.args.app.now c.args.self.now.number c.try_pulls.new.self.passes.items) (c.in-Ok.went || c.in-Ok-try_takes.took) c.in-Err-try_pulls.stop
    (two_came c.args.app.now c.args.shared.now c.args.self.now c.try_goes.new.self c.try_takes.new.self c.in-Ok.went c.in-Ok-try_takes.took c.in-Ok.ensures c.in-Ok-try_takes.ensures)
    c.in-Err-try_pulls.ensures

pub try_ships-requires-clause-of : goal.try_ships-requires-clause-of
try_ships-requires-clause-of g c = c.in-Ok-try_pulls.ensures.of

pub try_ships-requires-clause-worker : goal.try_ships-requires-clause-worker
try_ships-requires-clause-worker g c =
    let first = still_worker c.args.app.now c.args.shared.now c.args.self.now c.try_goes.new.self (FirstRefused (GoesRefused c.args.app.now c.try_goes.new.self) (object_count c.args.app.now)) c.in-Ok.went c.in-Ok.ensures c.requires.worker in
    let second = still_worker c.args.app.now c.args.shared.now c.try_goes.new.self c.try_takes.new.self (FirstRefused (TakeRefused c.args.app.now c.try_goes.new.self.number c.try_takes.new.self) (length c.args.app.now.services.items)) c.in-Ok-try_takes.took c.in-Ok-try_takes.ensures first in
    still_worker c.args.app.now c.args.shared.now c.try_takes.new.self c.try_pulls.new.self (FirstRefused (PullRefused c.args.app.now c.try_takes.new.self.number c.try_pulls.new.self) (length c.args.app.now.subs.items)) c.in-Ok-try_pulls.pulled c.in-Ok-try_pulls.ensures second

pub returns-in-Err-try_ships : goal.returns-in-Err-try_ships
returns-in-Err-try_ships g c =
    comes_stops c.args.app.now c.args.shared.now c.args.self.now c.try_pulls.new.self c.try_ships.new.self
    (ThreeRefused c.args.app.now c.args.shared.now c.args.self.now c.try_goes.new.self c.try_takes.new.self c.in-Ok.went c.in-Ok-try_takes.took c.in-Ok.ensures c.in-Ok-try_takes.ensures c.try_pulls.new.self c.in-Ok-try_pulls.pulled c.in-Ok-try_pulls.ensures)
    (FirstRefused (ShipRefused c.args.app.now c.try_pulls.new.self.number (map ends_of c.try_pulls.new.self.routes.items) c.try_ships.new.self) (length c.try_pulls.new.self.routes.items)) (AllRefused c.args.app.now c.args.self.now.number c.try_ships.new.self.passes.items) ((c.in-Ok.went || c.in-Ok-try_takes.took) || c.in-Ok-try_pulls.pulled) c.in-Err-try_ships.stop
    (three_came c.args.app.now c.args.shared.now c.args.self.now c.try_goes.new.self c.try_takes.new.self c.in-Ok.went c.in-Ok-try_takes.took c.in-Ok.ensures c.in-Ok-try_takes.ensures c.try_pulls.new.self c.in-Ok-try_pulls.pulled c.in-Ok-try_pulls.ensures)
    c.in-Err-try_ships.ensures

pub returns-in-Ok-try_ships : goal.returns-in-Ok-try_ships
returns-in-Ok-try_ships g c =
    subst (λ (b : Bool). Comes c.args.app.now c.args.shared.now c.args.self.now c.try_ships.new.self (AllRefused c.args.app.now c.args.self.now.number c.try_ships.new.self.passes.items) (Ok b))
    (sym (c.either-in-Ok-try_ships-2.ensures ∙ ap (λ (b : Bool). b || c.in-Ok-try_ships.shipped) (c.either-in-Ok-try_ships.ensures ∙ ap (λ (b : Bool). b || c.in-Ok-try_pulls.pulled) c.either.ensures)))
    (round_came c.args.app.now c.args.shared.now c.args.self.now c.try_goes.new.self c.try_takes.new.self c.in-Ok.went c.in-Ok-try_takes.took c.in-Ok.ensures c.in-Ok-try_takes.ensures c.try_pulls.new.self c.in-Ok-try_pulls.pulled c.in-Ok-try_pulls.ensures c.try_ships.new.self c.in-Ok-try_ships.shipped c.in-Ok-try_ships.ensures c.requires.routes)
