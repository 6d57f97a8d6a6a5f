use Rattle.std.proofs.Common.{refl, ◌≡◌, ℕ, ◌<◌, List, length, true, false, sym, subst, ap, ◌∙◌, arith}
use Rattle.std.specs.Prelude.{Bool, Some, Ok, Err, Result, OnOk}
use Rattle.std.specs.BTreeSet.{keys}
use Rattle.anti_ids.specs.declared.memory.NoMemory.{NoMemory}
use Rattle.anti_kind.specs.declared.awaited.Brought.TheVariants.{Nothing}
use Rattle.anti_kind.specs.declared.call.Call.{Call}
use Rattle.anti_kind.specs.declared.call.Call.TheVariants as calls
use Rattle.anti_kind.specs.declared.entry.Entry.{Entry}
use Rattle.anti_kind.specs.Machines.{StandsFor}
use Rattle.anti_kind.specs.Caches.{stale}
use Rattle.anti_kind.specs.Records.{Record}
use Rattle.anti_app.specs.declared.app.App.{App}
use Rattle.anti_object.specs.declared.object.Object.{Object}
use Rattle.anti_object.specs.Standing.{ObjectStands, object_start}
use Rattle.anti_trace.specs.Traces.{entries_on}
use Rattle.anti_play.specs.Schedule.{carrying, made_at}
use Rattle.anti_play.specs.inner.Attempts.{IsCacheTo}
use Rattle.anti_play.specs.inner.Attending.{Attends, Turned, entry_by_offer, with_entry}
use Rattle.anti_play.specs.inner.Standing.{Chose, IsObject, WorldStands}
use Rattle.anti_play.proofs.Attempting.{attends_none, chosen_lost, vain_lost, went_nowhere}
use Rattle.anti_play.proofs.MakeEntry.{by_and}
use Rattle.anti_play.proofs.Carrying.{carried_attends, carried_is, carried_lost}
use Rattle.anti_play.proofs.Minding.{attends_idle}
use Rattle.anti_play.proofs.Refreshing.{cache_attends, cache_turned, comes_again}
use Rattle.anti_play.proofs.Tried.{chose_false}
use Rattle.anti_play.proofs.world.World.attempt_again.Goals as goal
use Rattle.anti_play.proofs.world.World.attempt_again.Goals.{After-carry, After-stale}

-- the store of the cache
here : (c : After-stale) (app : App) (trace : List Entry) → WorldStands app c.args.self.now trace
    → IsObject app c.args.store c.index-recorded.result.now (entries_on c.args.store trace)
here c app trace s =
    let r : Record Object = c.index-recorded.result.now in
    let short : c.args.store < length c.args.self.now.objects.items = omega (arith, c.args.self.now.objects.ok.0) in
    subst (λ (x : Record Object). IsObject app c.args.store x (entries_on c.args.store trace)) (sym c.index-recorded.ensures) (s.objects.each c.args.store r short)

-- what is to come again next
told : (c : After-stale) → c.stale.result ≡ stale (object_start c.index-recorded.result.now.machine) c.index-recorded.result.now.history c.args.region
told c =
    let r : Record Object = c.index-recorded.result.now in
    c.stale.ensures r.history (subst (λ (m : Object). StandsFor (object_start m) (ObjectStands m) r.history) (sym c.machine.ensures.machine) c.machine.ensures.stands)
    ∙ ap (λ (m : Object). stale (object_start m) r.history c.args.region) c.machine.ensures.machine

-- ---- none is

pub returns-in_default-clause-chose : goal.returns-in_default-clause-chose
returns-in_default-clause-chose c = λ app cache trace s a.
    let at = (goal.at.returns-in_default-clause-chose c).After-stale in
    by_and c.sleep.result false c.and.result c.and.ensures
    (λ (r : Result Bool NoMemory). Turned app trace (entry_by_offer app trace c.args.offer) r c.args.self.now)
    c.sleep.ensures.ok
    (λ put.
    cache_turned app cache.sound c.args.self.now trace s c.args.offer c.args.store cache.replica c.args.region cache.is cache.to c.index-recorded.result.now (here at app trace s)
    (sym c.in_default.is ∙ told at))
    (λ lost. went_nowhere app trace c.args.self.now s)

pub returns-in_default-clause-attends : goal.returns-in_default-clause-attends
returns-in_default-clause-attends c = λ app cache trace s a.
    let at = (goal.at.returns-in_default-clause-attends c).After-stale in
    by_and c.sleep.result false c.and.result c.and.ensures
    (λ (r : Result Bool NoMemory). OnOk r (Attends app (with_entry (entry_by_offer app trace c.args.offer) trace) c.sleep.new.self))
    c.sleep.ensures.ok
    (λ put.
    cache_attends app cache.sound c.args.self.now trace s c.args.offer c.args.store cache.replica c.args.region cache.is cache.to c.index-recorded.result.now (here at app trace s)
    (sym c.in_default.is ∙ told at) c.args.agenda.now c.sleep.new.self a c.requires.awake put)
    (λ lost. tt)

pub returns-in_default-clause-fewer : goal.returns-in_default-clause-fewer
returns-in_default-clause-fewer c =
    by_and c.sleep.result false c.and.result c.and.ensures
    (λ (r : Result Bool NoMemory). r ≡ Ok false → length (keys c.sleep.new.self.awake) < length (keys c.args.agenda.now.awake))
    c.sleep.ensures.ok
    (λ put same. put.left.fewer c.requires.awake)
    (λ lost same. absurd (cc))

-- ---- it is tried

-- the call that is made
abbrev it : After-carry → Call
it c = calls.Again c.args.region c.in-Some.version 1

makes : (c : After-stale) (version : ℕ) → c.stale.result ≡ Some version → (app : App) → IsCacheTo app c.args.offer c.args.store c.args.region
    → (trace : List Entry) → WorldStands app c.args.self.now trace
    → entry_by_offer app trace c.args.offer ≡ made_at app trace (carrying trace c.args.store (calls.Again c.args.region version 1))
makes c version is app cache trace s =
    comes_again app cache.sound c.args.self.now trace s c.args.offer c.args.store cache.replica c.args.region cache.is cache.to c.index-recorded.result.now (here c app trace s)
    version (sym is ∙ told c)

-- what came of it came of the offer
tried : (c : After-carry) (app : App) → IsCacheTo app c.args.offer c.args.store c.args.region → (trace : List Entry) → WorldStands app c.args.self.now trace
    → entry_by_offer app trace c.args.offer ≡ made_at app trace (carrying trace c.args.store (it c)) → (r : Result Bool NoMemory) → c.carry.result ≡ r
    → Chose app trace (entry_by_offer app trace c.args.offer) r c.carry.new.self
tried c app cache trace s same r is =
    subst (λ (x : Result Bool NoMemory). Chose app trace (entry_by_offer app trace c.args.offer) x c.carry.new.self) is
    (carried_is app cache.sound c.args.self.now trace s c.args.offer c.args.store (it c) refl same c.carry.result c.carry.new.self (c.carry.ensures app trace cache.sound s))

pub returns-in_err-carry-clause-chose : goal.returns-in_err-carry-clause-chose
returns-in_err-carry-clause-chose c = λ app cache trace s a.
    let x = c.in_err-carry.field-0.0 in
    chosen_lost app trace (entry_by_offer app trace c.args.offer) x c.from_residual.result c.carry.new.self
    c.from_residual.ensures.0
    (tried ((goal.at.returns-in_err-carry-clause-chose c).After-carry) app cache trace s (makes ((goal.at.returns-in_err-carry-clause-chose c).After-stale) c.in-Some.version c.in-Some.is app cache trace s) (Err x) c.in_err-carry.was)

pub returns-then-not-branch-clause-chose : goal.returns-then-not-branch-clause-chose
returns-then-not-branch-clause-chose c = λ app cache trace s a.
    let none =
    tried ((goal.at.returns-then-not-branch-clause-chose c).After-carry) app cache trace s (makes ((goal.at.returns-then-not-branch-clause-chose c).After-stale) c.in-Some.version c.in-Some.is app cache trace s)
    (Ok false) (c.in_ok-carry.was ∙ ap Ok c.if-not-branch.true) in
    by_and c.idle.result false c.and-then-not-branch.result c.and-then-not-branch.ensures
    (λ (r : Result Bool NoMemory). Turned app trace (entry_by_offer app trace c.args.offer) r c.carry.new.self)
    c.idle.ensures.ok
    (λ idled. none)
    (λ lost. vain_lost app trace (entry_by_offer app trace c.args.offer) (Err lost) c.carry.new.self refl none)

pub returns-then-not-branch-clause-attends : goal.returns-then-not-branch-clause-attends
returns-then-not-branch-clause-attends c = λ app cache trace s a.
    let none =
    (chose_false app trace (entry_by_offer app trace c.args.offer) c.carry.new.self
    (tried ((goal.at.returns-then-not-branch-clause-attends c).After-carry) app cache trace s (makes ((goal.at.returns-then-not-branch-clause-attends c).After-stale) c.in-Some.version c.in-Some.is app cache trace s)
    (Ok false) (c.in_ok-carry.was ∙ ap Ok c.if-not-branch.true))).0 in
    by_and c.idle.result false c.and-then-not-branch.result c.and-then-not-branch.ensures
    (λ (r : Result Bool NoMemory). OnOk r (Attends app (with_entry (entry_by_offer app trace c.args.offer) trace) c.idle.new.self))
    c.idle.ensures.ok
    (λ idled. attends_none app trace (entry_by_offer app trace c.args.offer) c.idle.new.self none (attends_idle app trace c.args.offer c.args.agenda.now c.idle.new.self a c.requires.awake idled none))
    (λ lost. tt)

pub returns-then-not-branch-clause-fewer : goal.returns-then-not-branch-clause-fewer
returns-then-not-branch-clause-fewer c =
    by_and c.idle.result false c.and-then-not-branch.result c.and-then-not-branch.ensures
    (λ (r : Result Bool NoMemory). r ≡ Ok false → length (keys c.idle.new.self.awake) < length (keys c.args.agenda.now.awake))
    c.idle.ensures.ok
    (λ idled same. idled.left.fewer c.requires.awake)
    (λ lost same. absurd (cc))

-- ---- it was made

one : (c : After-carry) (app : App) → IsCacheTo app c.args.offer c.args.store c.args.region → (trace : List Entry) → WorldStands app c.args.self.now trace
    → c.carry.result ≡ Ok true → Chose app trace (made_at app trace (carrying trace c.args.store (it c))) (Ok true) c.carry.new.self
one c app cache trace s is =
    subst (λ (r : Result Bool NoMemory). Chose app trace (made_at app trace (carrying trace c.args.store (it c))) r c.carry.new.self) is (c.carry.ensures app trace cache.sound s)

pub returns-clause-chose : goal.returns-clause-chose
returns-clause-chose c = λ app cache trace s a.
    let at = goal.at.returns-clause-chose c in
    let same = makes at.After-stale c.in-Some.version c.in-Some.is app cache trace s in
    let is = c.in_ok-carry.was ∙ ap Ok c.if-not-branch.false in
    by_and c.stir.result true c.and-2.result c.and-2.ensures
    (λ (r : Result Bool NoMemory). Turned app trace (entry_by_offer app trace c.args.offer) r c.carry.new.self)
    c.stir.ensures
    (λ stirred. tried at.After-carry app cache trace s same (Ok true) is)
    (λ lost.
    carried_lost app cache.sound c.args.self.now trace s c.args.offer c.args.store (it at.After-carry) refl same c.carry.new.self
    (one at.After-carry app cache trace s is) (Err lost) refl)

pub returns-clause-attends : goal.returns-clause-attends
returns-clause-attends c = λ app cache trace s a.
    let at = goal.at.returns-clause-attends c in
    by_and c.stir.result true c.and-2.result c.and-2.ensures
    (λ (r : Result Bool NoMemory). OnOk r (Attends app (with_entry (entry_by_offer app trace c.args.offer) trace) c.stir.new.self))
    c.stir.ensures
    (λ stirred.
    carried_attends app cache.sound c.args.self.now trace s c.args.offer c.args.store (it at.After-carry) refl
    (makes at.After-stale c.in-Some.version c.in-Some.is app cache trace s) c.carry.new.self
    (one at.After-carry app cache trace s (c.in_ok-carry.was ∙ ap Ok c.if-not-branch.false)) c.args.agenda.now c.stir.new.self a Nothing refl stirred)
    (λ lost. tt)
