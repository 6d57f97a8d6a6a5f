use Rattle.std.proofs.Common.{◌≡◌, ◌<◌, ◌≤◌, List, length, get_or, All, true, refl, ap, sym, ◌∙◌, subst}
use Rattle.std.specs.Prelude.{Option, Some, Result, Ok, Err, is_some}
use Rattle.std.proofs.lemmas.List.{take_all}
use Rattle.std.proofs.lemmas.List.Elements.{All-nil, All-more}
use Rattle.anti_shim.specs.declared.barrier_answer.BarrierAnswer.{BarrierAnswer}
use Rattle.anti_shim.specs.declared.barrier_answer.BarrierAnswer.TheVariants.{Clear, NoMemory}
use Rattle.anti_shim.specs.declared.fault.ShimFault.{ShimFault}
use Rattle.anti_kind.specs.Objects.{Start, store}
use Rattle.anti_shim.specs.declared.looks.PlannedLook.{PlannedLook}
use Rattle.anti_shim.specs.declared.sight.Sight.{Sight}
use Rattle.anti_shim.specs.Plans.{plan}
use Rattle.anti_shim.specs.Steps.{between}
use Rattle.anti_shim.specs.Sights.{has_sight, unseen}
use Rattle.anti_shim.specs.Barriers.{sights_after, idle, BarrierGives}
use Rattle.anti_shim.specs.inner.Looks.{LooksOnce, IsRefusal}
use Rattle.anti_shim.proofs.PlanLemmas.{plan_right}
use Rattle.anti_shim.proofs.BarrierLoop.{Went, done, Turn, is_right, went_start, turn_went, turn_seen, turn_gives, fails, not_refused_so}
use Rattle.anti_shim.proofs.NextCall.{last}
use Rattle.anti_shim.proofs.barrier_call.go_over.Given as given
use Rattle.anti_shim.proofs.barrier_call.go_over.Goals as goal
use Rattle.anti_shim.proofs.barrier_call.go_over.Goals.{After-look, After-as_slice-look-items}

pub loop-look-init : goal.loop-look-init
loop-look-init g c =
    let planned = plan c.args.wanted.here.now c.args.wanted.lineage.now in
    record {
      went = went_start (g.P.Port.start c.args.port.now) (g.P.Port.view c.args.port.now) c.args.who.now c.args.wanted.region planned c.args.cursor.now c.requires.sights;
      not_refused = λ o. idle (refl {a = g.P.Port.view c.args.port.now o});
      unasked = λ o none. refl {a = g.P.Port.view c.args.port.now o};
      covered = All-nil (λ (l : PlannedLook). has_sight c.args.cursor.now l.store ≡ true);
      fixed = λ o. refl;
      rest = refl;
    }

-- without memory for the plan nothing was looked at
pub returns-in_default-clause-answer : goal.returns-in_default-clause-answer
returns-in_default-clause-answer g c =
    let planned = plan c.args.wanted.here.now c.args.wanted.lineage.now in
    let views = g.P.Port.view c.args.port.now in
    done (between g.P.Port c.args.port.now c.args.port.now c.args.who.now c.args.who.now) c.args.wanted.region planned c.args.cursor.now c.args.cursor.now c.args.cursor.now NoMemory
    (went_start (g.P.Port.start c.args.port.now) views c.args.who.now c.args.wanted.region planned c.args.cursor.now c.requires.sights) refl (λ o. idle (refl {a = views o}))

-- the looks that are gone over are the planned ones
pub loop-look-preserved-then-has : goal.loop-look-preserved-then-has
loop-look-preserved-then-has g c =
    let planned = plan c.args.wanted.here.now c.args.wanted.lineage.now in
    let items : c.as_slice-look-items.result.now ≡ planned = c.as_slice-look-items.ensures ∙ ap (λ l. l.items) c.in-Ok.ensures in
    let within : c.loop-look.look-index < length planned = subst (λ (xs : List PlannedLook). c.loop-look.look-index < length xs) items c.loop-look-test.true in
    let is : c.look-item.result ≡ get_or planned c.loop-look.look-index c.look-item.result = c.look-item.is ∙ ap (λ (xs : List PlannedLook). get_or xs c.loop-look.look-index c.look-item.result) items in
    let there : has_sight c.loop-look.cursor (get_or planned c.loop-look.look-index c.look-item.result).store ≡ true =
    ap (λ (l : PlannedLook). has_sight c.loop-look.cursor l.store) (sym is) ∙ sym c.has.ensures ∙ c.if-has.true in
    record {
      went = c.loop-look.invariant.went;
      not_refused = c.loop-look.invariant.not_refused;
      unasked = c.loop-look.invariant.unasked;
      covered = All-more (λ (l : PlannedLook). has_sight c.loop-look.cursor l.store ≡ true) planned c.loop-look.look-index c.look-item.result within c.loop-look.invariant.covered there;
      fixed = c.loop-look.invariant.fixed;
      rest = c.loop-look.invariant.rest;
    }

-- the turn, and what its look did
turn : (g : given.Over) (c : After-look g)
    → Turn (between g.P.Port c.args.port.now c.loop-look.port c.args.who.now c.loop-look.who) c.args.wanted.region (plan c.args.wanted.here.now c.args.wanted.lineage.now) c.args.cursor.now c.loop-look.cursor c.loop-look.look-index c.look-item.result
turn g c =
    let items : c.as_slice-look-items.result.now ≡ plan c.args.wanted.here.now c.args.wanted.lineage.now = c.as_slice-look-items.ensures ∙ ap (λ l. l.items) c.in-Ok.ensures in
    record {
      right = plan_right (g.P.Port.start c.args.port.now) c.args.wanted.region c.args.wanted.here.now c.args.wanted.lineage.now c.requires.here;
      went = c.loop-look.invariant.went;
      not_refused = c.loop-look.invariant.not_refused;
      unasked = c.loop-look.invariant.unasked;
      covered = c.loop-look.invariant.covered;
      within = subst (λ (xs : List PlannedLook). c.loop-look.look-index < length xs) items c.loop-look-test.true;
      is = c.look-item.is ∙ ap (λ (xs : List PlannedLook). get_or xs c.loop-look.look-index c.look-item.result) items;
      fresh = sym c.has.ensures ∙ c.if-has.false;
    }

looked : (g : given.Over) (c : After-look g) (result : Result (Unit {0}) ShimFault) → c.look.result ≡ result
    → LooksOnce (last (between g.P.Port c.args.port.now c.loop-look.port c.args.who.now c.loop-look.who) (g.P.Port.view c.look.new.port) c.look.new.who) c.args.wanted.region c.look-item.result c.loop-look.cursor c.look.new.self result
looked g c result gave =
    let s = last (between g.P.Port c.args.port.now c.loop-look.port c.args.who.now c.loop-look.who) (g.P.Port.view c.look.new.port) c.look.new.who in
    subst (λ (r : Result (Unit {0}) ShimFault). LooksOnce s c.args.wanted.region c.look-item.result c.loop-look.cursor c.look.new.self r) gave
    (subst (λ starts. LooksOnce (record s { starts = starts }) c.args.wanted.region c.look-item.result c.loop-look.cursor c.look.new.self c.look.result) (λ i o. c.loop-look.invariant.fixed o i) c.look.ensures.answer)

went : (g : given.Over) (c : After-look g)
    → Went (between g.P.Port c.args.port.now c.look.new.port c.args.who.now c.look.new.who) c.args.wanted.region (plan c.args.wanted.here.now c.args.wanted.lineage.now) c.args.cursor.now c.look.new.self
went g c = turn_went (turn g c) (looked g c c.look.result refl)

pub loop-look-preserved : goal.loop-look-preserved
loop-look-preserved g c =
    let a = (goal.at.loop-look-preserved g c).After-look in
    let further = turn_seen (turn g a) (looked g a (Ok tt) c.in_default-look.is) in
    record {
      went = went g a;
      not_refused = further.0;
      unasked = further.1;
      covered = further.2;
      fixed = λ o. c.look.ensures.fixed o ∙ c.loop-look.invariant.fixed o;
      rest = c.look.ensures.rest ∙ c.loop-look.invariant.rest;
    }

-- a look that gave a fault
refused : (g : given.Over) (c : After-look g) (fault : ShimFault) → c.look.result ≡ Err fault → (answer : BarrierAnswer) → IsRefusal fault answer
    → let planned = plan c.args.wanted.here.now c.args.wanted.lineage.now in
    BarrierGives (between g.P.Port c.args.port.now c.look.new.port c.args.who.now c.look.new.who) c.args.wanted.region planned (unseen c.args.cursor.now planned) c.look.new.self answer
    × (sights_after answer c.look.new.self ≡ c.look.new.self)
refused g c fault gave answer is = turn_gives (turn g c) (g.P.Port.view c.look.new.port) c.look.new.who c.look.new.self (fails (looked g c (Err fault) gave)) answer is

pub returns-in-Err-clause-answer : goal.returns-in-Err-clause-answer
returns-in-Err-clause-answer g c =
    let a = (goal.at.returns-in-Err-clause-answer g c).After-look in
    let gave = refused g a c.in-Err.fault c.in-Err.is c.refused.result c.refused.ensures in
    done (between g.P.Port c.args.port.now c.look.new.port c.args.who.now c.look.new.who) c.args.wanted.region (plan c.args.wanted.here.now c.args.wanted.lineage.now) c.args.cursor.now c.look.new.self c.look.new.self c.refused.result
    (went g a) gave.1 gave.0

-- a port that waits gave no fault that says that the look is not ready
pub returns-in-Err-clause-waits : goal.returns-in-Err-clause-waits
returns-in-Err-clause-waits g c waits =
    let a = (goal.at.returns-in-Err-clause-waits g c).After-look in
    let right = is_right (turn g a) in
    let start : g.P.Port.start c.loop-look.port c.look-item.result.store ≡ Some (store right.start) = c.loop-look.invariant.fixed c.look-item.result.store ∙ right.is_start in
    not_refused_so c.in-Err.fault c.refused.result c.refused.ensures
    (λ is. c.look.ensures.waits waits (ap (λ (s : Option Start). is_some s) start) (c.in-Err.is ∙ ap Err is))

-- all planned looks were gone over
pub returns-clause-answer : goal.returns-clause-answer
returns-clause-answer g c =
    let planned = plan c.args.wanted.here.now c.args.wanted.lineage.now in
    let items : c.as_slice-look-items.result.now ≡ planned = c.as_slice-look-items.ensures ∙ ap (λ l. l.items) c.in-Ok.ensures in
    let past : length planned ≤ c.loop-look.look-index = subst (λ (xs : List PlannedLook). length xs ≤ c.loop-look.look-index) items c.loop-look-test.false in
    let covered : All (λ l. has_sight c.loop-look.cursor l.store ≡ true) planned =
    subst (λ (xs : List PlannedLook). All (λ l. has_sight c.loop-look.cursor l.store ≡ true) xs) (take_all c.loop-look.look-index planned past) c.loop-look.invariant.covered in
    done (between g.P.Port c.args.port.now c.loop-look.port c.args.who.now c.loop-look.who) c.args.wanted.region planned c.args.cursor.now c.loop-look.cursor c.take.new.self (Clear c.take.result)
    c.loop-look.invariant.went c.take.ensures.sights
    (subst (λ (xs : List Sight). All (λ l. has_sight xs l.store ≡ true) planned) (sym c.take.ensures.sights) covered, c.take.ensures.none)
