use Rattle.std.proofs.Common.{ℕ, ◌<◌, List, reverse, length, sym, subst, arith}
use Rattle.anti_kind.specs.Lones.{IsNumbered}
use Rattle.anti_app.specs.Objects.{object_count}
use Rattle.anti_app.proofs.SoundLemmas.{app_known}
use Rattle.anti_object.specs.declared.object.Object.{Object}
use Rattle.anti_object.specs.Standing.{object_start}
use Rattle.anti_shared.specs.Passes.{PassView, SharedView}
use Rattle.anti_work.specs.inner.Closing.{AreSharedBy}
use Rattle.anti_work.specs.inner.Firsts.{AllMaySplit, AreSharing, IsSharedOf}
use Rattle.anti_work.specs.inner.Knowing.{AreOf}
use Rattle.anti_work.proofs.Firsts.{are_of, are_shared, may_split, next_few, next_fresh, next_numbered, sharing_all, sharing_first, sharing_more}
use Rattle.anti_work.proofs.sharing.share.Goals as goal

pub loop-object-init : goal.loop-object-init
loop-object-init c =
    subst (λ (z : List (SharedView Object) × List (PassView Object)). AreSharing c.args.app.now c.in_ok-left.left.items z.0 z.1)
    (λ i. (sym c.new-shared.ensures.items i, sym c.new-firsts.ensures.items i))
    (sharing_first c.args.app.now c.in_ok-left.left.items c.in_ok-left.ensures)

pub overflow_cast-number : goal.overflow_cast-number
overflow_cast-number c =
    let few : length c.pop.new.self.items < object_count c.args.app.now =
    next_few c.args.app.now c.loop-object.left.items c.pop.new.self.items c.in-Some.object c.in-Some.ensures.some c.loop-object.shared.items c.loop-object.firsts.items
    c.loop-object.invariant in
    let stores = (app_known c.args.app.now c.requires).few_stores in
    let services = (app_known c.args.app.now c.requires).few_services in
    omega (arith, few, stores, services, c.len-number.ensures)

pub share_one-requires-clause-fresh : goal.share_one-requires-clause-fresh
share_one-requires-clause-fresh c =
    next_fresh c.args.app.now c.loop-object.left.items c.pop.new.self.items c.in-Some.object c.in-Some.ensures.some c.loop-object.shared.items c.loop-object.firsts.items
    c.loop-object.invariant

pub share_one-requires-clause-numbered : goal.share_one-requires-clause-numbered
share_one-requires-clause-numbered c =
    subst (IsNumbered (object_start c.in-Some.object)) (sym c.len-number.ensures)
    (next_numbered c.args.app.now c.loop-object.left.items c.pop.new.self.items c.in-Some.object c.in-Some.ensures.some c.loop-object.shared.items
    c.loop-object.firsts.items c.loop-object.invariant)

pub loop-object-preserved : goal.loop-object-preserved
loop-object-preserved c =
    let made = subst (λ (n : ℕ). IsSharedOf n c.in-Some.object (c.in_ok-one.one, c.in_ok-one.first)) c.len-number.ensures c.in_ok-one.ensures in
    subst (λ (z : List (SharedView Object) × List (PassView Object)). AreSharing c.args.app.now c.pop.new.self.items z.0 z.1)
    (λ i. (sym c.in_ok-push.ensures.items i, sym c.in_ok-push-2.ensures.items i))
    (sharing_more c.args.app.now c.loop-object.left.items c.pop.new.self.items c.in-Some.object c.in-Some.ensures.some c.loop-object.shared.items
    c.loop-object.firsts.items c.loop-object.invariant c.in_ok-one.one c.in_ok-one.first made)

pub returns-clause-shared : goal.returns-clause-shared
returns-clause-shared c =
    let app = c.args.app.now in
    let all = sharing_all app c.loop-object.left.items c.loop-object.shared.items c.loop-object.firsts.items c.in_default.ensures.none c.loop-object.invariant in
    subst (AreSharedBy app) (sym c.reverse.ensures.items)
    (are_shared app (reverse c.loop-object.shared.items) (reverse c.loop-object.firsts.items) all.0 all.1)

pub returns-clause-of : goal.returns-clause-of
returns-clause-of c =
    let app = c.args.app.now in
    let all = sharing_all app c.loop-object.left.items c.loop-object.shared.items c.loop-object.firsts.items c.in_default.ensures.none c.loop-object.invariant in
    subst (λ (z : List (SharedView Object) × List (PassView Object)). AreOf z.0 z.1) (λ i. (sym c.reverse.ensures.items i, sym c.reverse-2.ensures.items i))
    (are_of app (reverse c.loop-object.shared.items) (reverse c.loop-object.firsts.items) all.0)

pub returns-clause-room : goal.returns-clause-room
returns-clause-room c =
    let app = c.args.app.now in
    let all = sharing_all app c.loop-object.left.items c.loop-object.shared.items c.loop-object.firsts.items c.in_default.ensures.none c.loop-object.invariant in
    subst (AllMaySplit app.workers) (sym c.reverse-2.ensures.items)
    (may_split app (reverse c.loop-object.shared.items) (reverse c.loop-object.firsts.items) all.0 c.requires)
