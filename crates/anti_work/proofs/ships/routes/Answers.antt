use Rattle.std.proofs.Common.{sym, subst, arith}
use Rattle.anti_app.proofs.Runnable.{can_run}
use Rattle.anti_work.specs.inner.Rounds.{HasRoutesTo}
use Rattle.anti_work.proofs.AtWork.{all_routes, no_store}
use Rattle.anti_work.proofs.ships.routes.Goals as goal

pub store_count-store-end-requires : goal.store_count-store-end-requires
store_count-store-end-requires c = can_run c.args.app.now c.requires

pub loop-store-init : goal.loop-store-init
loop-store-init c = subst (HasRoutesTo c.args.app.now c.args.number 0) (sym c.new-routes.ensures.items) (no_store c.args.app.now c.args.number)

pub add_store-requires-clause-store : goal.add_store-requires-clause-store
add_store-requires-clause-store c = omega (arith, c.loop-store-test.true, c.store_count-store-end.ensures)

pub returns : goal.returns
returns c =
    all_routes c.args.app.now c.args.number c.loop-store.store c.loop-store.routes.items c.loop-store.invariant
    (omega (arith, c.loop-store-test.false, c.store_count-store-end.ensures))
