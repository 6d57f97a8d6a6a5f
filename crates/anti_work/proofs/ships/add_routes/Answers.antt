-- Each turn adds the route to the next region.
use Rattle.std.proofs.lemmas.Option.{slice_get-get_or}
use Rattle.anti_work.proofs.AtWork.{all_added, none_added, one_added}
use Rattle.anti_work.proofs.ships.add_routes.Goals as goal

pub loop-at-init : goal.loop-at-init
loop-at-init c = none_added c.args.store c.args.regions.now c.args.routes.now.items

pub loop-at-preserved : goal.loop-at-preserved
loop-at-preserved c =
    one_added c.args.store c.args.regions.now c.loop-at.at _ c.args.routes.now.items c.loop-at.routes.items c.add_route.new.routes.items c.loop-at.invariant
    (slice_get-get_or c.args.regions.now c.loop-at.at _ c.loop-at-test.true) c.in_ok-add_route.ensures

pub returns : goal.returns
returns c =
    all_added c.args.store c.args.regions.now c.loop-at.at c.args.routes.now.items c.loop-at.routes.items c.loop-at.invariant c.loop-at-test.false
