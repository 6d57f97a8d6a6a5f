use Rattle.std.proofs.Common.{arith}
use Rattle.std.proofs.lemmas.Grind.{common_steps}
use Rattle.anti_app.proofs.Runnable.{can_run}
use Rattle.anti_place.proofs.Shortness.{few_handlers, short_handlers}
use Rattle.anti_place.proofs.placement.placed.Goals as goal

pub placed_in-requires-clause-runs : goal.placed_in-requires-clause-runs
placed_in-requires-clause-runs c = can_run c.args.app.now c.requires

pub placed_in-requires-clause-few : goal.placed_in-requires-clause-few
placed_in-requires-clause-few c =
    few_handlers c.args.app.now c.requires c.as_slice-it-items.result.now c.as_slice-it-items.ensures c.loop-service.service c.it-item.result c.loop-service-test.true
    c.it-item.is c.as_slice.result.now c.as_slice.ensures

pub placed_in-requires-clause-short : goal.placed_in-requires-clause-short
placed_in-requires-clause-short c =
    short_handlers c.args.app.now c.requires c.as_slice-it-items.result.now c.as_slice-it-items.ensures c.loop-service.service c.it-item.result c.loop-service-test.true
    c.it-item.is c.as_slice.result.now c.as_slice.ensures

pub returns : goal.returns
returns c = grind (arith, common_steps)

pub returns-in_default : goal.returns-in_default
returns-in_default c = grind (arith, common_steps)

pub placed_in-requires-clause-service : goal.placed_in-requires-clause-service
placed_in-requires-clause-service c = grind (arith, common_steps)

pub loop-service-preserved : goal.loop-service-preserved
loop-service-preserved c = grind (arith, common_steps)
