use Rattle.anti_app.proofs.Runnable.{can_run}
use Rattle.anti_place.proofs.Shortness.{few_handlers, short_handlers}
use Rattle.anti_place.proofs.reviewing.add_of_all.Goals as goal

pub add_of_service-requires-clause-runs : goal.add_of_service-requires-clause-runs
add_of_service-requires-clause-runs c = can_run c.args.app.now c.requires

pub add_of_service-requires-clause-few : goal.add_of_service-requires-clause-few
add_of_service-requires-clause-few c =
    few_handlers c.args.app.now c.requires c.as_slice-it-items.result.now c.as_slice-it-items.ensures c.loop-service.service c.it-item.result c.loop-service-test.true
    c.it-item.is c.as_slice.result.now c.as_slice.ensures

pub add_of_service-requires-clause-short : goal.add_of_service-requires-clause-short
add_of_service-requires-clause-short c =
    short_handlers c.args.app.now c.requires c.as_slice-it-items.result.now c.as_slice-it-items.ensures c.loop-service.service c.it-item.result c.loop-service-test.true
    c.it-item.is c.as_slice.result.now c.as_slice.ensures
