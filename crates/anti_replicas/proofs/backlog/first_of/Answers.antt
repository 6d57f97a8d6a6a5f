use Rattle.anti_replicas.proofs.Backlogs.{first_item}
use Rattle.anti_replicas.proofs.backlog.first_of.Goals as goal

pub returns-in-Some : goal.returns-in-Some
returns-in-Some c =
    first_item c.front.result c.in-Some.ticket c.args.flight.now.pairs c.item.result.now c.front.ensures.first c.in-Some.is c.item.ensures
