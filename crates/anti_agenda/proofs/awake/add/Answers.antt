use Rattle.anti_agenda.proofs.Fronts.{with_behind}
use Rattle.anti_agenda.proofs.KeySets.{with_key}
use Rattle.anti_agenda.proofs.Orders.{offers_exact, offers_total}
use Rattle.anti_agenda.proofs.awake.add.Goals as goal

pub returns-clause-more : goal.returns-clause-more
returns-clause-more c =
    with_behind c.args.others.now c.insert.new.self c.args.behind c.in-Some.behind c.in-Some.is
    (with_key offers_total offers_exact c.args.others.now c.insert.new.self c.in-Some.behind c.in_ok-insert.ensures.updates)
