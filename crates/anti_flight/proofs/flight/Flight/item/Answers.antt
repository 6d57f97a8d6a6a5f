use Rattle.std.proofs.Common.{◌∙◌}
use Rattle.anti_flight.proofs.Pairs.{shown_some, node_at, item_is}
use Rattle.anti_flight.proofs.flight.Flight.item.Goals as goal

pub value-requires : goal.value-requires
value-requires g c =
    let i = c.self.inside in
    node_at c.in-Some.ends c.args.self.now.pairs c.args.ticket.now (shown_some i.ends i.next c.args.self.now c.in-Some.ends c.self.view_is c.in-Some.is) c.requires

pub returns : goal.returns
returns g c =
    λ xs x ys e. let i = c.self.inside in
    item_is c.in-Some.ends c.args.ticket.now c.value.result.now c.value.ensures xs x ys (shown_some i.ends i.next c.args.self.now c.in-Some.ends c.self.view_is c.in-Some.is ∙ e)
