use Rattle.std.proofs.Common.{ℕ, get_or, ap, ◌∙◌}
use Rattle.anti_flight.specs.Queued.{Queued}
use Rattle.anti_inbox.proofs.Leaving.{reads_item}
use Rattle.anti_inbox.proofs.deliveries.Deliveries.at.Goals as goal

pub returns : goal.returns
returns c =
    reads_item c.args.index c.self.inside.flight.pairs c.ticket_at.result c.ticket_at.ensures.here c.item.result.now c.item.ensures
    ∙ ap (λ (w : Queued ℕ). get_or w.items c.args.index c.item.result.now) c.self.view_is
