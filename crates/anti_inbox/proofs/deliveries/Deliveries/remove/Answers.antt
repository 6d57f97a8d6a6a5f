use Rattle.std.proofs.Common.{ℕ, get_or, ap, ◌∙◌}
use Rattle.std.specs.List.{remove}
use Rattle.anti_flight.specs.Queued.{Queued, queued}
use Rattle.anti_inbox.proofs.Leaving.{removes_item}
use Rattle.anti_inbox.proofs.deliveries.Deliveries.remove.Goals as goal

pub returns-clause-value : goal.returns-clause-value
returns-clause-value c =
    let f = c.self.inside.flight in let r = c.unlink.result in
    (removes_item c.args.index f.pairs c.ticket_at-ticket.result c.ticket_at-ticket.ensures.here r f.next c.unlink.new.self c.unlink.ensures.left).0
    ∙ ap (λ (w : Queued ℕ). get_or w.items c.args.index r) c.self.view_is

pub returns-clause-left : goal.returns-clause-left
returns-clause-left c =
    let f = c.self.inside.flight in
    (removes_item c.args.index f.pairs c.ticket_at-ticket.result c.ticket_at-ticket.ensures.here c.unlink.result f.next c.unlink.new.self c.unlink.ensures.left).1
    ∙ ap (λ (w : Queued ℕ). queued (remove w.items c.args.index) w.next) c.self.view_is
