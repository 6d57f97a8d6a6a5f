use Rattle.std.proofs.Common.{ℕ, ap, ◌∙◌}
use Rattle.anti_flight.specs.Queued.{Queued, queued}
use Rattle.anti_replicas.specs.inner.Backlogs.{remove_first}
use Rattle.anti_replicas.proofs.Backlogs.{first_leaves}
use Rattle.anti_replicas.proofs.backlog.Backlog.remove.Goals as goal

pub returns-in-Some : goal.returns-in-Some
returns-in-Some c =
    let f = c.self.inside.flight in
    first_leaves c.args.group c.in-Some.ticket f.pairs c.in-Some.ensures.some f.next c.unlink-self-inside.result c.unlink-self-inside.new.self c.unlink-self-inside.ensures.left
    ∙ ap (λ (w : Queued ℕ). queued (remove_first c.args.group w.items) w.next) c.self.view_is
