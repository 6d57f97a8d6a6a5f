use Rattle.std.proofs.Common.{ℕ, arith, refl, ap}
use Rattle.std.proofs.lemmas.Grind.{common_steps}
use Rattle.anti_flight.specs.Queued.{Queued}
use Rattle.anti_inbox.proofs.Standing.{stands_new}
use Rattle.anti_inbox.proofs.inbox.Inbox.new.Goals as goal

pub returns-clause-stands : goal.returns-clause-stands
returns-clause-stands c = stands_new _ c.requires c.len-count.ensures c.in_ok-fates.ensures (ap (λ (w : Queued ℕ). w.items) c.in_ok-free.ensures) (ap (λ (w : Queued ℕ). w.next) c.in_ok-free.ensures) refl c.len-count.ensures

pub returns-clause-start : goal.returns-clause-start
returns-clause-start c = grind (arith, common_steps)
