use Rattle.std.proofs.Common.{ℕ, ◌+◌, ◌++◌, ◌∷◌, [], List, ap, sym, ◌∙◌}
use Rattle.anti_flight.specs.Queued.{Queued, queued}
use Rattle.anti_inbox.proofs.Lists.{range_more}
use Rattle.anti_inbox.proofs.inbox.deliveries.Goals as goal

pub loop-before-preserved : goal.loop-before-preserved
loop-before-preserved c =
    let before : ℕ = c.loop-before.before in
    c.in_ok-push.ensures.ok
    ∙ ap (λ (w : Queued ℕ). queued (w.items ++ (before + 1) ∷ []) (w.next + 1)) c.loop-before.invariant
    ∙ ap (λ (ns : List ℕ). queued ns (before + 1)) (sym (range_more before))
