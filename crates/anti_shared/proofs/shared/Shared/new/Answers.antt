use Rattle.anti_shared.proofs.Seated.{seated_first}
use Rattle.anti_shared.proofs.shared.Shared.new.Goals as goal

pub invariant_of-result-in-Ok-new : goal.invariant_of-result-in-Ok-new
invariant_of-result-in-Ok-new g c =
    seated_first g.M.Machine.start c.in-Ok-new.seat c.in-Ok-new.turn.id _ c.in-Ok-new.ensures.seat tt
