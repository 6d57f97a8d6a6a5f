use Rattle.anti_shared.proofs.Seated.{seated_count}
use Rattle.anti_shared.proofs.shared.Shared.alone.Goals as goal

pub invariant_of-pass : goal.invariant_of-pass
invariant_of-pass g c =
    seated_count g.M.Machine.start c.pass.inside.seat c.alone.new.seat c.pass.inside.raised c.alone.new.seat.out c.alone.ensures.seat c.pass.invariant
