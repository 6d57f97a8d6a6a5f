use Rattle.anti_shared.proofs.Seated.{seated_load}
use Rattle.anti_shared.proofs.shared.Shared.upto.Goals as goal

pub invariant_of-pass : goal.invariant_of-pass
invariant_of-pass g c =
    seated_load g.M.Machine.start c.pass.inside.seat c.load.new.seat c.pass.inside.raised c.args.region c.load.result c.load.ensures.seat c.pass.invariant
