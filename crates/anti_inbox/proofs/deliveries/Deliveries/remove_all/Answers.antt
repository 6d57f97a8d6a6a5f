use Rattle.std.proofs.Common.{arith}
use Rattle.anti_inbox.proofs.Leaving.{fewer}
use Rattle.anti_inbox.proofs.deliveries.Deliveries.remove_all.Goals as goal

pub invariant_of-self : goal.invariant_of-self
invariant_of-self c =
    let olds = c.self.inside.flight.pairs in let news = c.unlink_all.new.flight.pairs in
    omega (arith, fewer c.args.number olds news c.unlink_all.ensures.left, c.unlink_all.ensures.next, c.self.invariant)
