use Rattle.std.proofs.Common.{arith}
use Rattle.anti_work.proofs.Joined.{joining_all, joining_more}
use Rattle.anti_work.proofs.gathering.join_all.Goals as goal

pub loop-done-preserved : goal.loop-done-preserved
loop-done-preserved c =
    joining_more c.args.shared.now c.args.all.items c.loop-done.all.items c.pop.new.self.items c.in-Some.done c.loop-done.firsts.items
    c.in-Some.ensures.items c.loop-done.invariant c.join_passes.new.firsts.items c.join_passes.ensures.of c.join_passes.ensures.taken

pub returns-clause-joined : goal.returns-clause-joined
returns-clause-joined c =
    joining_all c.args.shared.now c.args.all.items c.loop-done.all.items c.loop-done.firsts.items
    (omega (arith, c.in_default.ensures.cases, c.loop-done.all.ok.0)) c.loop-done.invariant
