use Rattle.std.proofs.Common.{length}
use Rattle.anti_work.specs.inner.Joining.{AreTaking}
use Rattle.anti_work.proofs.gathering.join_passes.Given as goal

-- the passes behind those that are left were joined
abbrev pub invariant-loop-pass : goal.invariant-loop-pass
invariant-loop-pass l = AreTaking l.shared l.fn.firsts.items l.fn.passes.items l.passes.items l.firsts.items

abbrev pub decreases-loop-pass : goal.decreases-loop-pass
decreases-loop-pass l = length l.passes.items
