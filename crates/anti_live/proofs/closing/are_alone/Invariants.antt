use Rattle.anti_live.specs.inner.Closing.{AreAsking}
use Rattle.anti_live.proofs.closing.are_alone.Given as goal

-- those before this place were asked
abbrev pub invariant-loop-at : goal.invariant-loop-at
invariant-loop-at l = AreAsking l.fn.passes.items l.at l.passes.items l.alone
