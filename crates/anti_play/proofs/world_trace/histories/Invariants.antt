use Rattle.std.proofs.Common.{◌≡◌, map}
use Rattle.anti_play.specs.inner.Closing.{histories_of}
use Rattle.anti_play.proofs.world_trace.histories.Given as goal

-- the histories of the objects so far
abbrev pub invariant-loop-recorded : goal.invariant-loop-recorded
invariant-loop-recorded l = map (λ h. h.items) l.histories.items ≡ histories_of l.yielded
