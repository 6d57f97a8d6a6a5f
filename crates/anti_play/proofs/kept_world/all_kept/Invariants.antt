use Rattle.std.proofs.Common.{◌≡◌, map}
use Rattle.anti_play.specs.inner.Kepts.{at_last}
use Rattle.anti_play.proofs.kept_world.all_kept.Given as goal

-- the objects so far, each with its history
abbrev pub invariant-loop-pair : goal.invariant-loop-pair
invariant-loop-pair l = l.recorded.items ≡ map at_last l.yielded
