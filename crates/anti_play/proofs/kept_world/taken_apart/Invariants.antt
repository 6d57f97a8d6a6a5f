use Rattle.std.proofs.Common.{◌≡◌, map}
use Rattle.anti_play.specs.inner.Kepts.{bare, taken}
use Rattle.anti_play.proofs.kept_world.taken_apart.Given as goal

-- what was made of the pairs so far
abbrev pub invariant-loop-pair : goal.invariant-loop-pair
invariant-loop-pair l = record { objects : l.objects.items ≡ map bare l.yielded; histories : l.histories.items ≡ map taken l.yielded }
