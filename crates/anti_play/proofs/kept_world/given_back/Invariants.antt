use Rattle.anti_play.specs.inner.Kepts.{AreBack}
use Rattle.anti_play.proofs.kept_world.given_back.Given as goal

-- the entries so far are given back
abbrev pub invariant-loop-entry : goal.invariant-loop-entry
invariant-loop-entry l = AreBack l.fn.objects.items l.yielded l.objects.items
