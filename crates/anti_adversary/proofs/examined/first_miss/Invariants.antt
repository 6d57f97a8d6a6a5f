use Rattle.std.proofs.Common.{length}
use Rattle.anti_adversary.specs.inner.Examining.{HasExamined}
use Rattle.anti_adversary.proofs.examined.first_miss.Given as goal

abbrev pub invariant-loop-found : goal.invariant-loop-found
invariant-loop-found l = HasExamined l.trace l.diagnoses.items l.first

abbrev pub decreases-loop-found : goal.decreases-loop-found
decreases-loop-found l = length l.diagnoses.items
