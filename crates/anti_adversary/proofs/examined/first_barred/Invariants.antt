use Rattle.std.proofs.Common.{length}
use Rattle.anti_adversary.specs.inner.Examining.{HasSifted}
use Rattle.anti_adversary.proofs.examined.first_barred.Given as goal

abbrev pub invariant-loop-answer : goal.invariant-loop-answer
invariant-loop-answer l = HasSifted l.app l.trace l.answers.items l.first

abbrev pub decreases-loop-answer : goal.decreases-loop-answer
decreases-loop-answer l = length l.answers.items
