use Rattle.std.proofs.Common.{◌≡◌, length}
use Rattle.anti_baggage.specs.Over.{are_names}
use Rattle.anti_baggage.proofs.over.are_names.Given as goal

abbrev pub invariant-loop-rest : goal.invariant-loop-rest
invariant-loop-rest l = are_names l.rest ≡ are_names l.stores

abbrev pub decreases-loop-rest : goal.decreases-loop-rest
decreases-loop-rest l = length l.rest
