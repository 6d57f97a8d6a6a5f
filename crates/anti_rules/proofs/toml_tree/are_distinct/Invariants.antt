use Rattle.std.proofs.Common.{◌≡◌, map, length}
use Rattle.toml.specs.View.{view}
use Rattle.anti_rules.specs.Trees.{are_distinct}
use Rattle.anti_rules.proofs.toml_tree.are_distinct.Given as goal

abbrev pub invariant-loop-rest : goal.invariant-loop-rest
invariant-loop-rest l = are_distinct (map view l.rest) ≡ are_distinct (map view l.values)

abbrev pub decreases-loop-rest : goal.decreases-loop-rest
decreases-loop-rest l = length l.rest
