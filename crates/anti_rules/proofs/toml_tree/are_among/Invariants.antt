use Rattle.std.proofs.Common.{◌≡◌, map, drop}
use Rattle.toml.specs.View.{view}
use Rattle.anti_rules.specs.Trees.{are_among}
use Rattle.anti_rules.proofs.toml_tree.are_among.Given as goal

abbrev pub invariant-loop-value : goal.invariant-loop-value
invariant-loop-value l = are_among (map view l.others) (map view (drop l.value-index l.values)) ≡ are_among (map view l.others) (map view l.values)
