use Rattle.std.proofs.Common.{◌≡◌, map, drop}
use Rattle.toml.specs.View.{view}
use Rattle.anti_rules.specs.Trees.{named}
use Rattle.anti_rules.proofs.toml_tree.named.Given as goal

abbrev pub invariant-loop-value : goal.invariant-loop-value
invariant-loop-value l = named l.name (map view (drop l.value-index l.values)) ≡ named l.name (map view l.values)
