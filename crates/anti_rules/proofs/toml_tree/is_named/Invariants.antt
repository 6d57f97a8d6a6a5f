use Rattle.std.proofs.Common.{◌≡◌, map, drop}
use Rattle.toml.specs.View.{view}
use Rattle.anti_rules.specs.Trees.{is_named}
use Rattle.anti_rules.proofs.toml_tree.is_named.Given as goal

abbrev pub invariant-loop-value : goal.invariant-loop-value
invariant-loop-value l = is_named l.name (map view (drop l.value-index l.values)) ≡ is_named l.name (map view l.values)
