use Rattle.std.proofs.Common.{◌≡◌, map, drop}
use Rattle.toml.specs.View.{table_view}
use Rattle.anti_rules.specs.inner.Keys.{key_view}
use Rattle.anti_rules.specs.Keys.{are_there}
use Rattle.anti_rules.proofs.table.are_there.Given as goal

abbrev pub invariant-loop-key : goal.invariant-loop-key
invariant-loop-key l = are_there (map key_view (drop l.key-index l.keys)) (table_view l.table) ≡ are_there (map key_view l.keys) (table_view l.table)
