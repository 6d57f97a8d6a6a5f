use Rattle.std.proofs.Common.{◌≡◌, map, drop}
use Rattle.toml.specs.View.{table_view}
use Rattle.anti_rules.specs.inner.Keys.{key_view, fits}
use Rattle.anti_rules.specs.Keys.{all_fit}
use Rattle.anti_rules.proofs.table.all_fit.Given as goal

abbrev pub invariant-loop-key : goal.invariant-loop-key
invariant-loop-key l =
    all_fit (fits l.rule) (map key_view (drop l.key-index l.keys)) (table_view l.table) ≡ all_fit (fits l.rule) (map key_view l.keys) (table_view l.table)
