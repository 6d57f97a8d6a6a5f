use Rattle.std.proofs.Common.{◌≡◌, drop}
use Rattle.toml.specs.View.{table_view}
use Rattle.anti_rules.specs.Order.{breach_from}
use Rattle.anti_rules.proofs.breach.breach_from.Given as goal

abbrev pub invariant-loop-index : goal.invariant-loop-index
invariant-loop-index l = breach_from (table_view l.doc) l.index (drop l.index l.tried) ≡ breach_from (table_view l.doc) 0 l.tried
