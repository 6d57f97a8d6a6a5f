use Rattle.std.proofs.Common.{◌≡◌, map, take, drop, []}
use Rattle.toml.specs.View.{view, table_view}
use Rattle.anti_rules.specs.Rules.{rule_line}
use Rattle.anti_rules.specs.Walk.{first_from}
use Rattle.anti_rules.proofs.walk.first_from.Given as goal

abbrev pub invariant-loop-index : goal.invariant-loop-index
invariant-loop-index l =
    first_from (rule_line l.rule (table_view l.doc) l.home l.part) l.part l.item (map view (take l.index l.values)) (map view (drop l.index l.values))
    ≡ first_from (rule_line l.rule (table_view l.doc) l.home l.part) l.part l.before [] (map view l.values)
