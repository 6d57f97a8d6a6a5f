use Rattle.std.proofs.Common.{◌≡◌, map, drop}
use Rattle.toml.specs.View.{view, table_view}
use Rattle.anti_rules.specs.Walk.{first_handler}
use Rattle.anti_rules.proofs.walk.first_handler.Given as goal

abbrev pub invariant-loop-service : goal.invariant-loop-service
invariant-loop-service l =
    first_handler l.rule (table_view l.doc) l.before (map view (drop l.service-index l.services)) ≡ first_handler l.rule (table_view l.doc) 0 (map view l.services)
