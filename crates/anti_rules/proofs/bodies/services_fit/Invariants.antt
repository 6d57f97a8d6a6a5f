use Rattle.std.proofs.Common.{◌≡◌, map, drop}
use Rattle.std.specs.List.{list_all}
use Rattle.toml.specs.View.{view, table_view}
use Rattle.anti_rules.specs.inner.Parses.{service_fits, services_fit}
use Rattle.anti_rules.proofs.bodies.services_fit.Given as goal

abbrev pub invariant-loop-index : goal.invariant-loop-index
invariant-loop-index l =
    list_all (service_fits l.rule (table_view l.doc)) (map view (drop l.index l.services)) ≡ services_fit l.rule (table_view l.doc)
