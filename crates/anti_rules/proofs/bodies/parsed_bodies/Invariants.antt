use Rattle.std.proofs.Common.{◌≡◌, ◌++◌, map, drop}
use Rattle.std.specs.List.{list_all}
use Rattle.toml.specs.View.{view, table_view}
use Rattle.anti_rules.specs.Trees.{services_in}
use Rattle.anti_rules.specs.inner.Parses.{service_parses, service_bodies, all_parse}
use Rattle.anti_rules.proofs.bodies.parsed_bodies.Given as goal

-- those that are left decide whether all bodies parse, and their bodies go behind those that were read
abbrev pub invariant-loop-service : goal.invariant-loop-service
invariant-loop-service l = record {
  parse : list_all service_parses (map view (drop l.service-index l.service-items)) ≡ all_parse (table_view l.doc);
  made : l.all.items ++ map service_bodies (map view (drop l.service-index l.service-items)) ≡ map service_bodies (services_in (table_view l.doc));
  spare : l.all.spare ≡ 0;
}
