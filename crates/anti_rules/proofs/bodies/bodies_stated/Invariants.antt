use Rattle.std.proofs.Common.{◌≡◌, ◌++◌, map, drop}
use Rattle.toml.specs.View.{view}
use Rattle.anti_rules.specs.inner.Parses.{handler_body, bodies_parse}
use Rattle.anti_rules.proofs.bodies.bodies_stated.Given as goal

-- those that are left decide whether all state a body, and their bodies go behind those that were read
abbrev pub invariant-loop-handler : goal.invariant-loop-handler
invariant-loop-handler l = record {
  parse : bodies_parse (map view (drop l.handler-index l.handlers)) ≡ bodies_parse (map view l.handlers);
  made : l.bodies.items ++ map handler_body (map view (drop l.handler-index l.handlers)) ≡ map handler_body (map view l.handlers);
  spare : l.bodies.spare ≡ 0;
}
