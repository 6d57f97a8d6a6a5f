use Rattle.std.proofs.Common.{◌≡◌, ◌++◌, true, map, drop, reverse}
use Rattle.std.specs.List.{list_all}
use Rattle.toml.specs.View.{view}
use Rattle.anti_rules.specs.inner.Parses.{handler_body}
use Rattle.anti_app.specs.Parts.{handler_of}
use Rattle.anti_app.specs.inner.Fit.{is_fit_handler}
use Rattle.anti_app.proofs.service.handlers_of.Given as goal

-- what is left goes behind what was made, and its bodies are left
abbrev pub invariant-loop-value : goal.invariant-loop-value
invariant-loop-value l = record {
  made : l.handlers.items ++ map handler_of (map view (drop l.value-index l.values)) ≡ map handler_of (map view l.values);
  spare : l.handlers.spare ≡ 0;
  fit : list_all is_fit_handler (map view (drop l.value-index l.values)) ≡ true;
  bodies : reverse l.bodies_left.items ≡ map handler_body (map view (drop l.value-index l.values));
}
