use Rattle.std.proofs.Common.{◌≡◌, ◌++◌, true, map, drop, reverse}
use Rattle.std.specs.List.{list_all}
use Rattle.toml.specs.View.{view}
use Rattle.anti_rules.specs.inner.Parses.{service_bodies}
use Rattle.anti_app.specs.Parts.{service_of}
use Rattle.anti_app.specs.inner.Fit.{is_fit_service}
use Rattle.anti_app.proofs.service.services_of.Given as goal

-- what is left goes behind what was made, and its bodies are left
abbrev pub invariant-loop-value : goal.invariant-loop-value
invariant-loop-value l = record {
  made : l.services.items ++ map (service_of l.regions) (map view (drop l.value-index l.values)) ≡ map (service_of l.regions) (map view l.values);
  spare : l.services.spare ≡ 0;
  fit : list_all is_fit_service (map view (drop l.value-index l.values)) ≡ true;
  bodies : reverse l.left.items ≡ map service_bodies (map view (drop l.value-index l.values));
}
