use Rattle.std.proofs.Common.{◌≡◌, ◌++◌, true, map, drop}
use Rattle.std.specs.List.{list_all}
use Rattle.toml.specs.View.{view}
use Rattle.anti_rules.specs.Trees.{text_of}
use Rattle.anti_app.specs.inner.Fit.{is_fit_region}
use Rattle.anti_app.proofs.region.regions_of.Given as goal

-- what is left goes behind what was made
abbrev pub invariant-loop-value : goal.invariant-loop-value
invariant-loop-value l = record {
  made : l.regions.items ++ map text_of (map view (drop l.value-index l.values)) ≡ map text_of (map view l.values);
  spare : l.regions.spare ≡ 0;
  fit : list_all is_fit_region (map view (drop l.value-index l.values)) ≡ true;
}
