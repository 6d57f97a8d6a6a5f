use Rattle.std.proofs.Common.{◌≡◌, ◌++◌, true, map, drop}
use Rattle.std.specs.List.{list_all}
use Rattle.toml.specs.View.{view}
use Rattle.anti_app.specs.Parts.{store_of}
use Rattle.anti_app.specs.inner.Fit.{is_fit_store}
use Rattle.anti_app.proofs.store.stores_of.Given as goal

-- what is left goes behind what was made
abbrev pub invariant-loop-value : goal.invariant-loop-value
invariant-loop-value l = record {
  made : l.stores.items ++ map (store_of l.regions) (map view (drop l.value-index l.values)) ≡ map (store_of l.regions) (map view l.values);
  spare : l.stores.spare ≡ 0;
  fit : list_all is_fit_store (map view (drop l.value-index l.values)) ≡ true;
}
