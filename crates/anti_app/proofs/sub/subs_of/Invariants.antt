use Rattle.std.proofs.Common.{◌≡◌, ◌++◌, true, map, drop}
use Rattle.std.specs.List.{list_all}
use Rattle.toml.specs.View.{view}
use Rattle.anti_app.specs.Parts.{sub_of}
use Rattle.anti_app.specs.inner.Fit.{is_fit_sub}
use Rattle.anti_app.proofs.sub.subs_of.Given as goal

-- what is left goes behind what was made
abbrev pub invariant-loop-value : goal.invariant-loop-value
invariant-loop-value l = record {
  made : l.subs.items ++ map (sub_of l.stores l.services) (map view (drop l.value-index l.values)) ≡ map (sub_of l.stores l.services) (map view l.values);
  spare : l.subs.spare ≡ 0;
  fit : list_all is_fit_sub (map view (drop l.value-index l.values)) ≡ true;
}
