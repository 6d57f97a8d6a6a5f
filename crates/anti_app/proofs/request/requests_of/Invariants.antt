use Rattle.std.proofs.Common.{◌≡◌, ◌++◌, true, map, drop}
use Rattle.std.specs.List.{list_all}
use Rattle.toml.specs.View.{view}
use Rattle.anti_app.specs.Parts.{request_of}
use Rattle.anti_app.specs.inner.Fit.{is_fit_request}
use Rattle.anti_app.proofs.request.requests_of.Given as goal

-- what is left goes behind what was made
abbrev pub invariant-loop-value : goal.invariant-loop-value
invariant-loop-value l = record {
  made : l.requests.items ++ map (request_of l.services) (map view (drop l.value-index l.values)) ≡ map (request_of l.services) (map view l.values);
  spare : l.requests.spare ≡ 0;
  fit : list_all is_fit_request (map view (drop l.value-index l.values)) ≡ true;
}
