use Rattle.std.proofs.Common.{◌≡◌, ◌++◌, map, drop}
use Rattle.toml.specs.View.{view}
use Rattle.anti_app.specs.inner.Fit.{replica_of}
use Rattle.anti_app.proofs.store.replicas_of.Given as goal

-- what is left goes behind what was made
abbrev pub invariant-loop-value : goal.invariant-loop-value
invariant-loop-value l = record {
  made : l.replicas.items ++ map (replica_of l.regions) (map view (drop l.value-index l.values)) ≡ map (replica_of l.regions) (map view l.values);
  spare : l.replicas.spare ≡ 0;
}
