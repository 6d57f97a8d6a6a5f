use Rattle.std.proofs.Common.{◌≡◌, ◌==◌, drop}
use Rattle.std.specs.List.{list_any}
use Rattle.anti_app.specs.Objects.{is_here}
use Rattle.anti_app.proofs.objects.is_here.Given as goal

-- none of those before is in the region
abbrev pub invariant-loop-replica : goal.invariant-loop-replica
invariant-loop-replica l = list_any (λ replica. replica == l.region) (drop l.replica-index l.store.replicas.items) ≡ is_here l.region l.store
