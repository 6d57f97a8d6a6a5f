use Rattle.std.proofs.Common.{◌≡◌, ◌++◌, drop, map}
use Rattle.anti_app.specs.Objects.{store_names}
use Rattle.anti_app.proofs.objects.store_names.Given as goal

-- the names of the stores to come go behind those of the stores before
abbrev pub invariant-loop-store : goal.invariant-loop-store
invariant-loop-store l = l.names.items ++ map (λ store. store.name) (drop l.store-index l.app.stores.items) ≡ store_names l.app
