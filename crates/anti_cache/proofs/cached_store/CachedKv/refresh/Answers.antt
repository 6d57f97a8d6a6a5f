use Rattle.std.proofs.Common.{Option, sym, ap}
use Rattle.anti_kind.specs.declared.row.Row.{Row}
use Rattle.anti_kind.specs.declared.store_kind.StoreKind.TheVariants.{Cached}
use Rattle.anti_kind.specs.Caches.{cache, refreshed}
use Rattle.anti_kind.specs.Stored.{row_of}
use Rattle.anti_cache.specs.CachedStates.{its_store}
use Rattle.anti_cache.proofs.Standing.{base_at, turn_same}
use Rattle.anti_cache.proofs.cached_store.CachedKv.refresh.Goals as goal

pub returns-in_default-clause-turns : goal.returns-in_default-clause-turns
returns-in_default-clause-turns c = λ h at.
    let m = c.args.self.now in
    let g = c.args.region in
    let pairs = cache Cached m.room h g in
    sym (turn_same m h at g c.requires (refreshed Cached h g (row_of h c.args.version) pairs)
    (ap (λ (o : Option Row). refreshed Cached h g o pairs) (c.in_default.ensures.none (its_store m) h (base_at m h at))))
