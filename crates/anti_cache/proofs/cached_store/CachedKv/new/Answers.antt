use Rattle.std.proofs.Common.{refl}
use Rattle.anti_cache.specs.declared.cached_store.CachedKv.{CachedKv}
use Rattle.anti_cache.specs.CachedStates.{its_store}
use Rattle.anti_cache.proofs.Standing.{stands_empty}
use Rattle.anti_cache.proofs.cached_store.CachedKv.new.Goals as goal

pub returns-clause-stands : goal.returns-clause-stands
returns-clause-stands c =
    let base = c.in_ok-base.ensures in
    let cached : CachedKv = record { base = c.in_ok-base.base; room = c.args.room; caches = c.in_ok-caches.caches } in
    stands_empty cached (base.stands (its_store cached) (record { kind_is = refl; number_is = base.number; regions_are = base.regions })) c.in_ok-caches.ensures
