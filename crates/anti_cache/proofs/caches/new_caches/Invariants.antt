use Rattle.std.proofs.Common.{◌≡◌, [], replicate}
use Rattle.lru.specs.LruCache.{lru_cache}
use Rattle.anti_cache.proofs.caches.new_caches.Given as goal

abbrev pub invariant-loop : goal.invariant-loop
invariant-loop l = l.caches.items ≡ replicate l.counter (lru_cache [] l.room)
