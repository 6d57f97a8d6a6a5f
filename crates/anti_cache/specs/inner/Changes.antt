-- What a call does to the caches.
use Rattle.std.specs.Prelude.{◌≡◌, ℕ, List, slice_set}
use Rattle.anti_kind.specs.Caches.{Pair}
use Rattle.anti_kind.specs.declared.call.Call.{Call}
use Rattle.anti_kind.specs.declared.call.Call.TheVariants.{Look, Ship}
use Rattle.anti_cache.specs.declared.cached_store.CachedKv.{CachedKv}
use Rattle.lru.specs.LruCache.{lru_cache}

-- a call that writes nothing and changes no cache
abbrev pub IsQuiet : Call → Type 0
IsQuiet (Look region ids dry) = Unit {0}
IsQuiet (Ship region version part) = Unit {0}
IsQuiet _ = ⊥

-- n is m with these pairs in the cache of one region
abbrev pub Turns : CachedKv → CachedKv → ℕ → List Pair → Type 0
Turns m n region pairs = n.caches.items ≡ slice_set m.caches.items region (lru_cache pairs m.room)
