-- The caches that are held for the regions.
use Rattle.std.specs.Prelude.{◌≡◌, ℕ, ◌<◌, List, length, slice_index_or}
use Rattle.anti_ids.specs.declared.limits.TheConstants.{MOST_REGIONS}
use Rattle.anti_kind.specs.Caches.{cache}
use Rattle.anti_kind.specs.declared.entry.Entry.{Entry}
use Rattle.anti_kind.specs.declared.store_kind.StoreKind.TheVariants.{Cached}
use Rattle.lru.specs.LruCache.{LruCache, lru_cache}

-- what is held for each region is its cache after the history
pub record AreCaches (caches : List (LruCache (List ℕ) ℕ)) (room : ℕ) (h : List Entry) : Type 0 where
  pub count : length caches ≡ MOST_REGIONS
  pub each : (g : ℕ) (d : LruCache (List ℕ) ℕ) → g < MOST_REGIONS → slice_index_or caches g d ≡ lru_cache (cache Cached room h g) room
