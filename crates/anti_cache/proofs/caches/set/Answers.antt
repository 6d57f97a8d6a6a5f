use Rattle.std.proofs.Common.{List, sym, ap}
use Rattle.std.specs.Prelude.{bytes_eq}
use Rattle.anti_kind.specs.Caches.{Pair}
use Rattle.anti_kind.proofs.Caching.{set_absent}
use Rattle.lru.specs.LruCache.{lru_cache}
use Rattle.anti_cache.proofs.caches.set.Goals as goal

pub returns-in_default : goal.returns-in_default
returns-in_default c =
    let cache = c.args.cache.now in
    ap (λ (pairs : List Pair). lru_cache pairs cache.cap) (sym (set_absent (bytes_eq c.args.key.now) c.args.version cache.entries (sym c.in_default.ensures.value)))
