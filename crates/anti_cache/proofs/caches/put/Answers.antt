use Rattle.std.proofs.Common.{ap, ◌∙◌, List}
use Rattle.anti_kind.specs.Caches.{Pair}
use Rattle.anti_cache.proofs.Pairs.{put_absent}
use Rattle.lru.specs.LruCache.{lru_cache}
use Rattle.anti_cache.proofs.caches.put.Goals as goal

pub returns-in-Ok-clause-ok : goal.returns-in-Ok-clause-ok
returns-in-Ok-clause-ok c =
    c.in-Ok.ensures.entries
    ∙ ap (λ (pairs : List Pair). lru_cache pairs c.args.cache.now.cap) (put_absent c.args.cache.now c.args.key c.args.version c.requires c.len-valid.ensures.valid.2)
