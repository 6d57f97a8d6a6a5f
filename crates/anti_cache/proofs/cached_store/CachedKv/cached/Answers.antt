use Rattle.std.proofs.Common.{List, sym, ap, arith}
use Rattle.std.specs.Prelude.{bytes_eq}
use Rattle.std.specs.Map.{lookup}
use Rattle.anti_kind.specs.Caches.{Pair}
use Rattle.anti_cache.proofs.Standing.{beyond}
use Rattle.anti_cache.proofs.cached_store.CachedKv.cached.Goals as goal

pub returns-in-None : goal.returns-in-None
returns-in-None c = λ h at.
    let m = c.args.self.now in
    let above = c.in-None.ensures.lookup.3 in
    sym (ap (λ (pairs : List Pair). lookup (bytes_eq c.args.key.now) pairs) (beyond m h at c.args.region (omega (arith, c.as_slice.ensures.len))))
