use Rattle.std.proofs.Common.{◌≡◌, List}
use Rattle.std.specs.Prelude.{find, option_map}
use Rattle.anti_kind.specs.declared.entry.Entry.{Entry}
use Rattle.anti_kind.specs.declared.store_kind.StoreKind.TheVariants.{Cached}
use Rattle.anti_kind.specs.Caches.{is_behind, stale_in}
use Rattle.anti_kind.specs.Stored.{shows_of}
use Rattle.anti_cache.specs.CachedStates.{At, its_store}
use Rattle.anti_cache.proofs.cached_store.CachedKv.stale.Given as goal

-- the first pair that is behind of those to come is the first of all
abbrev pub invariant-loop-key : goal.invariant-loop-key
invariant-loop-key l =
    (h : List Entry) → At l.self h
    → option_map (λ pair. shows_of Cached h l.region pair.0) (find (is_behind Cached h l.region) l.key-iterator) ≡ stale_in (its_store l.self) h l.region
