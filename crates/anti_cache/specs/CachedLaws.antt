-- A cached store keeps the laws of its kind: its regions show what a cache has, and else the greatest version that is whole there.
use Rattle.std.specs.Prelude.{◌≡◌, refl}
use Rattle.anti_kind.specs.Store.{Store}
use Rattle.anti_kind.specs.Objects.{store}
use Rattle.anti_kind.specs.Laws.{KeepsLaws}
use Rattle.anti_kind.proofs.Caching.{kinds_keep_laws}
use Rattle.anti_kind.proofs.Keeping.{laws_of_start}
use Rattle.anti_cache.specs.declared.cached_store.CachedKv.{CachedKv}
use Rattle.anti_cache.specs.CachedStates.{its_store, its_start}

pub cached_keeps : (m : CachedKv) (s : Store) → its_start m ≡ store s → KeepsLaws s
cached_keeps m s is = laws_of_start (its_store m) s is (kinds_keep_laws (its_store m) refl)
